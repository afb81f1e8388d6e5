-- What was and is lent is in step with the leases that are open
use Rattle.std.specs.Prelude.{◌≡◌, ℕ, true, List}
use Rattle.traces.specs.declared.header.Header.{Header}
use Rattle.traces.specs.declared.ring.Ring.{Ring}
use Rattle.traces.specs.Header.{driver_rings}
use Rattle.ring_knowledge.specs.Known.{Known}
use Rattle.ownership_rules.proofs.Among.{IsIn}
use Rattle.ownership_rules.specs.OpenLeases.{Leased, is_among, open_leases}
use Rattle.leases.specs.LeaseBooks.Books.{AllUnended}
use Rattle.leases.specs.LeaseBooks.Lents.{Lent}
use Rattle.leases.specs.LeaseBooks.Ranges.{is_lent}

-- what is lent and not over is open
abbrev pub AreOpen : Header → Known → List Lent → Type 0
AreOpen h k ts = AllUnended (λ i l. is_among (open_leases h k) l ≡ true) 0 ts

-- and what is open is lent and not over
pub record IsInStep (h : Header) (k : Known) (ts : List Lent) : Type 0 where
  pub opened : AreOpen h k ts
  pub lent : (l : Leased) → is_among (open_leases h k) l ≡ true → is_lent ts l ≡ true

-- what is free of the rings that the driver fills was given
abbrev pub FreeWasGiven : Header → Known → Type 0
FreeWasGiven h k = (q : Ring) → IsIn q (driver_rings h) → (p : ℕ) → (k.ring q.id).free p ≡ true → (k.ring q.id).given p ≡ true
