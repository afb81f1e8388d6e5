-- The command and transfer rings
use Rattle.std.specs.Prelude.{◌≡◌, ℕ, true}
use Rattle.traces.specs.declared.header.Header.{Header}
use Rattle.traces.specs.Header.{ring_with}
use Rattle.ownership_rules.specs.Declarations.{is_driver_ring}

module _ (h : Header) where
  -- the ID of a command or transfer ring
  abbrev pub IsDriverRing : ℕ → Type 0
  IsDriverRing r = is_driver_ring (ring_with h r) ≡ true
