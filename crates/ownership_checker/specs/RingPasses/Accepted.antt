-- What an accepted trace is, between the rows of which rings may come and go, and descriptors be withdrawn
use Rattle.std.specs.Prelude.{◌≡◌, ◌≤◌, ℕ, Bool, true, false, List, None, length, reverse, take}
use Rattle.segments.specs.RingKeeps.{IsRestored}
use Rattle.segments.specs.Walk.{WalkReads}
use Rattle.traces.specs.declared.header.Header.{Header}
use Rattle.traces.specs.declared.row.Row.{Row}
use Rattle.traces.specs.Header.{shape_of}
use Rattle.trace_reader.specs.TraceOfText.{TraceText}
use Rattle.ring_knowledge.specs.declared.lease.Lease.{Lease}
use Rattle.safety.specs.DriverRings.{IsDriverRing}
use Rattle.ring_knowledge.specs.Histories.{header_now, known_now}
use Rattle.safety.specs.Harmless.{DoNoHarm}
use Rattle.ownership_rules.specs.Leases.{leases as leases_of}
use Rattle.ownership_rules.specs.Rules.{trace_verdict}

-- behind any number of rows, of each command and transfer ring that is there then, and of which nothing that was withdrawn is the driver's still:
-- the walk through memory from the floor's spot reads whole descriptors as they were declared, up to one border, and waits there; it reads no
-- Link that wasn't given, and nothing outside the ring
abbrev pub WalksRead : Header → List Row → Type 0
WalksRead h rows =
    (done r : ℕ) → done ≤ length rows → IsDriverRing (header_now h (reverse (take done rows))) r →
    IsRestored ((known_now h (reverse (take done rows))).ring r) →
    WalkReads (shape_of (header_now h (reverse (take done rows))) r) (known_now h (reverse (take done rows))).memory ((known_now h (reverse (take done rows))).ring r)

-- a trace is accepted with these leases: no row breaks a rule, and they are its leases
pub record IsAccepted (trace : TraceText) (leases : List Lease) : Type 0 where
  pub verdict : trace_verdict trace.header trace.first trace.rows ≡ None
  pub certified : leases ≡ leases_of trace.header trace.first trace.rows

-- a trace is accepted with these leases; a walk behind any of its rows reads what was declared; and no run of the controller's model beside
-- its rows does harm
pub record IsSound (trace : TraceText) (leases : List Lease) : Type 0 where
  pub accepted : IsAccepted trace leases
  pub walk : WalksRead trace.header trace.rows
  pub harmless : DoNoHarm trace.header trace.rows

-- what is answered to leases beside a trace. Yes: so it is of the trace with these leases; no: some row breaks a rule, or these aren't its
-- leases
abbrev pub IsVerified : TraceText → List Lease → Bool → Type 0
IsVerified trace leases true = IsSound trace leases
IsVerified trace leases false = ¬ IsAccepted trace leases
