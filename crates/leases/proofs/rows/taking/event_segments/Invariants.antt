use Rattle.leases.proofs.BaseWords.{◌≡◌, ◌<◌, ℕ, false, get_or, Ring, is_event_kind}
use Rattle.leases.proofs.rows.taking.event_segments.Given as goal

-- no ring so far is an event ring
abbrev pub invariant-loop-ring : goal.invariant-loop-ring
invariant-loop-ring l = (i : ℕ) (d : Ring) → i < l.ring-index → is_event_kind (get_or l.header.rings i d).shape.kind ≡ false
