use Rattle.driver_rows.proofs.Words.{◌≡◌, ◌*◌, false, take, list_any, touches_ring, Known, FollowsTrace, is_bad_segment}
use Rattle.driver_rows.proofs.rings.new_rings.is_bad_ring.Given as goal

-- none of the segments so far is bad
abbrev pub invariant-loop-segment : goal.invariant-loop-segment
invariant-loop-segment g l =
    ((k : Known) → FollowsTrace l.header k l.kept (g.M.WordMemory.words l.memory) → list_any (is_bad_segment l.header k) (take l.segment-index l.ring.shape.segments) ≡ false)
    × (list_any (λ s. touches_ring l.header s.base (16 * s.count)) (take l.segment-index l.ring.shape.segments) ≡ false)
