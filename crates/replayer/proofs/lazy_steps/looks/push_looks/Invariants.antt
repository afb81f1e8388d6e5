use Rattle.replayer.proofs.Words.{◌≡◌, ◌-◌, ◌++◌, map, rank, Look, spots_before, shape_behind}
use Rattle.replayer.proofs.lazy_steps.looks.push_looks.Given as goal

abbrev pub invariant-loop-to : goal.invariant-loop-to
invariant-loop-to l =
    l.steps.items ++ map (λ t. Look l.ring) (spots_before (shape_behind l.shape) l.at l.to) ≡ l.fn.steps.items ++ map (λ t. Look l.ring) (spots_before (shape_behind l.shape) l.fn.from l.to)

abbrev pub decreases-loop-to : goal.decreases-loop-to
decreases-loop-to l = rank l.to - rank l.at
