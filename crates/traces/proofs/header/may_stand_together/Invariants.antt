use Rattle.std.specs.Prelude.{◌≡◌, length}
use Rattle.traces.specs.AllowedHeaders.{may_stand_together}
use Rattle.traces.proofs.header.may_stand_together.Given as goal

-- all may stand together exactly where the rest may
abbrev pub invariant-loop-ring : goal.invariant-loop-ring
invariant-loop-ring l = may_stand_together l.rings ≡ may_stand_together l.rest

-- the rings that are left
abbrev pub decreases-loop-ring : goal.decreases-loop-ring
decreases-loop-ring l = length l.rest
