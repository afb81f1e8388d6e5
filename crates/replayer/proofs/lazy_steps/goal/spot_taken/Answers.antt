use Rattle.replayer.proofs.MiddleLaws.{arith, ◌∙◌, shape_behind, some_taken, none_taken}
use Rattle.replayer.proofs.lazy_steps.goal.spot_taken.Goals as goal

pub returns-then-blocks-eq0 : goal.returns-then-blocks-eq0
returns-then-blocks-eq0 c = none_taken (shape_behind c.args.shape) c.args.blocks c.if-blocks-eq0.true

pub returns-else-blocks-eq0 : goal.returns-else-blocks-eq0
returns-else-blocks-eq0 c = c.spot_behind.ensures ∙ some_taken (shape_behind c.args.shape) c.args.blocks (omega arith)
