use Rattle.replayer.proofs.MiddleLaws.{◌∙◌, all_prompt}
use Rattle.replayer.proofs.scheduler.rings.rings_behind.Goals as goal

pub loop-row-init : goal.loop-row-init
loop-row-init c = c.in_ok-rings.ensures ∙ all_prompt c.args.header.now.rings
