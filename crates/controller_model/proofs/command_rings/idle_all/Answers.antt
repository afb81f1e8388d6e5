use Rattle.controller_model.proofs.Laws.{take, idle, arith, follows_along, take_past, idle_more, idle_none}
use Rattle.controller_model.proofs.command_rings.idle_all.Goals as goal

pub loop-ring-init : goal.loop-ring-init
loop-ring-init c = λ h words w f. follows_along h words _ _ w (idle_none w) f

pub loop-ring-preserved : goal.loop-ring-preserved
loop-ring-preserved c = λ h words w f.
    rw (idle_more w c.args.rings.now c.loop-ring.ring-index c.ring-item.result (omega arith) c.ring-item.is) at
    (c.idle_one.ensures h words (idle w (take c.loop-ring.ring-index c.args.rings.now)) (c.loop-ring.invariant h words w f))

pub returns : goal.returns
returns c = λ h words w f.
    rw (take_past c.args.rings.now c.loop-ring.ring-index (omega arith)) at (c.loop-ring.invariant h words w f)
