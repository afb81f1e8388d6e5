use Rattle.controller_model.proofs.Laws.{arith, follows_same, command_id-some, command_id-none, pointed_other}
use Rattle.controller_model.proofs.command_rings.point_newest.Goals as goal

pub returns-in-None : goal.returns-in-None
returns-in-None c = grind (arith, command_id-none, follows_same, pointed_other)

pub returns-in-Some : goal.returns-in-Some
returns-in-Some c = λ words w f.
    rw (command_id-some c.args.header.now c.in-Some.ring.now c.in-Some.ensures) (c.point.ensures c.args.header.now words w f)
