use Rattle.controller_model.proofs.Laws.{follows_along, idle, placed_is}
use Rattle.controller_model.proofs.command_rings.place_commands.Goals as goal

pub returns : goal.returns
returns c = λ words w f.
    follows_along c.args.header.now words _ _ _ (placed_is c.args.header.now w c.args.value)
    (c.point_newest.ensures words (idle w c.args.header.now.rings) (rw c.as_slice.ensures at (c.idle_all.ensures c.args.header.now words w f)))
