use Rattle.controller_model.proofs.Laws.{◌<◌, length, arith, read_at}
use Rattle.controller_model.proofs.rings.ring_state.Goals as goal

pub returns : goal.returns
returns c = λ h words w f.
    let inside : c.args.ring < length c.args.kept.now.rings.items = omega (arith, c.args.kept.now.rings_many, c.ranges.ring) in
    f.rings.each c.args.ring c.index.result.now
    (read_at c.args.kept.now.rings.items c.from.result c.args.ring c.index.result.now c.from.ensures inside c.index.ensures)
