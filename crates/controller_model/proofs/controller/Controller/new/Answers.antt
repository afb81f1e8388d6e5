use Rattle.controller_model.proofs.Words.{arith, opening}
use Rattle.controller_model.proofs.controller.Controller.new.Goals as goal

pub returns : goal.returns
returns g c =
    let words = g.M.WordMemory.words c.args.memory in
    let h = c.in_ok-declared.declared in
    let follows = c.in_ok-kept.ensures h words c.requires.zero in
    let harms = c.ring_harms-rings.ensures opening follows in
    grind arith
