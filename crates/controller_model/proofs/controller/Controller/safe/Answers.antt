use Rattle.controller_model.proofs.Words.{◌∙◌, ap, sym, harm_of}
use Rattle.controller_model.proofs.controller.Controller.safe.Goals as goal

pub returns-in-None : goal.returns-in-None
returns-in-None g c = λ x s.
    let f = s.followed in
    let words = g.M.WordMemory.words c.args.self.now.memory in
    c.in-None.ensures words x.world f.follows.follows (rw f.follows.header at f.rings) ∙ ap (λ k. harm_of k x.world) (sym f.follows.header)

pub returns-in-Some : goal.returns-in-Some
returns-in-Some g c = λ x s.
    let f = s.followed in
    let words = g.M.WordMemory.words c.args.self.now.memory in
    c.in-Some.ensures words x.world f.follows.follows (rw f.follows.header at f.rings) ∙ ap (λ k. harm_of k x.world) (sym f.follows.header)
