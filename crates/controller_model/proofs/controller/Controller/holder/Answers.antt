use Rattle.controller_model.proofs.Words.{◌∙◌, ◌&&◌, refl, ap, arith, eq-eqb, is_holder}
use Rattle.controller_model.proofs.controller.Controller.holder.Goals as goal

pub returns-in-Some-clause-held : goal.returns-in-Some-clause-held
returns-in-Some-clause-held g c = λ x s.
    let e = c.in-Some.holder in
    let f = (c.ring_state.ensures c.args.self.now.lists.declared (g.M.WordMemory.words c.args.self.now.memory) x.world s.followed.follows.follows).holder in
    f.each e.slot e.index (f.is_one e c.in-Some.is) ∙ rw c.in-Some.is (λ k. eq-eqb e.slot e.slot refl k && eq-eqb e.index e.index refl k)

-- no holder has an index that no endpoint has
pub returns-in_default-clause-free : goal.returns-in_default-clause-free
returns-in_default-clause-free g c = λ x s none slot endpoint is.
    let f = (c.ring_state.ensures c.args.self.now.lists.declared (g.M.WordMemory.words c.args.self.now.memory) x.world s.followed.follows.follows).holder in
    let below = (f.is_one c.in-Some.holder c.in-Some.is).index_below in
    absurd (omega (arith, below, c.if-holder-lt32.false))

pub returns-in_default-2-clause-free : goal.returns-in_default-2-clause-free
returns-in_default-2-clause-free g c = λ x s none slot endpoint is.
    let f = (c.ring_state.ensures c.args.self.now.lists.declared (g.M.WordMemory.words c.args.self.now.memory) x.world s.followed.follows.follows).holder in
    f.each slot endpoint is ∙ ap (λ o. is_holder o slot endpoint) c.in_default.is
