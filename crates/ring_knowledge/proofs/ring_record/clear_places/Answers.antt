use Rattle.ring_knowledge.proofs.Laws.{◌≡◌, ℕ, ◌+◌, ◌∙◌, List, Bool, sym, arith, subst, AreCleared, none_cleared, one_cleared, place_of}
use Rattle.ring_knowledge.proofs.ring_record.clear_places.Goals as goal

pub loop-position-init : goal.loop-position-init
loop-position-init c = none_cleared (λ p i. place_of c.args.shape.now p ≡ i) c.args.marks.now.items c.args.from

pub loop-position-preserved : goal.loop-position-preserved
loop-position-preserved c =
    let R : ℕ → ℕ → Type 0 = λ p i. place_of c.args.shape.now p ≡ i in
    subst (λ (marks : List Bool). AreCleared R c.args.marks.now.items marks c.args.from (c.loop-position.position + 1)) (sym c.set_mark.ensures)
    (one_cleared R c.args.marks.now.items c.args.from c.loop-position.marks.items c.loop-position.position _
    c.loop-position.invariant c.loop-position.auto.position (sym c.place.ensures.value) (λ i h. sym h ∙ sym c.place.ensures.value))

pub returns : goal.returns
returns c = λ later.
    let end : c.loop-position.position ≡ c.args.to = omega (arith, c.loop-position.auto.position-end later, c.loop-position-test.false) in
    subst (λ (n : ℕ). AreCleared (λ p i. place_of c.args.shape.now p ≡ i) c.args.marks.now.items c.loop-position.marks.items c.args.from n) end c.loop-position.invariant
