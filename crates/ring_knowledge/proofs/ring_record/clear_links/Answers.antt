use Rattle.ring_knowledge.proofs.Laws.{◌≡◌, ℕ, ◌+◌, List, Bool, Some, Option, ap, sym, ◌∙◌, arith, subst, AreCleared, link_crossed, none_cleared, one_cleared, none_here}
use Rattle.ring_knowledge.proofs.ring_record.clear_links.Goals.{in-Some, in_default}
use Rattle.ring_knowledge.proofs.ring_record.clear_links.Goals as goal

pub loop-position-init : goal.loop-position-init
loop-position-init c = none_cleared (λ q j. link_crossed c.args.shape.now q ≡ Some j) c.args.marks.now.items c.args.from

some_is : (o : Option ℕ) (i j : ℕ) → Some j ≡ o → o ≡ Some i → i ≡ j
some_is o i j e f = cc

pub loop-position-preserved : goal.loop-position-preserved
loop-position-preserved c =
    let R : ℕ → ℕ → Type 0 = λ q j. link_crossed c.args.shape.now q ≡ Some j in
    elim c.match-crossing.branch [
      | in-Some w ↦
          subst (λ (marks : List Bool). AreCleared R c.args.marks.now.items marks c.args.from (c.loop-position.position + 1)) (sym (ap (λ m. m.items) w.marks-is ∙ w.set_mark.ensures))
          (one_cleared R c.args.marks.now.items c.args.from c.loop-position.marks.items c.loop-position.position w.in-Some.segment
          c.loop-position.invariant c.loop-position.auto.position (sym w.in-Some.ensures.value) (λ i h. some_is _ i w.in-Some.segment w.in-Some.ensures.value h))
      | in_default w ↦
          subst (λ (marks : List Bool). AreCleared R c.args.marks.now.items marks c.args.from (c.loop-position.position + 1)) (sym (ap (λ m. m.items) w.marks-is))
          (none_here R c.args.marks.now.items c.args.from c.loop-position.marks.items c.loop-position.position
          c.loop-position.invariant (λ i h. w.in_default.not-Some i (c.crossing.ensures.value ∙ h)))
    ]

pub returns : goal.returns
returns c = λ later.
    let end : c.loop-position.position ≡ c.args.to = omega (arith, c.loop-position.auto.position-end later, c.loop-position-test.false) in
    subst (λ (n : ℕ). AreCleared (λ q j. link_crossed c.args.shape.now q ≡ Some j) c.args.marks.now.items c.loop-position.marks.items c.args.from n) end c.loop-position.invariant
