use Rattle.controller_model.proofs.Words.{◌≡◌, ◌∙◌, sym, arith, inl, inr, is_scribbled, cases_lt, any_in_range, none_in_range}
use Rattle.controller_model.proofs.scribbles.may_scribble.Goals as goal

pub returns-then-is_scribbled : goal.returns-then-is_scribbled
returns-then-is_scribbled g c = λ w f.
    sym (any_in_range (is_scribbled c.args.header.now w c.args.at) 0 256 c.loop-slot.slot (omega arith) (omega arith) (sym (c.is_scribbled.ensures w f) ∙ c.if-is_scribbled.true))

pub returns-else-is_scribbled : goal.returns-else-is_scribbled
returns-else-is_scribbled g c = λ w f.
    sym (none_in_range (is_scribbled c.args.header.now w c.args.at) 0 256 (λ s l h. elim (cases_lt s c.loop-slot.slot) [
      | inl before ↦ c.loop-slot.invariant w f s before
      | inr here ↦
          let same : s ≡ c.loop-slot.slot = omega arith in
          rw (← same) at (sym (c.is_scribbled.ensures w f) ∙ c.if-is_scribbled.false)
    ]))
