use Rattle.controller_model.proofs.Laws.{sym, ◌∙◌, arith, own_some, own_none}
use Rattle.controller_model.proofs.trials.has_own.Goals as goal

pub returns-then-is_other_with : goal.returns-then-is_other_with
returns-then-is_other_with c =
    sym (own_some c.args.rings.now c.args.index c.args.ring c.loop-other.other c.loop-other.auto.other c.loop-other-test.true
    (sym c.is_other_with.ensures ∙ c.if-is_other_with.true))

pub returns : goal.returns
returns c = sym (own_none c.args.rings.now c.args.index c.args.ring (λ k low high. c.loop-other.invariant k low (omega (arith, high, c.loop-other-test.false))))
