use Rattle.driver_rows.proofs.Laws.{arith, ◌∙◌, sym, not-false, not-true, is_no_descriptor, not_passed}
use Rattle.ownership_rules.specs.Withdrawals.{is_unfit}
use Rattle.driver_rows.proofs.rings.withdrawing.withdraw_on.Goals as goal

pub returns-then-not-may_withdraw-clause-refused : goal.returns-then-not-may_withdraw-clause-refused
unfolding is_unfit is_no_descriptor
returns-then-not-may_withdraw-clause-refused c = grind (arith, not-false, not_passed)

pub returns-then-may_tell_value-clause-refused : goal.returns-then-may_tell_value-clause-refused
unfolding is_unfit is_no_descriptor
returns-then-may_tell_value-clause-refused c = grind (arith, not-false, not_passed)

pub returns-clause-rule : goal.returns-clause-rule
unfolding is_unfit is_no_descriptor
returns-clause-rule c = grind (arith, not-true, not_passed)

pub returns-clause-from : goal.returns-clause-from
returns-clause-from c = λ v f low. not_passed c.args.header.now c.args.shape.now v c.args.position low (sym (c.is_passed.ensures c.args.shape.now v f) ∙ c.if-is_passed.false)

pub returns-clause-ok : goal.returns-clause-ok
returns-clause-ok c = λ v f low.
    c.in_ok-withdraw.ensures.ok v f (not_passed c.args.header.now c.args.shape.now v c.args.position low (sym (c.is_passed.ensures c.args.shape.now v f) ∙ c.if-is_passed.false))
