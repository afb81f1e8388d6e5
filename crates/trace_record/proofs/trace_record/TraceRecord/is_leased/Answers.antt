use Rattle.trace_record.proofs.Laws.{◌∙◌, ◌||◌, sym, ap, leased_is}
use Rattle.trace_record.specs.Owned.{others_have}
use Rattle.trace_record.proofs.trace_record.TraceRecord.is_leased.Goals as goal

pub returns-then-is_lent : goal.returns-then-is_lent
returns-then-is_lent c = λ h k memory f lent.
    c.if-is_lent.true ∙ sym (leased_is h k c.args.at ∙ ap (λ b. b || others_have h k c.args.at) (sym lent ∙ c.if-is_lent.true))

pub returns-else-is_lent : goal.returns-else-is_lent
returns-else-is_lent c = λ h k memory f lent.
    c.is_leased_beside_rings.ensures h k memory f ∙ sym (leased_is h k c.args.at ∙ ap (λ b. b || others_have h k c.args.at) (sym lent ∙ c.if-is_lent.false))
