use Rattle.driver_rows.proofs.Laws.{ap, sym, ◌∙◌, is_bad_area, is_soiled, has_bad_context, stops, goes_on}
use Rattle.driver_rows.proofs.context_rules.rules.has_bad_context.Goals as goal

pub returns-in_default-clause-rule : goal.returns-in_default-clause-rule
unfolding has_bad_context
returns-in_default-clause-rule c = λ k memory f. sym (ap (has_bad_context c.args.header.now k) (sym c.input_context.ensures ∙ c.in_default.is))

pub returns-then-is_bad_area-clause-rule : goal.returns-then-is_bad_area-clause-rule
unfolding has_bad_context
returns-then-is_bad_area-clause-rule c = λ k memory f.
    rw (sym c.input_context.ensures ∙ c.in-Some.is)
    (stops _ _ _ (c.is_bad_area.ensures.rule _ k memory c.requires.headed c.requires.found f ∙ ap (is_bad_area c.args.header.now k c.in-Some.address) c.input_context_bytes-len.ensures) c.if-is_bad_area.true)

pub returns-else-is_bad_area-clause-rule : goal.returns-else-is_bad_area-clause-rule
unfolding has_bad_context
returns-else-is_bad_area-clause-rule c = λ k memory f.
    goes_on _ _ _ _ (c.is_bad_area.ensures.rule _ k memory c.requires.headed c.requires.found f ∙ ap (is_bad_area c.args.header.now k c.in-Some.address) c.input_context_bytes-len.ensures) c.if-is_bad_area.false
    (c.is_soiled.ensures _ k memory f ∙ ap (is_soiled k c.in-Some.address) c.input_context_bytes-len.ensures)
    ∙ sym (ap (has_bad_context c.args.header.now k) (sym c.input_context.ensures ∙ c.in-Some.is))
