use Rattle.driver_rows.proofs.Laws.{sym, ◌∙◌, any_context}
use Rattle.driver_rows.proofs.context_rules.leases.touches_inputs.Goals as goal

pub returns : goal.returns
returns c = λ h k memory f. c.touches.ensures _ _ f.inputs ∙ sym (any_context h k c.args.from c.args.len)
