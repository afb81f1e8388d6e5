use Rattle.driver_rows.proofs.Laws.{sym, ◌∙◌, any_device}
use Rattle.driver_rows.proofs.context_rules.areas.touches_devices.Goals as goal

pub returns : goal.returns
returns c = λ h k memory f. c.touches.ensures _ _ f.contexts ∙ sym (any_device h k c.args.from c.args.len)
