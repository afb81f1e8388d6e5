use Rattle.event_rows.proofs.Words.{SlotGoesOn, changed_by, changed_by_all}
use Rattle.event_rows.proofs.completions.success.drop_endpoints.Goals as goal

pub returns : goal.returns
unfolding changed_by_all
returns c = λ h k f. c.disable.ensures h c.args.command.now (changed_by h c.args.command.now k (SlotGoesOn c.args.slot)) (c.go_on.ensures h k f)
