use Rattle.event_rows.proofs.Laws.{◌∙◌, sym, still_follows}
use Rattle.event_rows.proofs.transfers.reporting.note_state.Goals as goal

pub returns-else-not-is_success : goal.returns-else-not-is_success
returns-else-not-is_success c = λ h k r spot f.
    still_follows h k c.args.report.code c.args.report.slot c.args.report.index r spot (sym c.is_success.ensures ∙ c.if-not-is_success.false) c.args.devices.now f
