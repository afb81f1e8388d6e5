use Rattle.replayer.proofs.MiddleLaws.{first_halt, no_first_halt, ◌∙◌, sym}
use Rattle.replayer.proofs.row_notes.rows.is_first_halt.Goals as goal

pub returns-in-Usbsts-Asked : goal.returns-in-Usbsts-Asked
returns-in-Usbsts-Asked c = λ h k f. first_halt h k c.args.register c.args.value c.in-Usbsts-Asked.is-0 (sym (c.halt.ensures k f) ∙ c.in-Usbsts-Asked.is-1)

pub returns-in_default : goal.returns-in_default
returns-in_default c = λ h k f. no_first_halt h k c.args.register c.args.value c.in_default.is-0 (λ asked. c.in_default.not-Asked-1 (c.halt.ensures k f ∙ asked))
