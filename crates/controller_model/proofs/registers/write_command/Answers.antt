use Rattle.controller_model.proofs.Words.{◌∙◌, sym, Usbcmd, register_row, run_or_stop, valued}
use Rattle.controller_model.proofs.registers.write_command.Goals as goal

pub returns-then-has_runs : goal.returns-then-has_runs
unfolding register_row run_or_stop
returns-then-has_runs c = λ words w f.
    simp (sym c.has_runs.ensures ∙ c.if-has_runs.true)
    (c.run_again.ensures c.args.header.now words (valued w Usbcmd c.args.value) (c.note.ensures c.args.header.now words w f))

pub returns-else-has_runs : goal.returns-else-has_runs
unfolding register_row run_or_stop
returns-else-has_runs c = λ words w f.
    simp (sym c.has_runs.ensures ∙ c.if-has_runs.false)
    (c.run_once.ensures c.args.header.now words (valued w Usbcmd c.args.value) (c.note.ensures c.args.header.now words w f))
