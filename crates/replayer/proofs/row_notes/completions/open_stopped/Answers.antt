use Rattle.replayer.proofs.MiddleLaws.{sym, open_stopped, failed_stop}
use Rattle.replayer.proofs.row_notes.completions.open_stopped.Goals as goal

pub returns-in_default : goal.returns-in_default
unfolding open_stopped
returns-in_default c = λ h k m headed found f d. rw c.in_default.is

pub returns-then-code-ne1 : goal.returns-then-code-ne1
returns-then-code-ne1 c = λ h k m headed found f d. rw c.in-Some.is (sym (failed_stop k c.args.code c.in-Some.command c.if-code-ne1.true))

pub returns : goal.returns
returns c = λ h k m headed found f d. rw (c.in-Some.is, c.if-code-ne1.false) (c.stopped_by.ensures h k m headed found f d)
