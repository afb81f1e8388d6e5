use Rattle.answers.proofs.Words.{output_failed}
use Rattle.answers.proofs.telling.write_lines.Goals as goal

pub returns-in-Err-clause-written : goal.returns-in-Err-clause-written
returns-in-Err-clause-written g c =
    output_failed c.tell_output_failure.ensures.told.0 c.tell_output_failure.ensures.told.1 c.tell_output_failure.ensures.status
    (rw c.deref.ensures.value at c.write_whole.ensures.beginning) c.tell_output_failure.ensures.told.2
