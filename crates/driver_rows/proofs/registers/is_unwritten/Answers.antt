use Rattle.driver_rows.proofs.Words.{ap, not, is_written, is_unwritten}
use Rattle.driver_rows.proofs.registers.is_unwritten.Goals as goal

pub returns : goal.returns
unfolding is_written is_unwritten
returns c = λ k f. ap not (c.is_written.ensures k f)
