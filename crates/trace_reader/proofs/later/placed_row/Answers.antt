use Rattle.trace_reader.proofs.Laws.{plain_placed}
use Rattle.trace_reader.proofs.later.placed_row.Goals as goal

pub returns-in-Plain : goal.returns-in-Plain
returns-in-Plain c st rings later = rw c.in-Plain.is (plain_placed st c.in-Plain.plain.row c.in-Plain.plain.plain)
