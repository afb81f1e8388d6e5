use Rattle.plan_writer.proofs.Words.{rules, printed_line}
use Rattle.plan_writer.proofs.print.head.Goals as goal

pub returns : goal.returns
unfolding printed_line
returns c = search rules
