use Rattle.trace_record.proofs.Laws.{arith}
use Rattle.ownership_rules.specs.Rings.{is_in_use}
use Rattle.trace_record.proofs.trace_record.TraceRecord.uses_command_ring.Goals as goal

pub returns-then-not-is_started : goal.returns-then-not-is_started
unfolding is_in_use
returns-then-not-is_started c = λ k id f g there. grind (arith, c.is_started.ensures k f)

pub returns-then-not-is_done : goal.returns-then-not-is_done
unfolding is_in_use
returns-then-not-is_done c = λ k id f g there. grind (arith, c.is_started.ensures k f, c.halt.ensures k f, c.is_done.ensures)

pub returns-else-not-is_done : goal.returns-else-not-is_done
unfolding is_in_use
returns-else-not-is_done c = λ k id f g there. grind (arith, c.is_started.ensures k f, c.halt.ensures k f, c.is_done.ensures, c.may_be_taken.ensures k g there)
