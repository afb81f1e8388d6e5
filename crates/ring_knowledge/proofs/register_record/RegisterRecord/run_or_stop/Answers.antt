use Rattle.std.proofs.Common.{arith}
use Rattle.ring_knowledge.specs.Registers.{run_or_stop}
use Rattle.ring_knowledge.proofs.register_record.RegisterRecord.run_or_stop.Goals as goal

pub returns-then-has_runs-clause-follows : goal.returns-then-has_runs-clause-follows
unfolding run_or_stop
returns-then-has_runs-clause-follows c = grind arith

pub returns-else-has_runs-clause-follows : goal.returns-else-has_runs-clause-follows
unfolding run_or_stop
returns-else-has_runs-clause-follows c = grind arith
