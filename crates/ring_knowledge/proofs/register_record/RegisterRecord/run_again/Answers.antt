use Rattle.std.proofs.Common.{arith}
use Rattle.ring_knowledge.specs.Registers.{runs_again}
use Rattle.ring_knowledge.proofs.register_record.RegisterRecord.run_again.Goals as goal

pub returns-then-resets-clause-follows : goal.returns-then-resets-clause-follows
unfolding runs_again
returns-then-resets-clause-follows c = grind arith

pub returns-then-runs-clause-follows : goal.returns-then-runs-clause-follows
unfolding runs_again
returns-then-runs-clause-follows c = grind arith

pub returns-then-self-clause-follows : goal.returns-then-self-clause-follows
unfolding runs_again
returns-then-self-clause-follows c = grind arith

pub returns-else-self-clause-follows : goal.returns-else-self-clause-follows
unfolding runs_again
returns-else-self-clause-follows c = grind arith
