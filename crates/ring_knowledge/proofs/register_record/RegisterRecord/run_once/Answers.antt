use Rattle.std.proofs.Common.{arith}
use Rattle.ring_knowledge.specs.Registers.{runs_once}
use Rattle.ring_knowledge.proofs.register_record.RegisterRecord.run_once.Goals as goal

pub returns-after-not-runs-clause-follows : goal.returns-after-not-runs-clause-follows
unfolding runs_once
returns-after-not-runs-clause-follows c = grind arith

pub returns-after-runs-clause-follows : goal.returns-after-runs-clause-follows
unfolding runs_once
returns-after-runs-clause-follows c = grind arith
