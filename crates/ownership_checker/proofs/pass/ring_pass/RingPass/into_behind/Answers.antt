use Rattle.ownership_checker.proofs.Words.{arith}
use Rattle.ownership_checker.proofs.pass.ring_pass.RingPass.into_behind.Goals as goal

pub returns : goal.returns
returns g c = grind arith
