use Rattle.ownership_checker.proofs.RingPasses.Steps.{no_harm}
use Rattle.ownership_checker.proofs.pass.ring_pass.RingPass.into_log.Goals as goal

pub returns : goal.returns
returns g c = record { harmless = λ h past p are. no_harm g.M.WordMemory.words h past c.args.self p are; logged = λ list h first past held. held.held }
