use Rattle.ownership_checker.proofs.pass.ring_pass.RingPass.place_behind.Goals as goal

pub returns-in-None : goal.returns-in-None
returns-in-None g c = λ k memory f still. still c.in-None.is

pub returns-in-Some : goal.returns-in-Some
returns-in-Some g c = λ k memory f still. c.place.ensures k memory f
