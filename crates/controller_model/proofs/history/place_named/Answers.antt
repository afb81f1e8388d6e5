use Rattle.controller_model.proofs.Laws.{arith, link_target-crossed, at_block, at_crossing}
use Rattle.controller_model.proofs.NamedPlaces.{names}
use Rattle.controller_model.proofs.history.place_named.Goals as goal

pub returns-in-Some-Link-clause-place : goal.returns-in-Some-Link-clause-place
returns-in-Some-Link-clause-place c = grind (arith, names, at_block, at_crossing, link_target-crossed)
