use Rattle.controller_model.proofs.NamedPlaces.{at_block}
use Rattle.controller_model.proofs.history.data_place.Goals as goal

pub returns-in-Some-Data-clause-place : goal.returns-in-Some-Data-clause-place
returns-in-Some-Data-clause-place c = λ p same. let there = at_block c.args.shape.now c.places.ensures.allowed c.args.address p same in cc

pub returns-in-Some-Link-clause-place : goal.returns-in-Some-Link-clause-place
returns-in-Some-Link-clause-place c = λ p same. let there = at_block c.args.shape.now c.places.ensures.allowed c.args.address p same in cc

pub returns-in-None-clause-place : goal.returns-in-None-clause-place
returns-in-None-clause-place c = λ p same. let there = at_block c.args.shape.now c.places.ensures.allowed c.args.address p same in cc
