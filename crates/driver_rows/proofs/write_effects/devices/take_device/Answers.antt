use Rattle.driver_rows.proofs.Laws.{arith, subst, sym, on_ok_weaker, with_device, FollowsDevices, HoldsSoiled, IsWith, address_taken, soiled_with}
use Rattle.driver_rows.proofs.write_effects.devices.take_device.Goals as goal

pub returns-in-None-clause-devices : goal.returns-in-None-clause-devices
unfolding with_device
returns-in-None-clause-devices c = λ h k f. subst (λ o. FollowsDevices (with_device h k o) c.args.devices.now) (sym c.in-None.is) f

pub returns-in-None-clause-soiled : goal.returns-in-None-clause-soiled
unfolding with_device
returns-in-None-clause-soiled c = λ h k same lies holds. subst (λ o. HoldsSoiled ((with_device h k o).soiled) c.args.soiled.now) (sym c.in-None.is) holds

pub returns-in_ok-add_area-in-Some-clause-contexts : goal.returns-in_ok-add_area-in-Some-clause-contexts
returns-in_ok-add_area-in-Some-clause-contexts c =
    on_ok_weaker c.soil_context.result
    (λ soils n old new with holds. c.in_ok-add_area-in-Some.ensures n old new (subst (λ o. IsWith (address_taken o) old new) c.in-Some.is with) holds)
    c.soil_context.ensures

pub returns-in_ok-add_area-in-Some-clause-soiled : goal.returns-in_ok-add_area-in-Some-clause-soiled
returns-in_ok-add_area-in-Some-clause-soiled c = grind (arith, on_ok_weaker, HoldsSoiled, soiled_with)
