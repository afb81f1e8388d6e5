use Rattle.driver_rows.proofs.Laws.{arith, is_some, takes_none, none_under_lease, takes_named}
use Rattle.driver_rows.proofs.write_effects.devices.new_device.Goals as goal

pub returns-then-is_some : goal.returns-then-is_some
returns-then-is_some g c = grind (arith, takes_none, is_some)

pub returns : goal.returns
returns g c = grind (arith, is_some, takes_named, none_under_lease)
