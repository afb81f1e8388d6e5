use Rattle.driver_rows.proofs.Laws.{arith, option_and_then, taken_device, takes_nothing}
use Rattle.driver_rows.proofs.write_effects.devices.device_taken.Goals as goal

pub returns-in-AddressDevice : goal.returns-in-AddressDevice
unfolding taken_device
returns-in-AddressDevice g c = grind (arith, option_and_then)

pub returns-in_default : goal.returns-in_default
returns-in_default g c = grind (arith, takes_nothing, option_and_then)
