use Rattle.driver_rows.proofs.Words.{arith, on_ok_weaker, HoldsSoiled}
use Rattle.driver_rows.proofs.write_effects.devices.soil_context.Goals as goal

pub returns-then-address-words : goal.returns-then-address-words
returns-then-address-words c = grind (arith, on_ok_weaker, HoldsSoiled)
