use Rattle.driver_rows.proofs.Laws.{arith, is_some, is_found}
use Rattle.driver_rows.proofs.rings.new_rings.is_named.Goals as goal

pub returns : goal.returns
returns c = grind (arith, is_some, is_found)
