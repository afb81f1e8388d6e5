-- Before the first row a driver keeps everything
use Rattle.safety.proofs.MiddleLaws.{rules, false≢true, none-some, slice_get_past, Header, nothing, DriverKeeps, driver_test, from_parts, nothing_endpoints, MayBegin, shape_unmoved, command_id}
use Rattle.safety.proofs.RingsKeep.DriverRows.{nothing_keeps}

module _ (h : Header) where
  -- nothing is known
  pub nothing_kept : MayBegin h → DriverKeeps h nothing
  unfolding nothing
  nothing_kept is = search (rules, nothing_keeps, shape_unmoved h is.1 (command_id h), driver_test, slice_get_past, from_parts, nothing_endpoints, none-some, false≢true)
