use Rattle.driver_rows.proofs.RingBindings.BindingLists.{binds_none}
use Rattle.driver_rows.proofs.bindings.binding.adds_endpoints.Goals as goal

pub returns-in_default : goal.returns-in_default
returns-in_default c = λ h k e. binds_none h k c.args.command.now c.in_default.not-AddressDevice c.in_default.not-ConfigureEndpoint
