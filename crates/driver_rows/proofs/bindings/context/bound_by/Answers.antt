use Rattle.driver_rows.proofs.Laws.{subst, sym, Command, FitsMemory, HasBound, of_others}
use Rattle.driver_rows.proofs.bindings.context.bound_by.Goals as goal

pub returns-in-AddressDevice : goal.returns-in-AddressDevice
returns-in-AddressDevice g c = λ h k f fits.
    subst (λ (d : Command). HasBound h k d c.bound_by_address.result) (sym c.in-AddressDevice.is)
    (c.bound_by_address.ensures h k c.in-AddressDevice.block_set_address f.followed (subst (λ (d : Command). FitsMemory h.context_size d) c.in-AddressDevice.is fits))

pub returns-in-ConfigureEndpoint : goal.returns-in-ConfigureEndpoint
returns-in-ConfigureEndpoint g c = λ h k f fits.
    subst (λ (d : Command). HasBound h k d c.bound_by_configure.result) (sym c.in-ConfigureEndpoint.is)
    (c.bound_by_configure.ensures h k c.in-ConfigureEndpoint.slot f.words (subst (λ (d : Command). FitsMemory h.context_size d) c.in-ConfigureEndpoint.is fits))

pub returns-in_default : goal.returns-in_default
returns-in_default g c = λ h k f fits.
    subst (HasBound h k c.args.command.now) (sym c.none_bound.ensures) (of_others h k c.args.command.now c.in_default.not-AddressDevice c.in_default.not-ConfigureEndpoint)
