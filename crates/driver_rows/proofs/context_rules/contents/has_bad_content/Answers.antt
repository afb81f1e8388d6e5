use Rattle.driver_rows.proofs.Laws.{ap, refl, named_context, configure_names}
use Rattle.driver_rows.proofs.context_rules.contents.has_bad_content.Goals as goal

pub lacks_control-requires-clause-inside : goal.lacks_control-requires-clause-inside
lacks_control-requires-clause-inside g c = (c.requires.fits _ (ap named_context c.in-AddressDevice.is)).1

pub adds_bad-requires-clause-inside : goal.adds_bad-requires-clause-inside
adds_bad-requires-clause-inside g c =
    (c.requires.fits _ (configure_names _ _ _ _ c.in-ConfigureEndpoint.is c.if-not-deconfigure.true)).1

pub returns-then-lacks_control : goal.returns-then-lacks_control
returns-then-lacks_control g c = λ k f. rw (c.in-AddressDevice.is, ← c.lacks_control.ensures, c.if-lacks_control.true) refl

pub returns-else-lacks_control : goal.returns-else-lacks_control
returns-else-lacks_control g c = λ k f. rw (c.in-AddressDevice.is, ← c.lacks_control.ensures, c.if-lacks_control.false) (c.takes_bad_device.ensures k f)

pub returns-then-not-deconfigure : goal.returns-then-not-deconfigure
returns-then-not-deconfigure g c = λ k f. rw (c.in-ConfigureEndpoint.is, c.if-not-deconfigure.true) (c.adds_bad.ensures k f.devices)

pub returns-else-not-deconfigure : goal.returns-else-not-deconfigure
returns-else-not-deconfigure g c = λ k f. rw (c.in-ConfigureEndpoint.is, c.if-not-deconfigure.false) refl
