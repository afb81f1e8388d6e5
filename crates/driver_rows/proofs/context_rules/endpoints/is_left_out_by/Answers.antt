use Rattle.driver_rows.proofs.Laws.{ap, named_context, configure_names}
use Rattle.driver_rows.proofs.context_rules.endpoints.is_left_out_by.Goals as goal

pub is_left_out-requires-clause-inside : goal.is_left_out-requires-clause-inside
is_left_out-requires-clause-inside g c = (c.requires _ (ap named_context c.in-AddressDevice.is)).1

pub adds_left_out-requires-clause-inside : goal.adds_left_out-requires-clause-inside
adds_left_out-requires-clause-inside g c =
    (c.requires _ (configure_names _ _ _ _ c.in-ConfigureEndpoint.is c.if-not-deconfigure.true)).1
