use Rattle.driver_rows.proofs.bindings.moves.number_in.Goals as goal

pub returns : goal.returns
returns c = c.ring_named.ensures c.args.header.now.rings c.requires
