use Rattle.driver_rows.proofs.Laws.{refl, eq-eqb, ne_eqb, configured_any, configured_fits}
use Rattle.driver_rows.proofs.doorbells.touches.touches.Goals as goal

pub returns-then-slot-named-2 : goal.returns-then-slot-named-2
returns-then-slot-named-2 g c = λ fits.
    let at = c.in-ConfigureEndpoint in
    rw (at.is, configured_any c.args.size (g.M.WordMemory.words c.args.memory.now) c.args.slot at.named at.input_context c.args.index at.deconfigure c.requires, eq-eqb c.args.slot at.named c.if-slot-named-2.true)
    (c.is_configured.ensures (configured_fits c.args.size c.args.command.now at.named at.input_context at.deconfigure at.is fits))

pub returns-else-slot-named-2 : goal.returns-else-slot-named-2
returns-else-slot-named-2 g c = λ fits.
    let at = c.in-ConfigureEndpoint in
    rw (at.is, configured_any c.args.size (g.M.WordMemory.words c.args.memory.now) c.args.slot at.named at.input_context c.args.index at.deconfigure c.requires, ne_eqb c.args.slot at.named c.if-slot-named-2.false) refl
