use Rattle.controller_model.proofs.Laws.{◌∙◌, refl, sym, block_at, waits_idle, waits_so}
use Rattle.controller_model.proofs.safety.waits_inside.Goals as goal

pub returns-then-not-state : goal.returns-then-not-state
returns-then-not-state g c = λ h r w f same. waits_idle h r w c.args.state.now f c.if-not-state.true

pub returns : goal.returns
returns g c = λ h r w f same.
    waits_so h r w c.args.state.now f (g.M.WordMemory.words c.args.memory.now) (block_at (g.M.WordMemory.words c.args.memory.now) c.args.state.now.pointer) c.shows.result same c.if-not-state.false
    (sym c.is_inside.ensures ∙ c.if-not-is_inside.false) refl (c.shows.ensures (w.cycle_state r) f.cycle)
