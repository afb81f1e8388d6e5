use Rattle.replayer.proofs.MiddleLaws.{◌∙◌, sym, is_off_of, on_is, placed_off, placed_on}
use Rattle.replayer.proofs.row_notes.placing.ring_placed.Goals as goal

pub returns-in-Disabled : goal.returns-in-Disabled
returns-in-Disabled c = λ k cycle state f.
    let x = c.args in
    c.ring_having.ensures ∙ sym (placed_off x.header.now k x.slot x.index x.pointer cycle state (is_off_of (k.endpoint_state x.slot x.index) (sym (c.endpoint_state.ensures k f) ∙ c.in-Disabled.is)))

pub returns-in_default : goal.returns-in_default
returns-in_default c = λ k cycle state f.
    let x = c.args in
    c.ring_of.ensures k f ∙ sym (placed_on x.header.now k x.slot x.index x.pointer cycle state (on_is (k.endpoint_state x.slot x.index) (λ off. c.in_default.not-Disabled (c.endpoint_state.ensures k f ∙ off))))
