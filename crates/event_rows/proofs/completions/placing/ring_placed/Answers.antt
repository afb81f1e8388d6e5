use Rattle.event_rows.proofs.Words.{◌≡◌, ◌∙◌, true, false, sym, cond-true, cond-false, is_off, is_off_of, on_is}
use Rattle.event_rows.proofs.completions.placing.ring_placed.Goals as goal

pub returns-in-Disabled : goal.returns-in-Disabled
returns-in-Disabled c = λ k d.
    let x = c.args.placing in
    let off : is_off (k.endpoint_state x.slot x.index) ≡ true = is_off_of (k.endpoint_state x.slot x.index) (sym (c.endpoint_state.ensures k d) ∙ c.in-Disabled.is) in
    sym (cond-true (is_off (k.endpoint_state x.slot x.index)) c.args.having (k.ring_of x.slot x.index) off)

pub returns-in_default : goal.returns-in_default
returns-in_default c = λ k d.
    let x = c.args.placing in
    let on : is_off (k.endpoint_state x.slot x.index) ≡ false = on_is (k.endpoint_state x.slot x.index) (λ off. c.in_default.not-Disabled (c.endpoint_state.ensures k d ∙ off)) in
    c.ring_of.ensures k d ∙ sym (cond-false (is_off (k.endpoint_state x.slot x.index)) c.args.having (k.ring_of x.slot x.index) on)
