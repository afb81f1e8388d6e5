use Rattle.replayer.proofs.MiddleLaws.{◌∙◌, sym, if_open, open_stopped, no_stop}
use Rattle.replayer.proofs.row_notes.completions.stopped_by.Goals as goal

pub returns-in_default : goal.returns-in_default
returns-in_default c = λ h k m headed found f d. sym (no_stop k c.args.command c.in_default.not-StopEndpoint)

pub returns-in_default-ring_of : goal.returns-in_default-ring_of
unfolding open_stopped if_open
returns-in_default-ring_of c = λ h k m headed found f d. rw (c.in-StopEndpoint.is, sym (c.ring_of.ensures k f.devices) ∙ c.in_default-ring_of.is)

pub returns-then-is_open : goal.returns-then-is_open
unfolding open_stopped if_open
returns-then-is_open c = λ h k m headed found f d.
    let of = sym (c.ring_of.ensures k f.devices) ∙ c.in-Some.is in
    rw (c.in-StopEndpoint.is, of, sym (c.is_open.ensures h k m headed found f (d.states.transfer c.in-StopEndpoint.slot c.in-StopEndpoint.endpoint c.in-Some.ring of)) ∙ c.if-is_open.true)

pub returns-else-is_open : goal.returns-else-is_open
unfolding open_stopped if_open
returns-else-is_open c = λ h k m headed found f d.
    let of = sym (c.ring_of.ensures k f.devices) ∙ c.in-Some.is in
    rw (c.in-StopEndpoint.is, of, sym (c.is_open.ensures h k m headed found f (d.states.transfer c.in-StopEndpoint.slot c.in-StopEndpoint.endpoint c.in-Some.ring of)) ∙ c.if-is_open.false)
