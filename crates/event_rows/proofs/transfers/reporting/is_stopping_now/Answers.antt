use Rattle.event_rows.proofs.Laws.{sym, ◌∙◌, is_command_kind, found_at, read_at, stop_on, commanded, no_stop}
use Rattle.event_rows.proofs.transfers.reporting.is_stopping_now.Goals as goal

pub returns-in_default : goal.returns-in_default
returns-in_default c = λ h k m headed is f keeps. sym (no_stop h headed k keeps c.args.slot c.args.index (sym is.commands ∙ c.in_default.is))

pub returns : goal.returns
returns c = λ h k m headed is f keeps.
    let found = found_at (λ ring. is_command_kind ring.shape.kind) h.rings c.in-Some.number (sym is.commands ∙ c.in-Some.is) in
    let l = c.in-Some-get.ensures.lookup in
    let there = read_at c.deref.result.now c.args.t.now.rings.items c.in-Some.number c.in-Some-get.known.now c.deref.ensures.value l.3.0 l.1 in
    c.is_stopping_next.ensures found.0.shape (k.ring found.0.id) (f.rings.each c.in-Some.number found.0 c.in-Some-get.known.now found.1 there (commanded found.0.shape.kind found.2))
    ∙ sym (stop_on h headed k keeps c.args.slot c.args.index c.in-Some.number found.0 found.1 found.2)
