use Rattle.replayer.proofs.MiddleLaws.{◌∙◌, ◌++◌, ap, sym, header_now, known_now, any_notes, driven_by, nothing_more, on_any, row_notes, on_more, any_driven}
use Rattle.replayer.proofs.scheduler.notes.note_next.Goals as goal

pub returns-in-Nop-clause-noted : goal.returns-in-Nop-clause-noted
unfolding any_notes row_notes
returns-in-Nop-clause-noted g c =
    on_any c.row-in-Nop.result (λ h past p. nothing_more c.args.list.now.items (any_notes (header_now h past) (known_now h past) c.args.row.now) (ap (any_notes (header_now h past) (known_now h past)) c.in-Nop.is))

pub note_driver_row-requires-clause-driven : goal.note_driver_row-requires-clause-driven
note_driver_row-requires-clause-driven g c = driven_by c.args.row.now c.in_default.not-Ring c.in_default.not-Free c.in_default.not-Nop

pub returns-in_default-clause-noted : goal.returns-in_default-clause-noted
returns-in_default-clause-noted g c =
    on_more c.note_driver_row.result
    (λ noted. λ h past p. noted h past p
    ∙ ap (λ l. c.args.list.now.items ++ l) (sym (any_driven (header_now h past) (known_now h past) c.args.row.now (driven_by c.args.row.now c.in_default.not-Ring c.in_default.not-Free c.in_default.not-Nop))))
    c.note_driver_row.ensures.noted
