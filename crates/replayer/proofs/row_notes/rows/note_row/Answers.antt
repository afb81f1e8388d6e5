use Rattle.replayer.proofs.MiddleLaws.{◌∙◌, ◌++◌, ap, sym, row_notes, more_ok, alone, none_said, quiet}
use Rattle.replayer.proofs.row_notes.rows.note_row.Goals as goal

pub returns-in_ok-note_bell-in-Bell : goal.returns-in_ok-note_bell-in-Bell
returns-in_ok-note_bell-in-Bell g c = λ k f d clean.
    let h = c.args.header.now in
    let old = c.args.notes.now.items in
    alone h k c.args.row.now old c.note_bell.new.notes.items c.new.result.items c.new.ensures.items
    (c.in_ok-note_bell-in-Bell.ensures h k f.devices ∙ ap (λ r. old ++ row_notes h k r) (sym c.in-Bell.is))

pub returns-in-Read : goal.returns-in-Read
returns-in-Read g c =
    more_ok _ _ c.note_event.result (λ placed says. λ k f d clean. rw c.in-Read.is (says k f d (rw c.in-Read.is at clean))) c.note_event.ensures

pub returns-in_ok-note_read-in-RegRead : goal.returns-in_ok-note_read-in-RegRead
unfolding row_notes
returns-in_ok-note_read-in-RegRead g c = λ k f d clean.
    let h = c.args.header.now in
    let old = c.args.notes.now.items in
    alone h k c.args.row.now old c.note_read.new.notes.items c.new-in-RegRead.result.items c.new-in-RegRead.ensures.items
    (c.in_ok-note_read-in-RegRead.ensures h k f.registers ∙ ap (λ r. old ++ row_notes h k r) (sym c.in-RegRead.is))

pub returns-in_default : goal.returns-in_default
returns-in_default g c = λ k f d clean.
    none_said c.args.header.now k c.args.row.now c.args.notes.now.items c.new-in_default.result.items c.new-in_default.ensures.items
    (quiet c.args.header.now k c.args.row.now c.in_default.not-Bell c.in_default.not-Read c.in_default.not-RegRead)
