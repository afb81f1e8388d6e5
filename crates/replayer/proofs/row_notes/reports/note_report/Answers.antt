use Rattle.replayer.proofs.MiddleLaws.{◌∙◌, ◌++◌, ap, on_more, one_behind, report_notes}
use Rattle.replayer.proofs.row_notes.reports.note_report.Goals as goal

pub returns : goal.returns
returns c =
    let x = c.args in
    on_more c.add_note.result (λ added. λ k m f d some.
    one_behind x.notes.now.items _ _ _ _ (c.in_ok-note_named.ensures k m f d some) added ∙ ap (λ l. x.notes.now.items ++ l) (report_notes x.header.now k x.event)) c.add_note.ensures
