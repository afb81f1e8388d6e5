use Rattle.answers.proofs.Laws.{[], refl, inl, string_bytes, Device, IsPlainNote, device_noted, nothing_begun}
use Rattle.answers.proofs.telling.tell_output_failure.Goals as goal

pub returns-then-eq-clause-told : goal.returns-then-eq-clause-told
returns-then-eq-clause-told g c = ([], inl refl, nothing_begun _ _)

pub returns-in-Ok-clause-told : goal.returns-in-Ok-clause-told
returns-in-Ok-clause-told g c =
    device_noted string_bytes (IsPlainNote Device) c.output_note-note.result c.in-Ok.lines.err.items _ _ c.in-Ok.ensures.noted c.output_note-note.ensures c.in-Ok.ensures.err
    (rw c.deref.ensures.value at c.write_whole-written.ensures.beginning)

pub returns-in-Err-clause-told : goal.returns-in-Err-clause-told
returns-in-Err-clause-told g c = ([], inl refl, rw c.as_bytes.ensures.value at c.write_whole-written-in-Err.ensures.beginning)
