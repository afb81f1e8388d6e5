use Rattle.diagnostics.proofs.Words.{◌≡◌, take, string_bytes, flat_map, note_text}
use Rattle.diagnostics.proofs.layout.notes.Given as goal

abbrev pub invariant-loop-note : goal.invariant-loop-note
invariant-loop-note l =
    string_bytes l.text ≡ flat_map (λ note. note_text l.colors l.width (string_bytes note)) (take l.note-index l.notes)
