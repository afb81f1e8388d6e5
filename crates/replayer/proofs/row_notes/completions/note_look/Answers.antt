use Rattle.replayer.proofs.MiddleLaws.{◌≡◌, ◌∙◌, ◌++◌, ◌∷◌, [], ap, sym, none-some, same_Some, completing_look, open_stopped, on_more, place_of}
use Rattle.replayer.proofs.row_notes.completions.note_look.Goals as goal

pub returns-in_default : goal.returns-in_default
returns-in_default c = λ k m f d some. absurd (none-some _ (sym c.in_default.is ∙ c.next_place.ensures k m f some))

pub returns : goal.returns
returns c =
    let x = c.args in
    let h = x.header.now in
    on_more c.add_note.result (λ added. λ k m f d some.
    let next : c.in-Some.next ≡ place_of h k = same_Some c.in-Some.next (place_of h k) (sym c.in-Some.is ∙ c.next_place.ensures k m f some) in
    let stopped = c.open_stopped-stopped.ensures h k m c.requires.headed c.requires.found f d ∙ ap (λ n. open_stopped k n x.command) c.code.ensures in
    added ∙ ap (λ l. x.notes.now.items ++ l ∷ []) (c.completing_look.ensures h k next ∙ ap (λ o. completing_look h k o) stopped)) c.add_note.ensures
