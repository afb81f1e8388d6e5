use Rattle.replayer.proofs.MiddleLaws.{append-nil, ◌≡◌, ◌∙◌, ◌++◌, ◌∷◌, ◌+◌, if◌then◌else◌, [], Some, ap, reporting_look, get_or, subst, sym, same_Some, slice_get-get_or, slice_get_within, Ring, RingSpot, StopsByCommand, transfer_notes, IsNamedAt, on_more, one_behind, transfer_is, is_success, number, code_told, Succeeded}
use Rattle.replayer.proofs.row_notes.reports.note_named.Goals as goal

pub returns-in_default : goal.returns-in_default
unfolding transfer_notes
returns-in_default c = λ k m f d some. rw (c.in_default.ensures.named k m f d) (sym (append-nil c.args.notes.now.items))

pub returns : goal.returns
returns c =
    let x = c.args in
    let h = x.header.now in
    let at = c.in-Some.at in
    let item = get_or c.as_slice-rings.result.now at.number c.index-rings-at.result in
    on_more c.add_note.result (λ added. λ k m f d some.
    let named : IsNamedAt h k x.event at = c.in-Some.ensures.named k m f d in
    let told : c.code_told-code.result ≡ code_told h k x.event = c.code_told-code.ensures k f.devices in
    let same : item ≡ named.ring = same_Some item named.ring (ap (λ xs. Some (get_or xs at.number c.index-rings-at.result)) c.as_slice-rings.ensures ∙ sym (slice_get-get_or h.rings at.number c.index-rings-at.result (slice_get_within h.rings at.number named.ring named.here)) ∙ named.here) in
    one_behind x.notes.now.items _ _ _ _ c.in_ok-note_success.ensures (added ∙ ap (λ l. c.note_success.new.notes.items ++ l ∷ []) (c.reporting_look-look.ensures k m x.event f told (subst (StopsByCommand h) (sym told) some)))
    ∙ ap (λ n. x.notes.now.items ++ ((if is_success n then Succeeded item.id (number at.spot + 1) ∷ [] else []) ++ reporting_look h k x.event (record { ring = item.id; spot = at.spot }) ∷ [])) told
    ∙ ap (λ l. x.notes.now.items ++ l) (transfer_is h k x.event item.id at.spot)
    ∙ ap (λ (q : Ring). x.notes.now.items ++ transfer_notes h k x.event (Some (let s : RingSpot = record { ring = q.id; spot = at.spot } in s))) same
    ∙ ap (λ o. x.notes.now.items ++ transfer_notes h k x.event o) (sym named.names)) c.add_note.ensures
