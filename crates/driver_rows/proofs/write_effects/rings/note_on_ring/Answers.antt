use Rattle.driver_rows.proofs.Laws.{ℕ, Option, get_or, sym, ◌∙◌, ap, refl, length, set, subst, slice_get_read, ltb-true, touches, ring_here, none_here, IsGivenBy, noted_nowhere, noted_here}
use Rattle.driver_rows.proofs.write_effects.rings.note_on_ring.Goals as goal

pub returns-in_default : goal.returns-in_default
returns-in_default c = λ k a w f placed.
    let h = c.args.header.now in
    noted_nowhere h c.requires a w placed.aligned k c.args.records.now.items f (none_here h (λ q. touches q.shape a 4) h.rings (sym placed.ring ∙ c.in_default.is) refl)

pub returns-in-Some-get_mut : goal.returns-in-Some-get_mut
returns-in-Some-get_mut c = λ k a w f placed.
    let h = c.args.header.now in
    let ring = c.in-Some-get.ring.now in
    let here = ring_here h (λ q. touches q.shape a 4) h.rings c.in-Some.number ring (sym placed.ring ∙ c.in-Some.is) refl
    (c.in-Some-get.ensures.lookup.1 ∙ ap (λ xs. get_or xs c.in-Some.number ring) c.as_slice-rings.ensures) in
    let given = subst (λ (o : Option ℕ). IsGivenBy h k a w o c.args.place.now.giving) c.in-Some.is placed.given ring here.0 in
    let items = c.args.records.now.items in
    let there = slice_get_read items (length items) c.in-Some.number c.in-Some-get_mut.known.now refl
    (ltb-true c.in-Some.number (length items) (sym c.in-Some-get_mut.ensures.item.0)) c.in-Some-get_mut.ensures.value in
    noted_here h c.requires a w placed.aligned k items f c.in-Some.number ring here.0 here.1
    c.in-Some-get_mut.known.now c.note_giving.new.self (set items c.in-Some.number c.note_giving.new.self) there refl
    (λ driver follows. c.note_giving.ensures (k.ring ring.id) a w follows (given.positions driver) (given.crossings driver))
