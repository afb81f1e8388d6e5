use Rattle.ownership_checker.proofs.Laws.{◌≤◌, ◌≡◌, ◌<◌, ◌^◌, ◌∙◌, Some, true, ap, arith, get_or, length, not, refl, subst, sym, slice_get_read, slice_get_within, Ring, is_transfer_kind, ring_with, length_from, floor_number, on_ring, open_leases, AreOpen, passed_on, read_there, count_is, found, no_room, none_high, withdrawn_held, transfer_drives, Withdraws, ◌+◌, max, IsNotPassed, kept_from}
use Rattle.ownership_checker.proofs.pass.ring_pass.RingPass.end_withdrawn.Goals as goal

pub returns-then-is_none-clause-ended : goal.returns-then-is_none-clause-ended
returns-then-is_none-clause-ended g c = λ list k memory ts f ahead transfer opened held.
    let h = c.args.self.now.header in
    let n = c.in-Some.at in
    let there = c.in-Some.ensures.there in
    let items = c.args.self.now.record.rings.items in
    let known = c.index-known.result.now in
    let at = slice_get_read items (length items) n known refl (omega (arith, c.requires.as_many, slice_get_within h.rings n there.ring there.at)) c.index-known.ensures in
    let follows = f.rings.each n there.ring known there.at at (transfer_drives there.ring.shape.kind there.kind) in
    let here : IsNotPassed (k.ring there.ring.id) c.args.position = rw there.named ahead in
    let counted = c.from-count.ensures ∙ c.descriptor_length.ensures there.ring.shape (k.ring there.ring.id) follows here ∙ count_is (k.ring there.ring.id) c.args.position in
    absurd (no_room there.ring.shape (k.ring there.ring.id) known c.args.position c.from-count.result follows (kept_from there.ring.shape (k.ring there.ring.id) known follows.marks c.args.position here) counted (subst (λ n. n < 2 ^ 32) (sym c.from-count.ensures) c.descriptor_length.type_inv) c.ranges.position.fits (none_high c.checked_add.result _ _ c.checked_add.ensures (c.is_none.ensures ∙ ap not c.if-is_none.true)))

pub returns-clause-ended : goal.returns-clause-ended
returns-clause-ended g c = λ list k memory ts f ahead transfer opened held.
    let h = c.args.self.now.header in
    let n = c.in-Some.at in
    let there = c.in-Some.ensures.there in
    let items = c.args.self.now.record.rings.items in
    let known = c.index-known.result.now in
    let row = c.args.number in
    let p = c.args.position in
    let Holds = g.B.LeaseLog.holds list in
    let at = slice_get_read items (length items) n known refl (omega (arith, c.requires.as_many, slice_get_within h.rings n there.ring there.at)) c.index-known.ensures in
    let follows = f.rings.each n there.ring known there.at at (transfer_drives there.ring.shape.kind there.kind) in
    let v = k.ring there.ring.id in
    let here : IsNotPassed v p = rw there.named ahead in
    let counted = c.from-count.ensures ∙ c.descriptor_length.ensures there.ring.shape v follows here ∙ count_is v p in
    let first : c.max-from.result ≡ max p (floor_number v) = c.max-from.ensures ∙ ap (max p) (c.floor_number.ensures.value there.ring.shape v follows) in
    let last : p + c.from-count.result ≡ p + length_from v.lengths 0 p = ap (λ n. p + n) counted in
    let rises : c.max-from.result ≤ p + c.from-count.result = omega (arith, first, here, counted, count_is v p) in
    let read : c.index-rings-at.result ≡ there.ring = c.index-rings-at.is ∙ ap (λ xs. get_or xs n c.index-rings-at.result) c.as_slice-rings.ensures ∙ read_there h.rings n c.index-rings-at.result there.ring there.at in
    let told = subst (λ (r : Ring). ring_with h r.id ≡ Some r → is_transfer_kind r.shape.kind ≡ true → c.max-from.result ≡ max p (floor_number (k.ring r.id)) → p + c.from-count.result ≡ p + length_from (k.ring r.id).lengths 0 p → c.max-from.result ≤ p + c.from-count.result → AreOpen h k ts → Holds h ts c.args.self.now.log →
    Holds h (passed_on (open_leases h k) (open_leases h (on_ring h k r.id (Withdraws p))) row ts) c.note_withdrawing.new.book) read (c.note_withdrawing.ensures list h k ts p c.requires.headed) in
    withdrawn_held Holds h c.requires.headed k ts opened c.args.id n there row p c.note_withdrawing.new.book c.args.self.now.ranges
    (told (found Holds h c.requires.headed k ts opened c.args.id n there row) there.kind first last rises opened held.held) held.found
