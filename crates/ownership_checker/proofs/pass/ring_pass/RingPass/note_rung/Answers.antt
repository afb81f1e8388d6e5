use Rattle.ownership_checker.proofs.Laws.{◌≡◌, ◌∙◌, ℕ, Some, true, ap, arith, get_or, length, refl, subst, slice_get_read, slice_get_within, Ring, is_transfer_kind, ring_with, unrestored, Restores, on_ring, open_leases, AreOpen, passed_on, on_more, read_there, found, restored_held, transfer_drives}
use Rattle.ownership_checker.proofs.pass.ring_pass.RingPass.note_rung.Goals as goal

pub returns-clause-restored : goal.returns-clause-restored
returns-clause-restored g c = on_more c.note_restoring.result (λ told list k memory ts f transfer opened held.
    let h = c.args.self.now.header in
    let n = c.in-Some.at in
    let there = c.in-Some.ensures.there in
    let items = c.args.self.now.record.rings.items in
    let known = c.index.result.now in
    let row = c.args.number in
    let ps = c.as_slice.result.now in
    let Holds = g.B.LeaseLog.holds list in
    let at = slice_get_read items (length items) n known refl (omega (arith, c.requires.as_many, slice_get_within h.rings n there.ring there.at)) c.index.ensures in
    let follows = f.rings.each n there.ring known there.at at (transfer_drives there.ring.shape.kind there.kind) in
    let positions : ps ≡ unrestored there.ring.shape (k.ring there.ring.id) = c.as_slice.ensures.value ∙ c.in_ok-positions.ensures there.ring.shape (k.ring there.ring.id) follows in
    let read : c.index-rings-at.result ≡ there.ring = c.index-rings-at.is ∙ ap (λ xs. get_or xs n c.index-rings-at.result) c.as_slice-rings.ensures ∙ read_there h.rings n c.index-rings-at.result there.ring there.at in
    let here = subst (λ (r : Ring). ring_with h r.id ≡ Some r → is_transfer_kind r.shape.kind ≡ true → ((p : ℕ) → (k.ring r.id).free p ≡ true → (k.ring r.id).given p ≡ true) → ps ≡ unrestored r.shape (k.ring r.id) → AreOpen h k ts →
    Holds h ts c.args.self.now.log → Holds h (passed_on (open_leases h k) (open_leases h (on_ring h k r.id Restores)) row ts) c.note_restoring.new.book) read (told list h k ts c.requires.headed) in
    restored_held Holds h c.requires.headed k ts opened c.args.id n there row ps positions follows.marks.free_given c.note_restoring.new.book c.args.self.now.ranges
    (here (found Holds h c.requires.headed k ts opened c.args.id n there row) there.kind follows.marks.free_given positions opened held.held) held.found) c.note_restoring.ensures
