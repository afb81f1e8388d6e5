use Rattle.ownership_checker.proofs.Laws.{◌≡◌, ◌∙◌, ap, arith, get_or, length, lt-ltb, ltb, refl, subst, sym, false≢true, slice_get_read, slice_get_within, Ring, unrestored, on_more, read_there, MovesRing, found_moved, moving, restored_transfer, transfer_drives}
use Rattle.ownership_checker.proofs.pass.ring_pass.RingPass.note_moved_at.Goals as goal

pub returns-in_default-clause-moved : goal.returns-in_default-clause-moved
returns-in_default-clause-moved g c = grind (arith, false≢true, restored_transfer)

pub returns-in_default-get-clause-moved : goal.returns-in_default-get-clause-moved
returns-in_default-get-clause-moved g c = λ list k memory ts a w f d gives moves opened early held.
    let h = c.args.self.now.header in
    absurd (false≢true (c.in_default-get.ensures.lookup.0 ∙ ap (λ xs. ltb c.args.command_ring (length xs)) c.as_slice-rings.ensures ∙ lt-ltb _ _ (slice_get_within h.rings c.args.command_ring gives.ring gives.at)))

pub returns-clause-moved : goal.returns-clause-moved
returns-clause-moved g c = on_more c.note_moving.result (λ told list k memory ts a w f d gives moves opened early held.
    let h = c.args.self.now.header in
    let n = c.in-Some.at in
    let m = c.args.command_ring in
    let there = c.in-Some.ensures.there in
    let items = c.args.self.now.record.rings.items in
    let known = c.index.result.now in
    let row = c.args.number in
    let p = c.args.position in
    let ps = c.as_slice.result.now in
    let commands = c.in-Some-get.commands.now in
    let Holds = g.B.LeaseLog.holds list in
    let at = slice_get_read items (length items) n known refl (omega (arith, c.requires.as_many, slice_get_within h.rings n there.ring there.at)) c.index.ensures in
    let follows = f.rings.each n there.ring known there.at at (transfer_drives there.ring.shape.kind there.kind) in
    let positions : ps ≡ unrestored there.ring.shape (k.ring there.ring.id) = c.as_slice.ensures.value ∙ c.in_ok-positions.ensures there.ring.shape (k.ring there.ring.id) follows in
    let read : c.index-rings-at.result ≡ there.ring = c.index-rings-at.is ∙ ap (λ xs. get_or xs n c.index-rings-at.result) c.as_slice-rings.ensures ∙ read_there h.rings n c.index-rings-at.result there.ring there.at in
    let command_at = slice_get_read h.rings (length h.rings) m commands refl (slice_get_within h.rings m gives.ring gives.at) (c.in-Some-get.ensures.lookup.1 ∙ ap (λ xs. get_or xs m commands) c.as_slice-rings.ensures) in
    let moved = moving Holds h c.requires.headed k ts opened c.args.id n there row ps positions d a w m p gives commands command_at moves in
    record {
      held = told list h k ts a w (subst (λ (r : Ring). MovesRing h k ts commands p r ps a w) (sym read) moved) early held.held;
      found = found_moved h k ts commands p there.ring ps a w moved row early c.args.self.now.ranges held.found;
    }) c.note_moving.ensures
