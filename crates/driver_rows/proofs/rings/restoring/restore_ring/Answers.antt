use Rattle.driver_rows.proofs.Laws.{◌∙◌, ℕ, arith, length, refl, subst, sym, slice_get_read, slice_get_within, false≢true, Option, restored_on, FollowsTrace, NamesTransfer, restored_so, with_record}
use Rattle.driver_rows.proofs.rings.restoring.restore_ring.Goals as goal

pub returns-in_default-clause-restored : goal.returns-in_default-clause-restored
unfolding restored_on
returns-in_default-clause-restored c = λ k m f names. rw c.in_default.is f

pub returns-in_default-transfer_ring-clause-restored : goal.returns-in_default-transfer_ring-clause-restored
returns-in_default-transfer_ring-clause-restored c = λ k m f names. absurd (false≢true (sym c.in_default-transfer_ring.ensures.none ∙ subst (NamesTransfer c.args.header.now) c.in-Some.is names))

pub returns-clause-restored : goal.returns-clause-restored
returns-clause-restored c = λ k m f names.
    let h = c.args.header.now in
    let n = c.in-Some-transfer_ring.number in
    let there = c.in-Some-transfer_ring.ensures.there in
    let items = c.args.kept.now.rings.items in
    let old = c.index_mut.result.now in
    let at = slice_get_read items (length items) n old refl (omega (arith, c.requires.as_many, slice_get_within h.rings n there.ring there.at)) c.index_mut.ensures.value in
    subst (λ (o : Option ℕ). FollowsTrace h (restored_on h k o) (with_record c.args.kept.now n c.restore.new.self) m) (sym c.in-Some.is)
    (restored_so h c.requires.headed c.in-Some.id n there c.args.kept.now old at k m f there.ring.shape refl c.restore.new.self (λ v followed. c.restore.ensures there.ring.shape v followed))
