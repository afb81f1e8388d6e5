use Rattle.driver_rows.proofs.Laws.{◌≡◌, ◌∙◌, ap, arith, get_or, length, refl, subst, sym, slice_get_read, slice_get_within, Ring, false≢true, NamesTransfer, read_there, left_so}
use Rattle.ownership_rules.specs.Withdrawals.{is_left}
use Rattle.driver_rows.proofs.rings.restoring.is_left.Goals as goal

pub returns-in_default : goal.returns-in_default
unfolding is_left
returns-in_default g c = λ k f names. rw c.in_default.is refl

pub returns-in_default-transfer_ring : goal.returns-in_default-transfer_ring
returns-in_default-transfer_ring g c = λ k f names. absurd (false≢true (sym c.in_default-transfer_ring.ensures.none ∙ subst (NamesTransfer c.args.header.now) c.in-Some.is names))

pub returns : goal.returns
returns g c = λ k f names.
    let m = g.M.WordMemory.words c.args.memory.now in
    let h = c.args.header.now in
    let n = c.in-Some-transfer_ring.number in
    let there = c.in-Some-transfer_ring.ensures.there in
    let items = c.args.kept.now.rings.items in
    let old = c.index.result.now in
    let at = slice_get_read items (length items) n old refl (omega (arith, c.requires.as_many, slice_get_within h.rings n there.ring there.at)) c.index.ensures in
    let shape = (get_or c.as_slice-rings.result.now n c.index-rings-number.result).shape in
    let read : shape ≡ there.ring.shape = ap (λ (r : Ring). r.shape) (ap (λ xs. get_or xs n c.index-rings-number.result) c.as_slice-rings.ensures ∙ read_there h.rings n c.index-rings-number.result there.ring there.at) in
    left_so h c.requires.headed c.in-Some.id n there c.args.kept.now old at k m f shape read c.is_not_restored.result c.is_not_restored.ensures
    ∙ sym (ap (is_left h k) c.in-Some.is)
