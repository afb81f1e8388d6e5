use Rattle.driver_rows.proofs.Laws.{◌≡◌, ◌∙◌, ap, arith, rules, get_or, length, refl, inl, inr, slice_get_read, slice_get_within, Ring, read_there, known_read, passed_so, withdrawn_so, if_both, if_ok, or_true, if_refused, may, may_not, may_now, withdrawing_kept, floor_low, is_bad_withdraw, withdraws_badly}
use Rattle.driver_rows.proofs.RingRows.OneRing.{unfit_so}
use Rattle.driver_rows.proofs.rings.withdrawing.check_withdrawing.Goals as goal

pub returns-in_default-clause-refused : goal.returns-in_default-clause-refused
unfolding withdraws_badly is_bad_withdraw
returns-in_default-clause-refused g c = (refl, λ k f d fits. rw (c.in_default.ensures.none k f d fits) (or_true _))

pub returns : goal.returns
returns g c =
    let m = g.M.WordMemory.words c.args.memory.now in
    let h = c.args.header.now in
    let n = c.in-Some.number in
    let there = c.in-Some.ensures.there in
    let items = c.args.kept.now.rings.items in
    let old = c.index_mut.result.now in
    let at = slice_get_read items (length items) n old refl (omega (arith, c.requires.as_many, slice_get_within h.rings n there.ring there.at)) c.index_mut.ensures.value in
    let shape = (get_or c.as_slice-rings.result.now n c.index-rings-number.result).shape in
    let read : shape ≡ there.ring.shape = ap (λ (r : Ring). r.shape) (ap (λ xs. get_or xs n c.index-rings-number.result) c.as_slice-rings.ensures ∙ read_there h.rings n c.index-rings-number.result there.ring there.at) in
    let known = known_read h c.requires.headed c.args.id n there c.args.kept.now old at in
    let low = floor_low h c.requires.headed c.args.id n there c.args.kept.now old at in
    record {
      ok = if_both c.withdraw_on.result
          (λ rule noted k f d fits on. record {
            kept = withdrawing_kept h k on c.args.id c.args.position (may h k c.args.id c.args.position (c.in-Some.ensures.stopped k f d fits) (unfit_so h c.requires.headed c.args.id n there c.args.kept.now old at k m f shape read c.args.position (rule (k.ring c.args.id) (known k m f shape read) (low k m f shape read d)).1));
            followed = withdrawn_so h c.requires.headed c.args.id n there c.args.kept.now old at k m f shape read c.args.position c.withdraw_on.new.known (noted (k.ring c.args.id) (known k m f shape read) (low k m f shape read d));
          })
          c.withdraw_on.ensures.rule c.withdraw_on.ensures.ok;
      version = if_ok c.withdraw_on.result
          (λ rule k f d fits.
          let told = rule (k.ring c.args.id) (known k m f shape read) (low k m f shape read d) in
          may_now h k c.args.id c.args.position (c.in-Some.ensures.stopped k f d fits) (unfit_so h c.requires.headed c.args.id n there c.args.kept.now old at k m f shape read c.args.position told.1) (passed_so h c.requires.headed c.args.id n there c.args.kept.now old at k m f shape read c.args.position told.0))
          c.withdraw_on.ensures.rule;
      from = if_ok c.withdraw_on.result (λ from k f d fits. from (k.ring c.args.id) (known k m f shape read) (low k m f shape read d)) c.withdraw_on.ensures.from;
      refused = if_refused c.withdraw_on.result
          (λ e says. (
            says.0,
            λ k f d fits.
                may_not h k c.args.id c.args.position (c.in-Some.ensures.stopped k f d fits)
                (elim (says.1 (k.ring c.args.id) (known k m f shape read) (low k m f shape read d)) [
                  | inl is ↦ inl (passed_so h c.requires.headed c.args.id n there c.args.kept.now old at k m f shape read c.args.position is)
                  | inr bars ↦ inr (unfit_so h c.requires.headed c.args.id n there c.args.kept.now old at k m f shape read c.args.position bars)
                ]),
          ))
          c.withdraw_on.ensures.refused;
      events = search rules;
    }
