use Rattle.controller_model.proofs.Laws.{◌≡◌, ◌<◌, ◌∙◌, Some, length, slice_get, get_or, ap, refl, sym, subst, arith, inl, inr, cases_eq, same_Some, slice_get_within, set, IsLeft, read_at, RingState, slice_get-set_other, slice_get-set_same}
use Rattle.controller_model.proofs.resets.leave_rings.Goals as goal

pub loop-state-preserved : goal.loop-state-preserved
loop-state-preserved c =
    let rings = c.loop-state.rings in
    let n = c.loop-state.state-index in
    let state = c.state-item.result in
    let new = c.leave_ring.new.state in
    record {
      done = λ i x y below was is. elim (cases_eq i n) [
        | inl here ↦
            let inside : n < length rings = omega (arith, c.loop-state.auto.rings) in
            let there : slice_get rings n ≡ Some state = read_at rings n n state refl inside c.state-item.is in
            let old : x ≡ state = same_Some x state (sym was ∙ sym (c.loop-state.invariant.others i (omega arith)) ∙ ap (slice_get rings) here ∙ there) in
            let made : new ≡ y = slice_get-set_same rings n new y (sym (ap (slice_get (set rings n new)) here) ∙ is) in
            let P : RingState → Type 0 = λ z. IsLeft z y in
            let Q : RingState → Type 0 = λ z. IsLeft (get_or rings n state) z in
            subst P (sym (old ∙ c.state-item.is)) (subst Q made c.leave_ring.ensures)
        | inr apart ↦ c.loop-state.invariant.done i x y (omega arith) was (sym (slice_get-set_other rings n i new apart) ∙ is)
      ];
      others = λ i past. slice_get-set_other rings n i new (λ e. omega arith) ∙ c.loop-state.invariant.others i (omega arith);
    }

pub returns : goal.returns
returns c = record {
  each = λ i x y was is. c.loop-state.invariant.done i x y (omega (arith, slice_get_within c.args.rings.now i x was)) was is;
}
