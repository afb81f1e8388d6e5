use Rattle.controller_model.proofs.Laws.{◌≡◌, ◌<◌, true, inl, inr, refl, subst, cases_lt, same_Some, Ring, ◌∙◌, ◌&&◌, Some, ap, get_or, length, slice_get, sym, arith, list_any, shape_of, some_ring, has_other_words, is_inside_descriptor, is_out_of_order, waits, read_at, any_more, take_past, may_be_inside, slice_get_within}
use Rattle.controller_model.proofs.SafetyLemmas.{listed}
use Rattle.controller_model.proofs.safety.ring_harms.Goals as goal

pub loop-ring-preserved : goal.loop-ring-preserved
loop-ring-preserved g c =
    let items = c.as_slice-ring-items.ensures in
    let inside : c.loop-ring.ring-index < length c.args.header.now.rings = omega (arith, ap length items) in
    let at : c.ring-item.result ≡ get_or c.args.header.now.rings c.loop-ring.ring-index c.ring-item.result =
    c.ring-item.is ∙ ap (λ xs. get_or xs c.loop-ring.ring-index c.ring-item.result) items in
    let below : c.ring-item.result.id < length c.args.kept.now.rings.items = omega (arith, c.args.kept.now.rings_many) in
    let there : slice_get c.args.kept.now.rings.items c.ring-item.result.id ≡ Some c.index-state.result.now =
    read_at c.args.kept.now.rings.items c.from.result c.ring-item.result.id c.index-state.result.now c.from.ensures below c.index-state.ensures in
    let known = listed c.args.header.now.rings c.loop-ring.ring-index c.ring-item.result inside at in
    record {
      items = c.loop-ring.invariant.items;
      order = λ w f.
          let old = f.rings.each c.ring-item.result.id c.index-state.result.now there in
          any_more (λ ring. is_out_of_order (shape_of c.args.header.now ring.id) (w.events ring.id)) c.args.header.now.rings c.loop-ring.ring-index c.ring-item.result _ _ inside at
          (c.loop-ring.invariant.order w f) (c.is_out_of_order.ensures ∙ sym (old.harms known).order);
      words = λ w f.
          let old = f.rings.each c.ring-item.result.id c.index-state.result.now there in
          any_more (λ ring. has_other_words (shape_of c.args.header.now ring.id) (w.events ring.id)) c.args.header.now.rings c.loop-ring.ring-index c.ring-item.result _ _ inside at
          (c.loop-ring.invariant.words w f) (c.has_other_words.ensures ∙ sym (old.harms known).words);
      waiting = λ w f.
          let old = f.rings.each c.ring-item.result.id c.index-state.result.now there in
          any_more (λ ring. waits w ring.id && is_inside_descriptor (w.events ring.id)) c.args.header.now.rings c.loop-ring.ring-index c.ring-item.result _ _ inside at
          (c.loop-ring.invariant.waiting w f) (c.waits_inside.ensures c.args.header.now c.ring-item.result.id w old (sym (ap (λ y. y.memory) f.held)));
      inside = λ w f i q below found is. elim (cases_lt i c.loop-ring.ring-index) [
        | inl before ↦ c.with-harms.ensures.others q.id (c.loop-ring.invariant.inside w f i q before found is)
        | inr last ↦
            let old = f.rings.each c.ring-item.result.id c.index-state.result.now there in
            let which : i ≡ c.loop-ring.ring-index = omega arith in
            let ring : q ≡ c.ring-item.result = same_Some q c.ring-item.result (sym found ∙ ap (slice_get c.args.header.now.rings) which ∙
            read_at c.args.header.now.rings c.loop-ring.ring-index c.loop-ring.ring-index c.ring-item.result refl inside at) in
            subst (λ (x : Ring). is_inside_descriptor (w.events x.id) ≡ true → may_be_inside c.with-harms.result x.id ≡ true) (sym ring)
            (λ so. c.with-harms.ensures.here (c.is_inside.ensures ∙ sym old.history.inside ∙ so)) is
      ];
    }

pub returns : goal.returns
unfolding some_ring
returns g c = λ w f.
    let past = take_past c.args.header.now.rings c.loop-ring.ring-index (omega (arith, ap length c.as_slice-ring-items.ensures)) in
    record {
      order = c.loop-ring.invariant.order w f
          ∙ ap (λ xs. list_any (λ ring. is_out_of_order (shape_of c.args.header.now ring.id) (w.events ring.id)) xs) past;
      words = c.loop-ring.invariant.words w f
          ∙ ap (λ xs. list_any (λ ring. has_other_words (shape_of c.args.header.now ring.id) (w.events ring.id)) xs) past;
      waiting = c.loop-ring.invariant.waiting w f
          ∙ ap (λ xs. list_any (λ ring. waits w ring.id && is_inside_descriptor (w.events ring.id)) xs) past;
      inside = λ i q found is. c.loop-ring.invariant.inside w f i q (omega (arith, slice_get_within c.args.header.now.rings i q found, ap length c.as_slice-ring-items.ensures)) found is;
    }
