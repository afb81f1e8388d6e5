use Rattle.ring_knowledge.proofs.Laws.{◌≡◌, ◌∙◌, Some, refl, ap, sym, arith, number, link_crossed, floor_number, is_step_given, is_way_given, place_of, same_numbers, reached_marks}
use Rattle.ring_knowledge.proofs.ring_record.RingRecord.reach.Goals as goal

pub returns : goal.returns
unfolding is_step_given is_way_given
returns c = λ v known later reached.
    let from : c.number-passed.result ≡ floor_number v = c.number-passed.ensures ∙ sym (ap number known.marks.floor) in
    c.forget_passed.ensures c.args.shape.now _ (record {
      marks =
          reached_marks c.args.shape.now v c.args.self.now known.marks c.args.spot later reached _
          (record { forgotten = refl; blocks = refl; lengths = refl; floor = refl; held = refl; withdrawn = refl; free = refl })
          (same_numbers (λ p i. place_of c.args.shape.now p ≡ i) _ _ _ _ _ _ from c.number.ensures
          (c.clear_places.ensures (omega (arith, from, c.number.ensures, later))))
          (same_numbers (λ q j. link_crossed c.args.shape.now q ≡ Some j) _ _ _ _ _ _ from c.number-2.ensures
          (c.clear_links.ensures (omega (arith, from, c.number-2.ensures, later))));
      steps = λ q h. known.steps q h;
      stop = known.stop;
    })
