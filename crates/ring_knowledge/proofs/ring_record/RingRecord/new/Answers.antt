use Rattle.ring_knowledge.proofs.Laws.{◌∙◌, ap, refl, length, arith, replicate, false, new_marks, new_stop}
use Rattle.ring_knowledge.proofs.ring_record.RingRecord.new.Goals as goal

pub returns : goal.returns
returns c = record {
  marks =
      new_marks c.args.shape.now c.places-places.ensures.allowed (omega (arith, c.places-places.ensures.count, c.places-places.ensures.least)) _
      refl c.new.ensures.items c.new-2.ensures.items
      (c.in_ok-vec.ensures.items_if_clones_equal (λ y h. h) ∙ ap (λ n. replicate n false) c.places-places.ensures.count)
      (c.in_ok-vec-2.ensures.items_if_clones_equal (λ y h. h) ∙ ap (λ n. replicate n false) (ap length c.segments-segments.ensures))
      refl refl c.new-3.ensures.empty c.new-4.ensures.empty;
  steps = λ q h. absurd (omega arith);
  stop = new_stop c.args.shape.now;
}
