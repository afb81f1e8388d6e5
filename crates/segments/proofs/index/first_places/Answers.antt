use Rattle.segments.proofs.UpperLaws.{AreFirsts, ◌+◌, ℕ, List, length, arith, sym, ap, subst, before-zero, before-next, firsts_push}
use Rattle.segments.proofs.index.first_places.Goals as goal

pub loop-segment-init : goal.loop-segment-init
loop-segment-init c = record {
  firsts = record { many = ap length c.new-firsts.ensures.items; each = λ j below. absurd (omega arith) };
  places = sym (before-zero c.args.kind c.args.segments.now);
  low = omega arith;
}

pub loop-segment-preserved : goal.loop-segment-preserved
loop-segment-preserved c = record {
  firsts = subst (λ (xs : List ℕ). AreFirsts c.args.kind c.args.segments.now (c.loop-segment.segment-index + 1) xs) (sym c.in_ok-push.ensures.items)
      (firsts_push c.args.kind c.args.segments.now c.loop-segment.segment-index c.loop-segment.firsts.items c.loop-segment.places c.loop-segment.invariant.firsts c.loop-segment.invariant.places);
  places = omega (arith, before-next c.args.kind c.args.segments.now c.loop-segment.segment-index c.loop-segment-test.true, c.from-places.ensures, c.data_blocks.ensures);
  low = omega arith;
}
