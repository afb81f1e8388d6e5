use Rattle.trace_record.proofs.Laws.{◌∙◌, ap, sym, refl, arith, length, length-set, read_at, slice_get_within}
use Rattle.trace_record.proofs.ResetRecords.{one_reset, past_set}
use Rattle.trace_record.proofs.resets.reset_rings.Goals as goal

pub loop-number-preserved : goal.loop-number-preserved
loop-number-preserved c = record {
  as_many = length-set c.loop-number.records.items c.loop-number.number c.reset_ring.new.known ∙ c.loop-number.invariant.as_many;
  done = λ k f d.
      one_reset c.args.header.now c.requires.headed k c.args.records.now.items f d c.loop-number.records.items c.loop-number.number c.index-rings-number.result c.index_mut.result.now c.reset_ring.new.known
      (read_at c.as_slice-rings.result.now c.args.header.now.rings c.loop-number.number c.index-rings-number.result c.as_slice-rings.ensures (omega (arith, c.loop-number-test.true)) c.index-rings-number.is)
      (sym (c.loop-number.invariant.rest c.loop-number.number (omega arith))
      ∙ read_at c.loop-number.records.items c.loop-number.records.items c.loop-number.number c.index_mut.result.now refl
      (omega (arith, c.loop-number-test.true, c.loop-number.invariant.as_many, c.requires.as_many, ap length c.as_slice-rings.ensures)) c.index_mut.ensures.value)
      c.reset_ring.ensures (c.loop-number.invariant.done k f d);
  rest = λ i past. past_set c.loop-number.records.items c.loop-number.number i c.reset_ring.new.known (omega (arith, past)) ∙ c.loop-number.invariant.rest i (omega (arith, past));
}

pub returns : goal.returns
returns c = λ k f d. record {
  as_many = c.loop-number.invariant.as_many ∙ f.as_many;
  each = λ i ring r at there driver. c.loop-number.invariant.done k f d i ring r (omega (arith, slice_get_within c.args.header.now.rings i ring at, c.loop-number-test.false, ap length c.as_slice-rings.ensures)) at there driver;
}
