use Rattle.trace_record.proofs.Laws.{◌+◌, rules, ℕ, sym, subst, length, set, refl, Some, slice_get_read, AreNumbers, one_number}
use Rattle.trace_record.proofs.ring_finder.finder.ring_numbers.Goals as goal

pub loop-number-preserved : goal.loop-number-preserved
loop-number-preserved c =
    let ring = c.index-rings-number.result in
    subst (λ (id : ℕ). AreNumbers c.args.rings.now (c.loop-number.number + 1) (set c.loop-number.numbers.items id (Some c.loop-number.number))) (sym c.from.ensures)
    (one_number c.args.rings.now c.requires c.loop-number.numbers.items c.loop-number.number ring c.loop-number.invariant
    (slice_get_read c.args.rings.now (length c.args.rings.now) c.loop-number.number ring refl c.loop-number-test.true c.index-rings-number.is) (search rules))
