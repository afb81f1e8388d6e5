use Rattle.ring_knowledge.proofs.Laws.{◌∙◌, sym, arith, contains, nat_cmp, any_at, any_none}
use Rattle.ring_knowledge.proofs.ring_record.withdrawals.has_some.Goals as goal

pub returns-then-contains : goal.returns-then-contains
returns-then-contains c = sym (any_at (λ q. contains nat_cmp c.args.set.now q) c.args.from c.args.count c.loop-number.number-counter c.loop-number.auto.number-counter (omega (arith, c.loop-number-test.true))
    (sym c.contains.ensures ∙ c.if-contains.true))

pub returns : goal.returns
returns c = sym (any_none (λ q. contains nat_cmp c.args.set.now q) c.args.from c.args.count (λ q low high. c.loop-number.invariant q low (omega (arith, high, c.loop-number-test.false, c.loop-number.auto.number-counter-end))))
