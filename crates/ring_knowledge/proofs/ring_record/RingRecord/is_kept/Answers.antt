use Rattle.ring_knowledge.proofs.Laws.{◌≡◌, ◌∙◌, ap, sym, arith, not, contains, nat_cmp, same_due, none_in}
use Rattle.ring_knowledge.proofs.ring_record.RingRecord.is_kept.Goals as goal

pub returns-then-is_empty : goal.returns-then-is_empty
returns-then-is_empty c = λ p low high here. sym (ap not (none_in c.args.self.now.free (c.is_empty.ensures.0 c.if-is_empty.true) p))

pub returns : goal.returns
returns c = λ p low high here.
    let q = c.next_at-position.result in
    let same : q ≡ p = same_due c.args.shape.now c.requires.allowed _ q p
    (omega (arith, c.number.ensures, c.next_at-position.ensures.from)) (omega (arith, c.number.ensures, c.next_at-position.ensures.within)) low high (c.next_at-position.ensures.place ∙ sym here) in
    ap not (c.contains.ensures ∙ ap (λ n. contains nat_cmp c.args.self.now.free n) same)
