use Rattle.ring_knowledge.proofs.Words.{◌∙◌, ◌&&◌, arith, ap, sym, is_border, is_reached, may_move_to}
use Rattle.ring_knowledge.proofs.ring_record.RingRecord.may_move_to.Goals as goal

pub returns-then-is_border : goal.returns-then-is_border
unfolding may_move_to
returns-then-is_border c = λ v known from.
    let border = ap (λ n. is_border v.lengths 0 n) (sym c.number.ensures) ∙ sym (c.is_border.ensures c.args.shape.now v known.marks (omega (arith, c.number.ensures, from, known.marks.passed))) ∙ c.if-is_border.true in
    c.is_stop_spot.ensures.reached v known ∙ sym (ap (λ b. b && is_reached c.args.shape.now v c.args.spot) border)

pub returns-else-is_border : goal.returns-else-is_border
unfolding may_move_to
returns-else-is_border c = λ v known from.
    let border = ap (λ n. is_border v.lengths 0 n) (sym c.number.ensures) ∙ sym (c.is_border.ensures c.args.shape.now v known.marks (omega (arith, c.number.ensures, from, known.marks.passed))) ∙ c.if-is_border.false in
    sym (ap (λ b. b && is_reached c.args.shape.now v c.args.spot) border)
