use Rattle.ring_knowledge.proofs.Words.{◌≡◌, ◌∙◌, sym, ap, arith, declared, is_move, place_count_pos}
use Rattle.ring_knowledge.proofs.ring_record.RingRecord.may_stay.Goals as goal

pub returns : goal.returns
returns c = λ v known from.
    let end : c.end-end.result ≡ declared v = c.end-end.ensures.value ∙ sym known.marks.count in
    c.is_move.ensures v known (omega (arith, end, from)) (omega (arith, place_count_pos c.args.shape.now known.marks.allowed))
    ∙ ap (λ n. is_move c.args.shape.now v c.args.pointer c.args.cycle n n) end
