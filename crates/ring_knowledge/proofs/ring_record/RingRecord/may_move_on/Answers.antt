use Rattle.ring_knowledge.proofs.Laws.{rules, ◌≡◌, ◌+◌, ◌<◌, ◌∙◌, sym, ap, arith, place_count, declared, ceiling, is_move, no_move_between}
use Rattle.ring_knowledge.proofs.ring_record.RingRecord.may_move_on.Goals as goal

pub returns-then-most-least : goal.returns-then-most-least
returns-then-most-least c = search (rules, ceiling, declared, no_move_between)

pub returns : goal.returns
returns c = λ v known from.
    let least : c.ceiling-least.result ≡ ceiling c.args.shape.now v = c.ceiling-least.ensures c.args.shape.now v known in
    let most : c.end-most.result ≡ declared v = c.end-most.ensures.value ∙ sym known.marks.count in
    let near : c.end-most.result < c.ceiling-least.result + place_count c.args.shape.now =
    omega (arith, least, most, from, known.marks.room) in
    c.is_move.ensures v known (omega (arith, least, from)) near
    ∙ ap (λ n. is_move c.args.shape.now v c.args.pointer c.args.cycle n c.end-most.result) least
    ∙ ap (λ n. is_move c.args.shape.now v c.args.pointer c.args.cycle (ceiling c.args.shape.now v) n) most
