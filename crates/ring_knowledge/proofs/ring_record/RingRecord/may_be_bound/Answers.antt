use Rattle.ring_knowledge.proofs.Laws.{rules, is_placement, ◌≡◌, ◌∙◌, ap, sym, arith, ceiling, floor_number, is_move, place_count_pos, number, no_move_between}
use Rattle.ring_knowledge.proofs.ring_record.RingRecord.may_be_bound.Goals as goal

pub returns-then-ceiling-floor : goal.returns-then-ceiling-floor
unfolding is_placement
returns-then-ceiling-floor c = search (rules, ceiling, floor_number, number, no_move_between)

pub returns : goal.returns
unfolding is_placement
returns c = λ v known from.
    let top : c.ceiling.result ≡ ceiling c.args.shape.now v = c.ceiling.ensures c.args.shape.now v known in
    let floor : c.number-floor.result ≡ floor_number v = c.number-floor.ensures ∙ ap number (sym known.marks.floor) in
    c.is_move.ensures v known (omega (arith, floor)) (omega (arith, place_count_pos c.args.shape.now known.marks.allowed))
    ∙ ap (λ n. is_move c.args.shape.now v c.args.pointer c.args.cycle n c.number-floor.result) (sym c.if-ceiling-floor.false ∙ top)
    ∙ ap (λ n. is_move c.args.shape.now v c.args.pointer c.args.cycle (ceiling c.args.shape.now v) n) floor
