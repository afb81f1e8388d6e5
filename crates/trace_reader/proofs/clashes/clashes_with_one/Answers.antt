use Rattle.trace_reader.proofs.Laws.{◌||◌, ◌∙◌, ap, sym, segments_overlap, is_second, list_any, clashes}
use Rattle.trace_reader.proofs.clashes.clashes_with_one.Goals as goal

pub returns-then-overlaps_any : goal.returns-then-overlaps_any
returns-then-overlaps_any c =
    let r = c.args.ring.now in
    let overlaps = c.overlaps_any.ensures ∙ ap (λ ss. list_any (λ s. list_any (segments_overlap s) c.args.segments.now) ss) c.segments.ensures in
    c.if-overlaps_any.true ∙ ap (λ b. b || list_any (is_second r) c.args.others.now) (sym c.if-overlaps_any.true ∙ overlaps) ∙ clashes r c.args.others.now c.args.segments.now c.requires

pub returns-else-overlaps_any : goal.returns-else-overlaps_any
returns-else-overlaps_any c =
    let r = c.args.ring.now in
    let overlaps = c.overlaps_any.ensures ∙ ap (λ ss. list_any (λ s. list_any (segments_overlap s) c.args.segments.now) ss) c.segments.ensures in
    c.is_second_to_one.ensures ∙ ap (λ b. b || list_any (is_second r) c.args.others.now) (sym c.if-overlaps_any.false ∙ overlaps) ∙ clashes r c.args.others.now c.args.segments.now c.requires
