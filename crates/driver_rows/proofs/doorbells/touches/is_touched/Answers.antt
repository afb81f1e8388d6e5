use Rattle.driver_rows.proofs.Laws.{◌≡◌, ◌||◌, ◌∙◌, ap, sym, refl, list_any, as_list, touches_endpoint, unfinished, Known, FollowsTrace, ContextsFit, IsThat, is_touched, named_fits, that_is, touched_is}
use Rattle.driver_rows.proofs.doorbells.touches.is_touched.Goals.{After-is_touched_by}
use Rattle.driver_rows.proofs.doorbells.touches.is_touched.Goals as goal

by_two : (g : _) (c : After-is_touched_by g) (k : Known) → FollowsTrace c.args.header.now k c.args.t.now (g.M.WordMemory.words c.args.memory.now) → ContextsFit c.args.header.now k →
    (is_touched c.args.header.now k c.args.slot c.args.index ≡ (c.is_touched_by.result || list_any (touches_endpoint c.args.header.now k c.args.slot c.args.index) (as_list c.of_endpoint-of_endpoint.result)))
    × IsThat c.args.slot c.args.index (unfinished c.args.header.now k) c.of_endpoint-of_endpoint.result
by_two g c k f fit =
    let h = c.args.header.now in
    let s = c.args.slot in
    let all = unfinished h k in
    let of_slot = that_is s 0 all c.args.t.now.commands _ f.commands c.of_slot-of_slot.ensures.one c.of_slot-of_slot.ensures.named in
    let of_endpoint = that_is s c.args.index all c.args.t.now.commands _ f.commands c.of_endpoint-of_endpoint.ensures.one c.of_endpoint-of_endpoint.ensures.named in
    let here = c.is_touched_by.ensures k f.words (named_fits h.context_size s 0 all _ fit of_slot) in
    (sym (touched_is h k s c.args.index _ _ of_slot of_endpoint) ∙ ap (λ b. b || list_any (touches_endpoint h k s c.args.index) (as_list c.of_endpoint-of_endpoint.result)) (sym here), of_endpoint)

pub returns-then-is_touched_by : goal.returns-then-is_touched_by
returns-then-is_touched_by g c = λ k f fit. rw ((by_two g (goal.at.returns-then-is_touched_by g c).After-is_touched_by k f fit).0, c.if-is_touched_by.true) refl

pub returns-else-is_touched_by : goal.returns-else-is_touched_by
returns-else-is_touched_by g c = λ k f fit.
    let is = by_two g (goal.at.returns-else-is_touched_by g c).After-is_touched_by k f fit in
    rw (is.0, c.if-is_touched_by.false) (c.is_touched_by-else-is_touched_by.ensures k f.words (named_fits c.args.header.now.context_size c.args.slot c.args.index (unfinished c.args.header.now k) _ fit is.1))
