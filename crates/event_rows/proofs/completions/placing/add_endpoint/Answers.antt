use Rattle.event_rows.proofs.Laws.{◌+◌, ◌∙◌, sym, subst, placed_by_context, places_from, adds_next, MayChangeAll, one_done}
use Rattle.event_rows.proofs.completions.placing.add_endpoint.Goals as goal

pub returns-then-adds-clause-followed : goal.returns-then-adds-clause-followed
returns-then-adds-clause-followed g c = λ d k f may.
    let h = c.args.header.now in
    let memory = g.M.WordMemory.words c.args.input.now.memory in
    let size = c.args.input.now.size in
    let a = c.args.input.now.address in
    let next = adds_next size memory c.args.slot a c.args.index c.requires.last (sym c.adds.ensures ∙ c.if-adds.true) in
    one_done h d c.place_by_context.new.t.rings.items c.place_by_context.new.t.devices k
    (places_from size memory c.args.slot a c.args.index) (places_from size memory c.args.slot a (c.args.index + 1)) (placed_by_context size memory c.args.slot a c.args.index) next
    (c.place_by_context.ensures.followed d k f (subst (λ xs. MayChangeAll h d k xs) next may).0) may
