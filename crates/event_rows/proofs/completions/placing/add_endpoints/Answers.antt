use Rattle.event_rows.proofs.Laws.{arith, subst, places_from, adds_end, HasDone, all_done}
use Rattle.event_rows.proofs.completions.placing.add_endpoints.Goals as goal

pub returns-clause-followed : goal.returns-clause-followed
returns-clause-followed g c = λ d k f may.
    let h = c.args.header.now in
    let memory = g.M.WordMemory.words c.args.input.now.memory in
    let size = c.args.input.now.size in
    let a = c.args.input.now.address in
    let all = places_from size memory c.args.slot a 2 in
    let end = adds_end size memory c.args.slot a c.loop-index.index (omega (arith, c.loop-index.auto.index-end, c.loop-index-test.false)) in
    all_done h d c.loop-index.t.rings.items c.loop-index.t.devices k all
    (subst (λ xs. HasDone h d k all xs c.loop-index.t.rings.items c.loop-index.t.devices) end (c.loop-index.invariant.1 d k f may))
