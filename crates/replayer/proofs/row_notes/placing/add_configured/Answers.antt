use Rattle.replayer.proofs.MiddleLaws.{◌∙◌, ◌++◌, ap, arith, View, rings_added, nothing_more, added_end}
use Rattle.replayer.proofs.row_notes.placing.add_configured.Goals as goal

pub returns : goal.returns
returns g c = λ ends.
    let x = c.args in
    let h = x.header.now in
    let input = c.in-Some.input in
    let end = added_end h (g.M.WordMemory.words input.memory) input.address c.loop-index.index (omega (arith, c.loop-index.auto.index-end, c.loop-index-test.false)) in
    nothing_more c.loop-index.rings.items (rings_added h (g.M.WordMemory.words input.memory) input.address c.loop-index.index) end
    ∙ c.loop-index.invariant
    ∙ ap (λ (v : View _). x.rings.now.items ++ rings_added h (g.M.WordMemory.words v.memory) v.address 2) c.in-Some.ensures.view
