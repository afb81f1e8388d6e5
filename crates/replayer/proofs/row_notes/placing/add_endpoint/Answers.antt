use Rattle.replayer.proofs.MiddleLaws.{◌+◌, ◌∙◌, ◌++◌, ap, sym, append_assoc, listed, rings_added, on_more, added_later, added_next, pointed_from}
use Rattle.replayer.proofs.row_notes.placing.add_endpoint.Goals as goal

pub returns-then-not-adds : goal.returns-then-not-adds
returns-then-not-adds g c =
    let x = c.args in
    ap (λ xs. x.rings.now.items ++ xs) (added_later x.header.now (g.M.WordMemory.words x.input.now.memory) x.input.now.address x.index c.requires.last (sym c.adds.ensures ∙ c.if-not-adds.true))

pub returns : goal.returns
returns g c =
    let x = c.args in
    let h = x.header.now in
    let memory = g.M.WordMemory.words x.input.now.memory in
    let a = x.input.now.address in
    let begins = c.ring_having-ring.ensures ∙ pointed_from h memory a x.index x.input.now.size c.endpoint-endpoint.result.pointer c.requires.sized c.endpoint-endpoint.ensures.pointer in
    on_more c.add_ring.result (λ added.
    ap (λ xs. xs ++ rings_added h memory a (x.index + 1)) (added ∙ ap (λ o. x.rings.now.items ++ listed o) begins)
    ∙ append_assoc x.rings.now.items _ _
    ∙ ap (λ xs. x.rings.now.items ++ xs) (added_next h memory a x.index c.requires.last (sym c.adds.ensures ∙ c.if-not-adds.false)))
    c.add_ring.ensures
