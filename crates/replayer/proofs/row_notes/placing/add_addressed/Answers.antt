use Rattle.replayer.proofs.MiddleLaws.{◌∙◌, ◌++◌, ap, View, context_cycle, context_pointer, Running, Places, ring_placed, listed, on_more}
use Rattle.replayer.proofs.row_notes.placing.add_addressed.Goals as goal

pub returns : goal.returns
returns g c =
    let x = c.args in
    let h = x.header.now in
    let memory = g.M.WordMemory.words x.memory.now in
    let input = c.in-Some.input in
    let cycle = context_cycle h.context_size memory x.context 1 in
    let pointer = c.endpoint-endpoint.ensures.pointer ∙ ap (λ (v : View _). context_pointer v.size (g.M.WordMemory.words v.memory) v.address 1) c.in-Some.ensures.view in
    on_more c.add_ring.result (λ added. λ k f ends.
    added ∙ ap (λ o. x.rings.now.items ++ listed o) (c.ring_placed-ring.ensures k cycle Running f ∙ ap (λ p. ring_placed h k (Places x.slot 1 p cycle Running)) pointer)) c.add_ring.ensures
