use Rattle.replayer.proofs.MiddleLaws.{◌∙◌, ◌++◌, ap, Stopped, ring_placed, listed, words_are, nothing_more, on_more, of_address, of_configure, of_deconfigure, of_dequeue, of_others}
use Rattle.replayer.proofs.row_notes.placing.add_placed.Goals as goal

pub returns-in-AddressDevice : goal.returns-in-AddressDevice
unfolding ring_placed
returns-in-AddressDevice g c =
    on_more c.add_addressed.result (λ adds. λ k n f words still room rings.
    rw (of_address c.args.header.now k n c.args.command c.in-AddressDevice.slot c.in-AddressDevice.at _ c.in-AddressDevice.is, words_are k (g.M.WordMemory.words c.args.memory.now) words)
    (adds k f (rw c.in-AddressDevice.is at room))) c.add_addressed.ensures

pub returns-then-deconfigure : goal.returns-then-deconfigure
returns-then-deconfigure g c = λ k n f words still room rings.
    nothing_more c.args.rings.now.items _
    (of_deconfigure c.args.header.now k n c.args.command c.in-ConfigureEndpoint.slot c.in-ConfigureEndpoint.at (rw c.if-deconfigure.true at c.in-ConfigureEndpoint.is))

pub returns-else-deconfigure : goal.returns-else-deconfigure
returns-else-deconfigure g c =
    let is = rw c.if-deconfigure.false at c.in-ConfigureEndpoint.is in
    on_more c.add_configured.result (λ adds. λ k n f words still room rings.
    rw (of_configure c.args.header.now c.requires.headed c.args.command k rings n c.in-ConfigureEndpoint.slot c.in-ConfigureEndpoint.at is still, words_are k (g.M.WordMemory.words c.args.memory.now) words)
    (adds (rw is at room))) c.add_configured.ensures

pub returns-in-SetTrDequeue : goal.returns-in-SetTrDequeue
returns-in-SetTrDequeue g c =
    on_more c.add_ring.result (λ added. λ k n f words still room rings.
    rw (of_dequeue c.args.header.now k n c.args.command _ _ _ _ c.in-SetTrDequeue.is) (added ∙ ap (λ o. c.args.rings.now.items ++ listed o) (c.ring_placed-ring.ensures k _ Stopped f))) c.add_ring.ensures

pub returns-in_default : goal.returns-in_default
returns-in_default g c = λ k n f words still room rings.
    let x = c.args in
    nothing_more x.rings.now.items _ (of_others x.header.now k n x.command c.in_default.not-AddressDevice c.in_default.not-ConfigureEndpoint c.in_default.not-SetTrDequeue)
