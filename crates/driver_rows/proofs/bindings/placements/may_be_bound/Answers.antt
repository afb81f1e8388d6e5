use Rattle.driver_rows.proofs.Laws.{◌∙◌, ap, get_or, sym, having_transfer, is_there, of_transfer, placed}
use Rattle.driver_rows.proofs.bindings.placements.may_be_bound.Goals as goal

pub returns-in_default : goal.returns-in_default
returns-in_default c = λ k m f keeps having.
    absurd (is_there c.args.header.now c.requires.headed k c.args.t.now.rings.items f.rings keeps c.args.id (having_transfer c.args.header.now c.requires.headed c.args.dequeue.pointer c.args.id having)
    (sym (c.ring_named.ensures c.args.header.now.rings c.requires.found) ∙ c.in_default.is))

pub returns-in-Some-get : goal.returns-in-Some-get
returns-in-Some-get c = λ k m f keeps having.
    let h = c.args.header.now in
    let ring = c.index-rings-number.result in
    let n = c.in-Some.number in
    let known = c.in-Some-get.known.now in
    let is = of_transfer h c.requires.headed k c.args.t.now.rings.items f.rings keeps c.args.id (having_transfer h c.requires.headed c.args.dequeue.pointer c.args.id having) n ring (sym (c.ring_named.ensures h.rings c.requires.found) ∙ c.in-Some.is)
    (c.index-rings-number.is ∙ ap (λ xs. get_or xs n ring) c.as_slice-rings.ensures) known (c.in-Some-get.ensures.lookup.1 ∙ ap (λ xs. get_or xs n known) c.deref.ensures.value) in
    c.may_be_bound.ensures (k.ring c.args.id) is.follows is.low ∙ placed h k c.args.id ring.shape is.shape_is c.args.dequeue.pointer c.args.dequeue.cycle
