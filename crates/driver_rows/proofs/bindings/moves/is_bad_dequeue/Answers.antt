use Rattle.driver_rows.proofs.Laws.{◌≡◌, ◌∙◌, Some, get_or, ap, sym, not, refl, is_bad_dequeue, is_there, of_transfer, bad_dequeue}
use Rattle.driver_rows.proofs.bindings.moves.is_bad_dequeue.Goals as goal

pub returns-in_default : goal.returns-in_default
unfolding is_bad_dequeue
returns-in_default c = λ k m f keeps. rw (sym (c.ring_of.ensures k f.devices) ∙ c.in_default.is) refl

pub returns-in_default-number_of : goal.returns-in_default-number_of
returns-in_default-number_of c = λ k m f keeps.
    absurd (is_there c.args.header.now c.requires.headed k c.args.t.now.rings.items f.rings keeps c.in-Some.id
    (keeps.states.transfer c.args.slot c.args.endpoint c.in-Some.id (sym (c.ring_of.ensures k f.devices) ∙ c.in-Some.is)) (sym (c.number_of.ensures.number f.rings.as_many) ∙ c.in_default-number_of.is))

pub returns : goal.returns
returns c = λ k m f keeps.
    let ring = c.index-rings-number.result in
    let n = c.in-Some-number_of.number in
    let has : k.ring_of c.args.slot c.args.endpoint ≡ Some c.in-Some.id = sym (c.ring_of.ensures k f.devices) ∙ c.in-Some.is in
    let is = of_transfer c.args.header.now c.requires.headed k c.args.t.now.rings.items f.rings keeps c.in-Some.id (keeps.states.transfer c.args.slot c.args.endpoint c.in-Some.id has) n ring
    (sym (c.number_of.ensures.number f.rings.as_many) ∙ c.in-Some-number_of.is) (c.index-rings-number.is ∙ ap (λ xs. get_or xs n ring) c.as_slice-rings.ensures) c.index.result.now c.index.ensures in
    ap not (c.may_move_on.ensures (k.ring c.in-Some.id) is.follows is.low)
    ∙ bad_dequeue c.args.header.now k c.in-Some.id ring.shape is.shape_is (k.ring_of c.args.slot c.args.endpoint) has c.args.dequeue.pointer c.args.dequeue.cycle
