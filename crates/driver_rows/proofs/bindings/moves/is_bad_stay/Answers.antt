use Rattle.driver_rows.proofs.Laws.{arith, ◌≡◌, ◌∙◌, ℕ, get_or, ap, sym, not, declared, floor_number, Known, FollowsTrace, DriverKeeps, IsRecordOf, refl, is_bad_stay, is_there, of_transfer, bad_stay, left_over}
use Rattle.driver_rows.proofs.bindings.moves.is_bad_stay.Goals.{After-floor_number}
use Rattle.driver_rows.proofs.bindings.moves.is_bad_stay.Goals as goal

pub returns-in_default : goal.returns-in_default
unfolding is_bad_stay
returns-in_default c = λ k m f keeps. rw (sym (c.ring_of.ensures k f.devices) ∙ c.in_default.is) refl

pub returns-in_default-number_of : goal.returns-in_default-number_of
returns-in_default-number_of c = λ k m f keeps.
    absurd (is_there c.args.header.now c.requires.headed k c.args.t.now.rings.items f.rings keeps c.in-Some.id
    (keeps.states.transfer c.args.slot 1 c.in-Some.id (sym (c.ring_of.ensures k f.devices) ∙ c.in-Some.is)) (sym (c.number_of.ensures.number f.rings.as_many) ∙ c.in_default-number_of.is))

recorded : (c : After-floor_number) (k : Known) (m : ℕ → ℕ) → FollowsTrace c.args.header.now k c.args.t.now m → DriverKeeps c.args.header.now k →
    IsRecordOf c.args.header.now k c.in-Some.id c.index-rings-number.result.shape c.index-known.result.now
recorded c k m f keeps =
    let ring = c.index-rings-number.result in
    let n = c.in-Some-number_of.number in
    of_transfer c.args.header.now c.requires.headed k c.args.t.now.rings.items f.rings keeps c.in-Some.id (keeps.states.transfer c.args.slot 1 c.in-Some.id (sym (c.ring_of.ensures k f.devices) ∙ c.in-Some.is)) n ring
    (sym (c.number_of.ensures.number f.rings.as_many) ∙ c.in-Some-number_of.is) (c.index-rings-number.is ∙ ap (λ xs. get_or xs n ring) c.as_slice-rings.ensures) c.index-known.result.now c.index-known.ensures

pub returns-then-declared_count-floor_number : goal.returns-then-declared_count-floor_number
returns-then-declared_count-floor_number c = λ k m f keeps.
    let is = recorded (goal.at.returns-then-declared_count-floor_number c).After-floor_number k m f keeps in
    left_over c.args.header.now k (k.ring_of c.args.slot 1) c.in-Some.id (sym (c.ring_of.ensures k f.devices) ∙ c.in-Some.is) (record { pointer = c.args.dequeue.pointer; cycle = c.args.dequeue.cycle })
    (λ same. c.if-declared_count-floor_number.true (c.declared_count.ensures _ (k.ring c.in-Some.id) is.follows ∙ same ∙ sym (c.floor_number.ensures.value _ (k.ring c.in-Some.id) is.follows)))

pub returns : goal.returns
returns c = λ k m f keeps.
    let is = recorded (goal.at.returns c).After-floor_number k m f keeps in
    let nothing : declared (k.ring c.in-Some.id) ≡ floor_number (k.ring c.in-Some.id) =
    sym (c.declared_count.ensures _ (k.ring c.in-Some.id) is.follows) ∙ c.if-declared_count-floor_number.false ∙ c.floor_number.ensures.value _ (k.ring c.in-Some.id) is.follows in
    ap not (c.may_stay.ensures (k.ring c.in-Some.id) is.follows (omega (arith, nothing)))
    ∙ bad_stay c.args.header.now k c.in-Some.id _ is.shape_is (k.ring_of c.args.slot 1) (sym (c.ring_of.ensures k f.devices) ∙ c.in-Some.is) (record { pointer = c.args.dequeue.pointer; cycle = c.args.dequeue.cycle }) nothing
