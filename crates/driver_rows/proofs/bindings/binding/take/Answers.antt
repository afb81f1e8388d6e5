use Rattle.driver_rows.proofs.Laws.{arith, ◌≡◌, ◌||◌, ◌∙◌, Some, ap, sym, true, false, not, ring_having, is_kept, is_placed, as_binding, is_in_set, is_kept_ring, is_misplaced, RingBinding, bad_first, or_last, taken_next}
use Rattle.driver_rows.proofs.bindings.binding.take.Goals as goal

pub returns-in_default : goal.returns-in_default
unfolding is_placed
returns-in_default c = grind (arith, bad_first)

pub returns-then-not-may_be_bound : goal.returns-then-not-may_be_bound
returns-then-not-may_be_bound c = λ k m command f keeps holds is rest.
    let h = c.args.header.now in
    let b = c.args.binding in
    let having : ring_having h b.dequeue.pointer ≡ Some c.in-Some.ring = sym (ap (λ (x : RingBinding). x.ring) is) ∙ c.in-Some.is in
    let elsewhere : is_placed h k b.ring (as_binding b.dequeue) ≡ false =
    ap (λ o. is_placed h k o (as_binding b.dequeue)) c.in-Some.is ∙ sym (c.may_be_bound.ensures k m f keeps having) ∙ c.if-not-may_be_bound.true in
    bad_first (is_misplaced h k command) c.args.taken.now b rest
    (or_last (is_in_set c.args.taken.now b.ring) (is_kept_ring h k command b.ring) (is_placed h k b.ring (as_binding b.dequeue)) elsewhere)

pub returns : goal.returns
returns c = λ k m command f keeps holds is rest.
    let h = c.args.header.now in
    let b = c.args.binding in
    let having : ring_having h b.dequeue.pointer ≡ Some c.in-Some.ring = sym (ap (λ (x : RingBinding). x.ring) is) ∙ c.in-Some.is in
    let here : is_placed h k (Some c.in-Some.ring) (as_binding b.dequeue) ≡ true = sym (c.may_be_bound.ensures k m f keeps having) ∙ c.if-not-may_be_bound.false in
    let free : is_kept h k command c.in-Some.ring ≡ false = sym (c.is_kept.ensures h k command f.devices keeps holds) ∙ c.if-is_kept.false in
    taken_next (is_misplaced h k command) c.args.taken.now c.insert.new.self c.in-Some.ring c.insert.ensures b rest
    (ap (λ o. is_kept_ring h k command o || not (is_placed h k o (as_binding b.dequeue))) c.in-Some.is ∙ (λ i. free i || not (here i))) c.in-Some.is
    (sym c.contains.ensures ∙ c.if-contains.false)
