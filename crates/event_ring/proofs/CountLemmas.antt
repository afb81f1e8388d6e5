-- The counts of an event ring stay in order
use Rattle.event_ring.proofs.Words.{◌≡◌, ◌≢◌, ◌+◌, ◌%◌, ◌^◌, ◌<◌, ◌≤◌, ◌==◌, ◌∙◌, ℕ, true, nat_lt, arith, sym, ap, inl, inr, eq-eqb, cases_eq, not-true, and_parts, false≢true, add-mod_right, place_count, address_of, IsShape, shape_facts, same_position, EventCounts, AreInOrder, has_room, EventState, may_post}

pub posted_in_order : (size : ℕ) (c : EventCounts) → 2 ≤ size → has_room size c.posted c.dequeue ≡ true → AreInOrder size c →
    AreInOrder size (record c { posted = c.posted + 1 })
posted_in_order size c some room order =
    let far : c.posted + 1 ≢ c.dequeue + size = λ e.
    false≢true (sym (not-true ((c.posted + 1) % size == c.dequeue % size) room)
    ∙ eq-eqb ((c.posted + 1) % size) (c.dequeue % size) (ap (λ n. n % size) e ∙ add-mod_right c.dequeue size)) in
    record {
      dequeued = order.dequeued;
      read = omega (arith, order.read);
      room = λ _. elim (cases_eq c.posted 0) [
        | inl none ↦ omega (arith, order.dequeued, order.read)
        | inr more ↦ let near : c.posted + 1 ≤ c.dequeue + size = order.room (omega arith) in omega arith
      ];
    }

-- after a post
pub in_order_posted : (s : EventState) → IsShape s.shape → may_post s ≡ true → AreInOrder (place_count s.shape) s.counts →
    AreInOrder (place_count s.shape) (record s.counts { posted = s.counts.posted + 1 })
in_order_posted s is may order =
    let parts = and_parts (has_room (place_count s.shape) s.counts.posted s.counts.dequeue) (nat_lt (s.counts.posted + 1) (2 ^ 64)) may in
    posted_in_order (place_count s.shape) s.counts (shape_facts s.shape is).several parts.0 order

-- the place of the next post is that of no event from ERDP's position on
pub posts_elsewhere : (s : EventState) → IsShape s.shape → may_post s ≡ true → AreInOrder (place_count s.shape) s.counts → (q : ℕ) →
    s.counts.dequeue ≤ q → q < s.counts.posted → address_of s.shape q ≢ address_of s.shape s.counts.posted
posts_elsewhere s is may order q from below same =
    let next = in_order_posted s is may order in
    let room : s.counts.posted + 1 + 1 ≤ s.counts.dequeue + place_count s.shape = next.room (omega arith) in
    let one : q ≡ s.counts.posted = same_position s.shape is q s.counts.posted (omega arith) (omega arith) same in
    omega arith
