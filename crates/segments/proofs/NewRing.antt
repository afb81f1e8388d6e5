-- Before anything happens on a ring the rules are kept: it hasn't grown then, so that its first lap has Cycle bit 1
use Rattle.segments.proofs.MiddleLaws.{rules, ◌≡◌, ℕ, false≢true, none-some, same_Some, Shape, place_count, address_of, cycle_of, link_address, IsShape, new_ring, RingKeeps, place_count_pos, cycle_of-first, crossing_positive, due_is, crossing_due_is}

pub new_ring_keeps : (shape : Shape) → IsShape shape → shape.offset ≡ 0 → (memory : ℕ → ℕ) → ((a : ℕ) → memory a ≡ 0) → RingKeeps shape memory new_ring
new_ring_keeps shape is unmoved memory zeros =
    search (rules, place_count_pos, crossing_positive, false≢true, due_is, address_of, cycle_of, cycle_of-first, crossing_due_is, place_count, link_address, none-some, same_Some)
