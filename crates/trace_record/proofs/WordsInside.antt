-- A word outside a ring is none that the ring owns, and its write gives nothing of the ring
use Rattle.trace_record.proofs.LowerLaws.{rules, common_steps, ◌≡◌, ◌+◌, ◌/◌, ◌%◌, ◌<◌, ◌≤◌, ℕ, [], true, false, arith, not, nat_lt, filter, ltb-true, eqb-true, nat_le, false≢true, Data, Shape, IsShape, address_of, cycle_of, is_inside, is_crossing, link_address, overlap, RingView, Writes, changed, gives, gives_crossing, is_due, is_crossing_due, positions_given, crossings_given, leased_positions, leased_crossings, due_positions, due_crossings, floor_number, place_below, address_aligned, link_aligned, place_at-data, place_at-link, is_inside-place_at, crosses, crossed_link, link_address_is, is_owned, false_unless, and_false, or_false, any_nowhere, any_filter, filter_nothing}
use Rattle.segments.specs.Places.{place_of}
use Rattle.trace_record.proofs.RingFinder.ListTests.{and_left, and_right}

module _ (shape : Shape) (allowed : IsShape shape) (a : ℕ) (aligned : a % 4 ≡ 0) where
  block_inside : (p : ℕ) → address_of shape p ≤ a → a < address_of shape p + 16 → is_inside shape a ≡ true
  block_inside p low high =
      is_inside-place_at shape allowed a (Data (place_of shape p) (a % 16 / 4)) (place_at-data shape allowed (place_of shape p) a (place_below shape allowed p) aligned low high)

  pub link_inside : (q : ℕ) → is_crossing shape q ≡ true → link_address shape q ≤ a → a < link_address shape q + 16 → is_inside shape a ≡ true
  link_inside q crossing low high =
      let over = crossed_link shape q crossing in
      search (rules, link_address_is shape q over.0 over.1, (crosses shape q over.0 over.1).link, place_at-link shape allowed over.0 a, is_inside-place_at shape allowed a)

  -- a word overlaps 16 bytes on a boundary of 16 only where it lies in them
  in_block : (b : ℕ) → b % 16 ≡ 0 → overlap a 4 b 16 ≡ true → (b ≤ a) × (a < b + 16)
  in_block b boundary h = search (rules, ltb-true, and_left, nat_lt, and_right)

  link_boundary : (q : ℕ) → is_crossing shape q ≡ true → link_address shape q % 16 ≡ 0
  link_boundary q crossing = grind (arith, common_steps, crossed_link, link_address_is, link_aligned, crosses)

  module _ (outside : is_inside shape a ≡ false) where
    no_block : (p : ℕ) → overlap a 4 (address_of shape p) 16 ≡ false
    no_block p = search (rules, false_unless, in_block (address_of shape p) (address_aligned shape allowed p), false≢true, block_inside, address_of)

    no_link : (q : ℕ) → is_crossing shape q ≡ true → overlap a 4 (link_address shape q) 16 ≡ true → ⊥
    no_link q crossing e = search (rules, in_block, link_address, link_boundary, false≢true, link_inside, in_block (link_address shape q) (link_boundary q crossing) e)

    pub not_owned : (v : RingView) → is_owned shape v a ≡ false
    unfolding leased_positions leased_crossings
    not_owned v = search (rules, any_nowhere, overlap, address_of, no_block, filter, due_positions, any_filter, link_address, is_crossing, due_crossings, false_unless, and_left, no_link, and_right)

    no_gives : (v : RingView) (w p : ℕ) → gives shape v.floor p a w ≡ false
    no_gives v w p = search (rules, false_unless, gives, and_left, is_due, address_of, cycle_of, eqb-true, and_right, false≢true, block_inside)

    no_gives_crossing : (v : RingView) (w q : ℕ) → gives_crossing shape v.floor q a w ≡ false
    no_gives_crossing v w q = search (rules, false_unless, gives_crossing, and_left, is_crossing_due, link_address, cycle_of, eqb-true, and_right, is_crossing, nat_le, floor_number, false≢true, link_inside)

    pub gives_no_position : (v : RingView) (w : ℕ) → positions_given shape v a w ≡ []
    unfolding positions_given
    gives_no_position v w = search (rules, filter_nothing, not, gives, no_gives, and_false, due_positions)

    pub gives_no_crossing : (v : RingView) (w : ℕ) → crossings_given shape v a w ≡ []
    unfolding crossings_given
    gives_no_crossing v w = search (rules, filter_nothing, not, gives_crossing, no_gives_crossing, and_false, due_crossings)

    -- and nothing is known of the ring that wasn't
    pub nothing_changed : (v : RingView) (w : ℕ) → changed shape v (Writes a w) ≡ v
    nothing_changed v w = search (rules, gives, no_gives, or_false, gives_crossing, no_gives_crossing)
