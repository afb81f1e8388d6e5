-- A ring on which nothing happened stands still at its first block with cycle state 1, and nowhere else
use Rattle.segments.proofs.Words.{rules, ◌≡◌, ◌==◌, ◌&&◌, ◌∷◌, ℕ, Bool, true, List, [], Some, refl, Data, Shape, number, address_of, cycle_of, IsShape, RingView, floor_number, given_count, ceiling, is_border, is_target, spots_between, are_given, are_ways_given, is_reached, may_move_to, is_move, is_placement, unwrap_or}
use Rattle.segments.proofs.Positions.{place_count_pos, cycle_of-first}

border_first : (lengths : List ℕ) → is_border lengths 0 0 ≡ true
unfolding is_border
border_first [] = refl
border_first (n ∷ rest) = refl

module _ (shape : Shape) (is : IsShape shape) (unmoved : shape.offset ≡ 0) (v : RingView) (p : ℕ) (cycle : Bool) where
  first_move : is_move shape v p cycle 0 0 ≡ (address_of shape 0 == p && cycle)
  unfolding is_move spots_between is_target may_move_to is_reached are_given are_ways_given
  first_move = search (rules, place_count_pos, address_of, is_border, cycle_of, cycle_of-first, border_first)

  pub placement_new : v.floor ≡ Data 0 → v.held ≡ Some 0 → is_placement shape v p cycle ≡ (address_of shape 0 == p && cycle)
  unfolding is_placement ceiling
  placement_new floor held = search (rules, is_move, unwrap_or, given_count, floor_number, number, first_move)
