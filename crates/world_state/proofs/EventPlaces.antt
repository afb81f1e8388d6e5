-- Which addresses are event positions
use Rattle.world_state.proofs.Words.{position_from-place, or_from, Data, place_at-Data, place_at-data, place_aligned, position_from, is_event_place, list_any, list_any_at, Shape, IsShape, data_places, place_count, place_of, place_at, ◌≡◌, ◌≢◌, ◌+◌, ◌/◌, ◌%◌, ◌<◌, ◌≤◌, ◌==◌, ◌∙◌, ◌∷◌, ℕ, suc, true, false, Bool, List, [], Some, get_or, slice_index, length, ap, sym, refl, arith, eq-eqb, ne_eqb}

none_passes : (test : ℕ → Bool) (xs : List ℕ) → ((k : ℕ) → k < length xs → test (get_or xs k 0) ≡ false) → list_any test xs ≡ false
none_passes test [] fails = refl
none_passes test (x ∷ xs) fails = or_from (test x) (list_any test xs) (fails 0 (omega arith)) (none_passes test xs (λ k h. fails (suc k) (omega arith)))

-- an address of a data place
module _ (shape : Shape) (is : IsShape shape) (a i word : ℕ) (aligned : a % 16 ≡ 0) (there : place_at shape a ≡ Some (Data i word)) where
  place_is : (i < place_count shape) × (a ≡ slice_index (data_places shape) i)
  place_is = grind (arith, place_at-Data, place_aligned)

  pub is_place : is_event_place shape a ≡ true
  is_place = list_any_at (λ x. x == a) (data_places shape) i 0 place_is.0 (eq-eqb (get_or (data_places shape) i 0) a (sym place_is.1))

  -- less than a lap from p on one position lies there
  pub position_is : (p q : ℕ) → p ≤ q → q < p + place_count shape → place_of shape q ≡ i → position_from shape p a ≡ q
  position_is p q low near at =
      ap (λ x. position_from shape p x) (place_is.1 ∙ ap (λ j. slice_index (data_places shape) j) (sym at)) ∙ position_from-place shape is p q low near

-- no data place
pub no_place : (shape : Shape) → IsShape shape → (a : ℕ) → ((i : ℕ) → place_at shape a ≢ Some (Data i 0)) → is_event_place shape a ≡ false
no_place shape is a none =
    none_passes (λ x. x == a) (data_places shape) (λ k h. ne_eqb (get_or (data_places shape) k 0) a (λ same.
    let aligned : get_or (data_places shape) k 0 % 16 ≡ 0 = place_aligned shape is k h in
    let word : a % 16 / 4 ≡ 0 = omega (arith, aligned, same) in
    none k (place_at-data shape is k a h (omega (arith, aligned, same)) (omega (arith, same)) (omega (arith, same)) ∙ ap (λ w. Some (Data k w)) word)))
