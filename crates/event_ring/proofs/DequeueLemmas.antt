-- Which event position a written ERDP names: the least one at its place
use Rattle.event_ring.proofs.Words.{◌≡◌, ◌≢◌, ◌+◌, ◌-◌, ◌*◌, ◌/◌, ◌%◌, ◌<◌, ◌≤◌, ◌==◌, ◌∷◌, ◌∙◌, ℕ, suc, Bool, true, false, List, [], length, slice_index, nat_lt, nat_le, Some, None, find, unwrap_or, slice_get, arith, sym, ap, refl, inl, inr, get_or, ne_eqb, le-leb, lt-ltb, eq-eqb, list_any, range_with_len, position_or_len, cases_lt, and_from, and_right, or_from, lt-leb, get_or-range_with_len, length-range_with_len, list_any_at, find_at, position_or_len_is, slice_get-get_or, none-some, Shape, data_places, place_count, place_of, address_of, place_at, Data, IsShape, place_at-Data, place_at-address_of, address_aligned, place_count_pos, same_position, EventState, may_dequeue, dequeued_at, erdp_address, position_from, is_reached_within}

-- the number k places on in a range
in_range : (p n k : ℕ) → k < n → get_or (range_with_len p n) k 0 ≡ p + k
in_range p n k h = get_or-range_with_len p n k 0 h

none_passes : {X : Type 0} (p : X → Bool) (xs : List X) (d : X) → ((k : ℕ) → k < length xs → p (get_or xs k d) ≡ false) → list_any p xs ≡ false
none_passes p [] d fails = refl
none_passes p (x ∷ xs) d fails = or_from (p x) (list_any p xs) (fails 0 (omega arith)) (none_passes p xs d (λ k h. fails (suc k) (omega arith)))

first_passes : {X : Type 0} (p : X → Bool) (xs : List X) (i : ℕ) (d : X) → i < length xs → p (get_or xs i d) ≡ true →
    ((k : ℕ) → k < i → p (get_or xs k d) ≡ false) → find p xs ≡ Some (get_or xs i d)
first_passes p xs i d h passes fails =
    let at : position_or_len p xs ≡ i = position_or_len_is p xs i d (omega arith) fails (λ _. passes) in
    find_at p xs ∙ ap (λ n. slice_get xs n) at ∙ slice_get-get_or xs i d h

-- a position less than a lap from p on
module _ (shape : Shape) (is : IsShape shape) (p q : ℕ) (low : p ≤ q) (near : q < p + place_count shape) where
  abbrev here : ℕ → Bool
  here r = address_of shape r == address_of shape q

  -- no earlier one lies where it does
  none_before : (n k : ℕ) → k < n → p + k < q → here (get_or (range_with_len p n) k 0) ≡ false
  none_before n k l below =
      ap here (in_range p n k l) ∙ ne_eqb (address_of shape (p + k)) (address_of shape q) (λ same.
      let one : p + k ≡ q = same_position shape is (p + k) q (omega arith) (omega arith) same in
      omega arith)

  one_there : (n : ℕ) → q < p + n → here (get_or (range_with_len p n) (q - p) 0) ≡ true
  one_there n l =
      let at : p + (q - p) ≡ q = omega arith in
      ap here (in_range p n (q - p) (omega arith) ∙ at) ∙ eq-eqb (address_of shape q) (address_of shape q) refl

  -- its place is reached exactly where it is no further ahead than allowed
  pub is_reached_within-place : (more : ℕ) → is_reached_within shape p more (address_of shape q) ≡ nat_le q (p + more)
  is_reached_within-place more =
      elim (cases_lt (p + more) q) [
        | inr reached ↦
            let found = list_any_at here (range_with_len p (more + 1)) (q - p) 0 (omega (arith, length-range_with_len p (more + 1))) (one_there (more + 1) (omega arith)) in
            and_from (nat_lt 0 (place_count shape)) _ (lt-ltb 0 (place_count shape) (place_count_pos shape is)) found ∙ sym (le-leb q (p + more) reached)
        | inl far ↦
            and_right (nat_lt 0 (place_count shape)) _
            (none_passes here (range_with_len p (more + 1)) 0
            (λ k l. none_before (more + 1) k (omega (arith, length-range_with_len p (more + 1))) (omega (arith, length-range_with_len p (more + 1)))))
            ∙ sym (lt-leb q (p + more) far)
      ]

  -- and it is the one that ERDP then names
  pub position_from-place : position_from shape p (address_of shape q) ≡ q
  position_from-place =
      let found = first_passes here (range_with_len p (place_count shape)) (q - p) 0 (omega (arith, length-range_with_len p (place_count shape))) (one_there (place_count shape) near)
      (λ k l. none_before (place_count shape) k (omega arith) (omega arith)) in
      let at : p + (q - p) ≡ q = omega arith in
      ap (λ o. unwrap_or o p) found ∙ in_range p (place_count shape) (q - p) (omega arith) ∙ at

-- an address of no data place is reached by no position
is_reached_within-none : (shape : Shape) (p more address : ℕ) → ((q : ℕ) → address_of shape q ≢ address) → is_reached_within shape p more address ≡ false
is_reached_within-none shape p more address none =
    and_right (nat_lt 0 (place_count shape)) _
    (none_passes (λ q. address_of shape q == address) (range_with_len p (more + 1)) 0 (λ k l. ne_eqb _ address (none (get_or (range_with_len p (more + 1)) k 0))))

-- ---- by the word with the address

on_boundary : (a v w : ℕ) → a % 16 ≡ 0 → w < 4 → v / 16 * 16 ≡ a + 4 * w → v / 16 * 16 ≡ a
on_boundary a v w h l e = omega arith

erdp_place : (shape : Shape) → IsShape shape → (value i w q : ℕ) → place_at shape (erdp_address value) ≡ Some (Data i w) → place_of shape q ≡ i →
    erdp_address value ≡ address_of shape q
erdp_place shape is value i w q h there =
    let word = place_at-Data shape is (erdp_address value) i w h in
    on_boundary (address_of shape q) value w (address_aligned shape is q) word.1 (word.2 ∙ ap (λ j. slice_index (data_places shape) j + 4 * w) (sym there))

erdp_nowhere : (shape : Shape) → IsShape shape → (value p more : ℕ) → ((i w : ℕ) → place_at shape (erdp_address value) ≢ Some (Data i w)) →
    is_reached_within shape p more (erdp_address value) ≡ false
erdp_nowhere shape is value p more none =
    is_reached_within-none shape p more (erdp_address value) (λ q same.
    none (place_of shape q) 0 (ap (λ a. place_at shape a) (sym same ∙ plus_none (address_of shape q)) ∙ place_at-address_of shape is q 0 (omega arith)))
  where
    plus_none : (a : ℕ) → a ≡ a + 4 * 0
    plus_none a = omega arith

-- ERDP names a data place, whose next position is so far ahead
module _ (s : EventState) (is : IsShape s.shape) (value i w ahead : ℕ) (place : place_at s.shape (erdp_address value) ≡ Some (Data i w)) (near : ahead < place_count s.shape)
    (there : place_of s.shape (s.counts.dequeue + ahead) ≡ i) where
  -- it may, where that is one up to the one that is read next
  pub may_dequeue-place : may_dequeue s value ≡ nat_le (s.counts.dequeue + ahead) (s.counts.dequeue + (s.counts.reads - s.counts.dequeue))
  may_dequeue-place =
      ap (λ a. is_reached_within s.shape s.counts.dequeue (s.counts.reads - s.counts.dequeue) a) (erdp_place s.shape is value i w (s.counts.dequeue + ahead) place there)
      ∙ is_reached_within-place s.shape is s.counts.dequeue (s.counts.dequeue + ahead) (omega arith) (omega arith) (s.counts.reads - s.counts.dequeue)

  pub dequeued_at-place : dequeued_at s value ≡ s.counts.dequeue + ahead
  dequeued_at-place =
      ap (λ a. position_from s.shape s.counts.dequeue a) (erdp_place s.shape is value i w (s.counts.dequeue + ahead) place there)
      ∙ position_from-place s.shape is s.counts.dequeue (s.counts.dequeue + ahead) (omega arith) (omega arith)

-- ERDP names no data place
pub may_dequeue-none : (s : EventState) → IsShape s.shape → (value : ℕ) → place_at s.shape (erdp_address value) ≡ None → may_dequeue s value ≡ false
may_dequeue-none s is value none =
    erdp_nowhere s.shape is value s.counts.dequeue (s.counts.reads - s.counts.dequeue) (λ i w some. none-some (Data i w) (sym none ∙ some))
