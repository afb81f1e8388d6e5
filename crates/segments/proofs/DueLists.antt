-- Which numbers stand in the lists of due, given and leased positions and crossings
use Rattle.segments.proofs.Words.{rules, is_handed_over, IsShownTo, IsRestored, unrestored, flips_passed, ceiling, address_of, cycle_of, nat_lt, ◌==◌, ◌%◌, list_any, list_any_at, false_from_ne_true, false≢true, ◌≡◌, ◌+◌, ◌-◌, ◌<◌, ◌≤◌, ◌&&◌, ◌∷◌, ◌∙◌, ℕ, not, Bool, true, false, List, [], length, Contains, filter, suc, zero, arith, refl, sym, get_or, range_with_len, cases_Bool, and_parts, and_from, not-true, not_from_false, cond-true, cond-false, All-contains, All-filter, All-contains_itself, filter_passes, Contains-append_right, length-range_with_len, get_or-range_with_len, Shape, place_count, is_crossing, RingView, floor_number, is_due, is_crossing_due, gives, gives_crossing, due_positions, due_crossings, positions_given, crossings_given, leased_positions, leased_crossings}
use Rattle.segments.proofs.Giving.{due_is, due_from, crossing_due_is, gives_is, gives_crossing_is}

-- ---- a range, and a filter

pub range_contains : (a n x : ℕ) → a ≤ x → x < a + n → Contains (range_with_len a n) x
range_contains a n x low high =
    (x - a, omega (arith, length-range_with_len a n), get_or-range_with_len a n (x - a) x (omega arith) ∙ omega arith)

pub range_contained : (a n x : ℕ) → Contains (range_with_len a n) x → (a ≤ x) × (x < a + n)
range_contained a n x c = search (rules, length-range_with_len, get_or-range_with_len)

cons_contains : (y : ℕ) (ys : List ℕ) (x : ℕ) → Contains ys x → Contains (y ∷ ys) x
cons_contains y ys x c = Contains-append_right (y ∷ []) ys x c

pub filter_contains : (test : ℕ → Bool) (xs : List ℕ) (x : ℕ) → Contains xs x → test x ≡ true → Contains (filter test xs) x
filter_contains test xs x c passes = from_place test xs c.0 x c.1 c.2 passes
  where
    from_place : (test : ℕ → Bool) (xs : List ℕ) (k x : ℕ) → k < length xs → get_or xs k x ≡ x → test x ≡ true → Contains (filter test xs) x
    from_place test [] k x h at passes = absurd (omega arith)
    from_place test (y ∷ ys) zero x h at passes = search (rules, filter, cond-true, Contains)
    from_place test (y ∷ ys) (suc k) x h at passes =
        search (rules, filter, cases_Bool (test y), cons_contains y (filter test ys) x (from_place test ys k x (omega arith) at passes), from_place test ys k x (omega arith) at passes)

pub filter_contained : (test : ℕ → Bool) (xs : List ℕ) (x : ℕ) → Contains (filter test xs) x → Contains xs x × (test x ≡ true)
filter_contained test xs x c =
    (All-contains (Contains xs) _ x (All-filter test (Contains xs) xs (All-contains_itself xs)) c, All-contains (λ y. test y ≡ true) _ x (filter_passes test xs) c)

-- ---- positions

pub due_position : (shape : Shape) (v : RingView) (p : ℕ) → is_due shape v.floor p ≡ true → Contains (due_positions shape v) p
unfolding due_positions
due_position shape v p due = search (rules, due_is, range_contains, floor_number, place_count)

pub due_position_is : (shape : Shape) (v : RingView) (p : ℕ) → Contains (due_positions shape v) p → is_due shape v.floor p ≡ true
unfolding due_positions
due_position_is shape v p c = search (rules, range_contained (floor_number v) (place_count shape) p c, due_from)

pub leased_position : (shape : Shape) (v : RingView) (p : ℕ) → is_due shape v.floor p ≡ true → v.given p ≡ true → v.free p ≡ false → Contains (leased_positions shape v) p
unfolding leased_positions
leased_position shape v p due given kept = search (rules, filter_contains, due_position, and_from, not_from_false)

pub leased_position_is : (shape : Shape) (v : RingView) (p : ℕ) → Contains (leased_positions shape v) p → (is_due shape v.floor p ≡ true) × (v.given p ≡ true)
unfolding leased_positions
leased_position_is shape v p c = search (rules, filter_contained, due_position_is, and_parts, filter_contained (is_handed_over v) (due_positions shape v) p c)

-- what is free and due isn't restored
pub unrestored_position : (shape : Shape) (v : RingView) (p : ℕ) → is_due shape v.floor p ≡ true → v.free p ≡ true → Contains (unrestored shape v) p
unfolding unrestored
unrestored_position shape v p due free = filter_contains v.free (due_positions shape v) p (due_position shape v p due) free

-- nor is anything free below a number then
pub shown_where_restored : (shape : Shape) (v : RingView) → IsRestored v → (n : ℕ) → IsShownTo shape v n
shown_where_restored shape v none n p free below = absurd (false≢true (sym (none p) ∙ free))

-- where nothing is free, no write flips a Cycle bit that was passed
pub no_flips : (shape : Shape) (v : RingView) (a w : ℕ) → IsRestored v → flips_passed shape v a w ≡ false
unfolding flips_passed unrestored
no_flips shape v a w none = by (due_positions shape v)
  where
    by : (xs : List ℕ) → list_any (λ p. nat_lt p (ceiling shape v) && a == address_of shape p + 12 && not (w % 2 == cycle_of shape p)) (filter v.free xs) ≡ false
    by [] = refl
    by (x ∷ xs) = search (rules, list_any, nat_lt, ceiling, address_of, not, cycle_of, cond-false, filter, by xs)

-- a test that no element of a list passes fails for each
pub none_passes_at : (test : ℕ → Bool) (xs : List ℕ) (x : ℕ) → list_any test xs ≡ false → Contains xs x → test x ≡ false
none_passes_at test xs x none at = search (rules, false_from_ne_true, false≢true, list_any_at)

pub position_given : (shape : Shape) (v : RingView) (a w p : ℕ) → v.given p ≡ false → gives shape v.floor p a w ≡ true → Contains (positions_given shape v a w) p
unfolding positions_given
position_given shape v a w p wasn't now = search (rules, filter_contains, not, gives, due_positions, due_position, gives_is, and_from, not_from_false)

pub position_given_is : (shape : Shape) (v : RingView) (a w p : ℕ) → Contains (positions_given shape v a w) p → (v.given p ≡ false) × (gives shape v.floor p a w ≡ true)
unfolding positions_given
position_given_is shape v a w p c = search (rules, filter_contained, and_parts, not-true, filter_contained (λ p. not (v.given p) && gives shape v.floor p a w) (due_positions shape v) p c)

-- ---- crossings

due_crossing : (shape : Shape) (v : RingView) (q : ℕ) → is_crossing_due shape v.floor q ≡ true → Contains (due_crossings shape v) q
unfolding due_crossings
due_crossing shape v q due = search (rules, crossing_due_is, range_contains, floor_number, place_count)

pub leased_crossing : (shape : Shape) (v : RingView) (q : ℕ) → is_crossing_due shape v.floor q ≡ true → v.crossed q ≡ true → Contains (leased_crossings shape v) q
unfolding leased_crossings
leased_crossing shape v q due given = search (rules, filter_contains, is_crossing, due_crossings, due_crossing, and_from, crossing_due_is)

pub leased_crossing_is : (shape : Shape) (v : RingView) (q : ℕ) → Contains (leased_crossings shape v) q → (is_crossing shape q ≡ true) × (v.crossed q ≡ true) × (floor_number v ≤ q)
unfolding leased_crossings due_crossings
leased_crossing_is shape v q c =
    search (rules, filter_contained (λ q. is_crossing shape q && v.crossed q) (due_crossings shape v) q c, and_parts, range_contained (floor_number v) (place_count shape + 1) q)

pub crossing_given : (shape : Shape) (v : RingView) (a w q : ℕ) → v.crossed q ≡ false → gives_crossing shape v.floor q a w ≡ true → Contains (crossings_given shape v a w) q
unfolding crossings_given
crossing_given shape v a w q wasn't now = grind (arith, filter_contains, due_crossing, gives_crossing_is, and_from, not_from_false)

pub crossing_given_is : (shape : Shape) (v : RingView) (a w q : ℕ) → Contains (crossings_given shape v a w) q → (v.crossed q ≡ false) × (gives_crossing shape v.floor q a w ≡ true)
unfolding crossings_given
crossing_given_is shape v a w q c = search (rules, filter_contained, and_parts, not-true, filter_contained (λ q. not (v.crossed q) && gives_crossing shape v.floor q a w) (due_crossings shape v) q c)
