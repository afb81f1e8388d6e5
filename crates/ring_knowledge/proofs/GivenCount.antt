-- How many positions are given without a gap
use Rattle.ring_knowledge.proofs.MiddleLaws.{◌≡◌, ◌+◌, ◌<◌, ◌≤◌, ℕ, suc, zero, true, false, refl, sym, arith, cases_lt, cases_eq, false≢true, Shape, place_count, RingView, Writes, changed, new_ring, floor_number, is_step_given, is_way_given, first_not_given, given_count, RingRecord, FollowsMarks, FollowsRing, rules, noted_past, step_not_given, place_of}

-- the steps up to g are given, and that to g isn't
counted : (shape : Shape) (v : RingView) (n q g : ℕ) → q ≤ g → g ≤ q + n → ((r : ℕ) → q ≤ r → r < g → is_step_given shape v r ≡ true) → is_step_given shape v g ≡ false →
    first_not_given shape v n q ≡ g
unfolding first_not_given
counted shape v zero q g low high steps stop = omega arith
counted shape v (suc n) q g low high steps stop = search (rules, cases_eq, first_not_given, is_step_given, counted shape v n (q + 1) g)

-- no step is given that is a lap from the floor
pub past_not_given : (shape : Shape) (v : RingView) (r : RingRecord) → FollowsMarks shape v r → (q : ℕ) → floor_number v + place_count shape ≤ q → is_step_given shape v q ≡ false
past_not_given shape v r follows q past =
    sym (step_not_given shape v r follows q (noted_past (floor_number v) (place_count shape) r.given.items (place_of shape q) q past))

pub count_is : (shape : Shape) (v : RingView) (r : RingRecord) → FollowsRing shape v r → r.count ≡ given_count shape v
unfolding given_count
count_is shape v r known = grind (arith, cases_lt, false≢true, past_not_given, counted)

-- at first none is
pub new_stop : (shape : Shape) → is_step_given shape new_ring 0 ≡ false
unfolding is_step_given
new_stop shape = refl

-- what is given stays given at a write
pub written_step : (shape : Shape) (v : RingView) (a w q : ℕ) → is_step_given shape v q ≡ true → is_step_given shape (changed shape v (Writes a w)) q ≡ true
unfolding is_step_given is_way_given
written_step shape v a w q given = search (rules, false≢true)

-- a counted record, from its marks and the steps that were counted before
pub counts_on : (shape : Shape) (v : RingView) (r : RingRecord) → FollowsMarks shape v r → (before : ℕ) → ((q : ℕ) → q < before → is_step_given shape v q ≡ true) →
    ((q : ℕ) → before ≤ q → q < r.count → is_step_given shape v q ≡ true) → is_step_given shape v r.count ≡ false → FollowsRing shape v r
counts_on shape v r marks before counted_ more stop = search (rules, cases_lt)
