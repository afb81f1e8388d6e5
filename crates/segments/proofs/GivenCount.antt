-- How much of a ring is given: the number below which all steps are given, and the first that isn't
use Rattle.segments.proofs.Words.{rules, Some, None, unwrap_or, ceiling, ◌≡◌, ◌+◌, ◌<◌, ◌≤◌, ℕ, suc, zero, true, false, arith, refl, ap, cases_Bool, cases_lt, cases_eq, cases_order, false≢true, Shape, place_count, RingView, floor_number, is_step_given, first_not_given, given_count}

-- ---- the first step that isn't given, of n from q on

first_high : (shape : Shape) (v : RingView) (n q : ℕ) → first_not_given shape v n q ≤ q + n
unfolding first_not_given
first_high shape v zero q = omega arith
first_high shape v (suc n) q = search (rules, cases_Bool (is_step_given shape v q), first_high shape v n (q + 1))

first_below : (shape : Shape) (v : RingView) (n q p : ℕ) → q ≤ p → p < first_not_given shape v n q → is_step_given shape v p ≡ true
unfolding first_not_given
first_below shape v zero q p low high = absurd (omega arith)
first_below shape v (suc n) q p low high = search (rules, cases_Bool (is_step_given shape v q), cases_eq q p, first_below shape v n (q + 1) p)

first_stops : (shape : Shape) (v : RingView) (n q : ℕ) → first_not_given shape v n q < q + n → is_step_given shape v (first_not_given shape v n q) ≡ false
unfolding first_not_given
first_stops shape v zero q h = absurd (omega arith)
first_stops shape v (suc n) q h = search (rules, cases_Bool (is_step_given shape v q), first_stops shape v n (q + 1))

-- two views in which the same steps are given
first_same : (shape : Shape) (v w : RingView) (n q : ℕ) → ((p : ℕ) → is_step_given shape v p ≡ is_step_given shape w p) →
    first_not_given shape v n q ≡ first_not_given shape w n q
unfolding first_not_given
first_same shape v w zero q same = refl
first_same shape v w (suc n) q same = search (rules, cases_Bool (is_step_given shape v q), same q, first_same shape v w n (q + 1) same)

-- ---- the count

count_is : (shape : Shape) (v : RingView) → given_count shape v ≡ first_not_given shape v (floor_number v + place_count shape) 0
unfolding given_count
count_is shape v = refl

-- everything below it is given
pub given_below : (shape : Shape) (v : RingView) (p : ℕ) → p < given_count shape v → is_step_given shape v p ≡ true
given_below shape v p h = first_below shape v (floor_number v + place_count shape) 0 p (omega arith) (omega (arith, count_is shape v))

-- it is at most a lap ahead of the floor
pub given_count_most : (shape : Shape) (v : RingView) → given_count shape v ≤ floor_number v + place_count shape
given_count_most shape v = omega (arith, count_is shape v, first_high shape v (floor_number v + place_count shape) 0)

-- and at it something isn't given
pub given_count_stops : (shape : Shape) (v : RingView) → given_count shape v < floor_number v + place_count shape → is_step_given shape v (given_count shape v) ≡ false
given_count_stops shape v h = search (rules, is_step_given, count_is, first_stops, floor_number, place_count)

-- it isn't below a number below which all is given
pub given_count_least : (shape : Shape) (v : RingView) (m : ℕ) → m ≤ floor_number v + place_count shape → ((p : ℕ) → p < m → is_step_given shape v p ≡ true) →
    m ≤ given_count shape v
given_count_least shape v m near given = search (rules, cases_lt (given_count shape v) m, given_count_stops shape v, given (given_count shape v), false≢true)

-- with the floor's number and the steps that are given it stays
pub given_count_same : (shape : Shape) (v w : RingView) → floor_number v ≡ floor_number w → ((p : ℕ) → is_step_given shape v p ≡ is_step_given shape w p) →
    given_count shape v ≡ given_count shape w
given_count_same shape v w floor same = search (rules, count_is, first_same, floor_number, place_count, first_not_given)

-- where the floor moves on too, so long as neither count is a lap ahead
pub given_count_still : (shape : Shape) (v w : RingView) → ((p : ℕ) → is_step_given shape v p ≡ is_step_given shape w p) →
    given_count shape v < floor_number v + place_count shape → given_count shape w < floor_number w + place_count shape → given_count shape v ≡ given_count shape w
given_count_still shape v w same near far =
    search (rules, cases_order (given_count shape v) (given_count shape w), given_count_stops shape v near, given_count_stops shape w far, given_below shape v (given_count shape w), given_below shape w (given_count shape v), same (given_count shape v), same (given_count shape w), false≢true)

-- with more given it grows
pub given_count_grows : (shape : Shape) (v w : RingView) → floor_number v ≤ floor_number w → ((p : ℕ) → is_step_given shape v p ≡ true → is_step_given shape w p ≡ true) →
    given_count shape v ≤ given_count shape w
given_count_grows shape v w floor more = search (rules, given_count_least, given_count, given_count_most, given_below)

-- ---- how far the controller may have gone

pub ceiling_held : (shape : Shape) (v : RingView) (m : ℕ) → v.held ≡ Some m → ceiling shape v ≡ m
unfolding ceiling
ceiling_held shape v m at = ap (λ o. unwrap_or o (given_count shape v)) at

pub ceiling_open : (shape : Shape) (v : RingView) → v.held ≡ None → ceiling shape v ≡ given_count shape v
unfolding ceiling
ceiling_open shape v at = ap (λ o. unwrap_or o (given_count shape v)) at
