-- What it says that a position or a crossing is due, and that a write gives it
use Rattle.segments.proofs.Words.{◌≡◌, ◌+◌, ◌-◌, ◌%◌, ◌<◌, ◌≤◌, ◌⊎◌, ℕ, true, leb-true, le-leb, ltb-true, lt-ltb, eqb-true, eq-eqb, rules, and_parts, and_from, or_cases, or_left, or_right, Spot, Shape, place_count, address_of, cycle_of, is_crossing, link_address, number, is_due, is_crossing_due, gives, gives_crossing}

pub due_is : (shape : Shape) (floor : Spot) (p : ℕ) → is_due shape floor p ≡ true → (number floor ≤ p) × (p < number floor + place_count shape)
due_is shape floor p h = search (rules, and_parts, leb-true, ltb-true)

pub due_from : (shape : Shape) (floor : Spot) (p : ℕ) → number floor ≤ p → p < number floor + place_count shape → is_due shape floor p ≡ true
due_from shape floor p from within = search (rules, and_from, le-leb)

pub record Gives (shape : Shape) (floor : Spot) (p address word : ℕ) : Type 0 where
  pub due : is_due shape floor p ≡ true
  pub from : number floor ≤ p
  pub within : p < number floor + place_count shape
  pub at : address ≡ address_of shape p + 12
  pub cycle : word % 2 ≡ cycle_of shape p

pub gives_is : (shape : Shape) (floor : Spot) (p address word : ℕ) → gives shape floor p address word ≡ true → Gives shape floor p address word
gives_is shape floor p address word h = search (rules, and_parts, due_is, eqb-true)

pub gives_from : (shape : Shape) (floor : Spot) (p word : ℕ) → is_due shape floor p ≡ true → word % 2 ≡ cycle_of shape p →
    gives shape floor p (address_of shape p + 12) word ≡ true
gives_from shape floor p word due same = search (rules, and_from, eq-eqb)

-- crossing q is due at its Link
pub record IsCrossingDue (shape : Shape) (floor : Spot) (q : ℕ) : Type 0 where
  pub crossing : is_crossing shape q ≡ true
  pub from : number floor ≤ q
  pub within : (q < number floor + place_count shape) ⊎ ((q ≡ place_count shape) × (number floor ≡ 0))

pub crossing_due_is : (shape : Shape) (floor : Spot) (q : ℕ) → is_crossing_due shape floor q ≡ true → IsCrossingDue shape floor q
crossing_due_is shape floor q h = search (rules, and_parts, leb-true, or_cases, ltb-true, eqb-true)

pub crossing_due_from : (shape : Shape) (floor : Spot) (q : ℕ) → IsCrossingDue shape floor q → is_crossing_due shape floor q ≡ true
crossing_due_from shape floor q due = search (rules, and_from, le-leb, or_left, lt-ltb, or_right, eq-eqb)

pub record GivesCrossing (shape : Shape) (floor : Spot) (q address word : ℕ) : Type 0 where
  pub is_due : is_crossing_due shape floor q ≡ true
  pub due : IsCrossingDue shape floor q
  pub at : address ≡ link_address shape q + 12
  pub cycle : word % 2 ≡ cycle_of shape (q - 1)

pub gives_crossing_is : (shape : Shape) (floor : Spot) (q address word : ℕ) → gives_crossing shape floor q address word ≡ true → GivesCrossing shape floor q address word
gives_crossing_is shape floor q address word h = search (rules, and_parts, crossing_due_is, eqb-true)

pub gives_crossing_from : (shape : Shape) (floor : Spot) (q word : ℕ) → is_crossing_due shape floor q ≡ true → word % 2 ≡ cycle_of shape (q - 1) →
    gives_crossing shape floor q (link_address shape q + 12) word ≡ true
gives_crossing_from shape floor q word due same = search (rules, and_from, eq-eqb)
