-- What is given of a ring ends with a descriptor
use Rattle.segments.proofs.UpperLaws.{◌≡◌, ◌+◌, ◌<◌, ◌≤◌, ◌⊎◌, ◌∷◌, ℕ, true, List, [], All, sum, arith, refl, inl, eq-eqb, ne_eqb, cases_eq, cases_lt, or_left, or_right, false≢true, All-head, All-tail, sum_by-cons, Shape, IsShape, RingView, given_count, is_border, length_from, descriptor_length, RingKeeps, given_below, given_count_stops, step_is, whole_is, given_count_near, given_count_declared, rules, ◌==◌, inr}

-- q is inside the descriptor that begins at p
pub record IsInside (lengths : List ℕ) (start p q : ℕ) : Type 0 where
  pub from : start ≤ p
  pub above : p < q
  pub below : q < p + length_from lengths start p

-- a number up to the sum is a border, or inside a descriptor
pub border_or_inside : (lengths : List ℕ) (start q : ℕ) → All (λ n. 0 < n) lengths → start ≤ q → q ≤ start + sum lengths →
    (is_border lengths start q ≡ true) ⊎ ((p : ℕ) × IsInside lengths start p q)
unfolding is_border length_from
border_or_inside [] start q some low high = inl (eq-eqb start q (omega arith))
border_or_inside (n ∷ rest) start q some low high = elim (cases_eq start q) [
  | inl here ↦ inl (or_left (start == q) (is_border rest (start + n) q) (eq-eqb start q here))
  | inr past ↦ elim (cases_lt q (start + n)) [
    | inl within ↦ inr (start, search (rules, eq-eqb start start refl, All-head (λ n. 0 < n) n rest some))
    | inr beyond ↦ elim (border_or_inside rest (start + n) q (All-tail (λ n. 0 < n) n rest some) beyond (omega (arith, sum_by-cons (λ x. x) n rest))) [
      | inl border ↦ inl (or_right (start == q) (is_border rest (start + n) q) border)
      | inr inside ↦ inr (inside.0, search (rules, inside, ne_eqb start inside.0, All-head (λ n. 0 < n) n rest some))
    ]
  ]
]

pub length_is : (v : RingView) (p : ℕ) → descriptor_length v p ≡ length_from v.lengths 0 p
unfolding descriptor_length
length_is v p = refl

-- a descriptor of which some is given is whole, so what is given ends with one
pub given_count_border : (shape : Shape) → IsShape shape → (memory : ℕ → ℕ) (v : RingView) → RingKeeps shape memory v → is_border v.lengths 0 (given_count shape v) ≡ true
given_count_border shape is memory v k =
    elim (border_or_inside v.lengths 0 (given_count shape v) k.lengths (omega arith) (omega (arith, k.descriptors, given_count_declared shape is memory v k))) [
      | inl border ↦ border
      | inr found ↦
          let inside : IsInside v.lengths 0 found.0 (given_count shape v) = found.1 in
          let given = (step_is shape v found.0 (given_below shape v found.0 inside.above)).0 in
          search (rules, k.whole found.0 given, whole_is shape v found.0, inside, length_is v found.0, given_count_stops shape v (given_count_near shape is memory v k), false≢true)
    ]
