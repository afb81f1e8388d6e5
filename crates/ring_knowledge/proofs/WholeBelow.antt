-- Where whole descriptors end, and which positions a record hasn't forgotten
use Rattle.ring_knowledge.proofs.MiddleLaws.{rules, ◌≡◌, ◌+◌, ◌-◌, ◌<◌, ◌≤◌, ◌∷◌, ◌==◌, ℕ, List, [], true, arith, length, sum, min, inl, inr, eq-eqb, ne_eqb, eqb-true, cases_eq, cases_lt, or_cases, Shape, RingView, descriptor_length, is_border, length_from, floor_number, RingRecord, AreWholeBelow, FollowsMarks, IsNotPassed, sum-cons}

-- none begins before the first
pub begins_from : (ls : List ℕ) (start p : ℕ) → 0 < length_from ls start p → start ≤ p
unfolding length_from
begins_from [] start p some = absurd (omega arith)
begins_from (n ∷ rest) start p some = search (rules, cases_eq, ne_eqb, length_from, begins_from rest (start + n) p)

-- a descriptor that begins has its blocks among the declared ones
pub ends_within : (ls : List ℕ) (start p : ℕ) → 0 < length_from ls start p → p + length_from ls start p ≤ start + sum ls
unfolding length_from
ends_within [] start p some = absurd (omega arith)
ends_within (n ∷ rest) start p some = search (rules, sum-cons, cases_eq, eq-eqb, ne_eqb, length_from, ends_within rest (start + n) p)

-- no border stands before the first
border_from : (ls : List ℕ) (start q : ℕ) → is_border ls start q ≡ true → start ≤ q
unfolding is_border
border_from [] start q border = omega (arith, eqb-true start q border)
border_from (n ∷ rest) start q border = elim (or_cases (start == q) (is_border rest (start + n) q) border) [
  | inl here ↦ omega (arith, eqb-true start q here)
  | inr later ↦ omega (arith, border_from rest (start + n) q later)
]

-- a descriptor that begins before a border ends there at the latest
pub ends_at_border : (ls : List ℕ) (start p q : ℕ) → p < q → is_border ls start q ≡ true → p + length_from ls start p ≤ q
unfolding is_border length_from
ends_at_border [] start p q before border = omega arith
ends_at_border (n ∷ rest) start p q before border = elim (cases_eq start p) [
  | inl here ↦ elim (or_cases (start == q) (is_border rest (start + n) q) border) [
    | inl same ↦ absurd (omega (arith, eqb-true start q same, here, before))
    | inr later ↦ rw (eq-eqb start p here) (omega (arith, border_from rest (start + n) q later, here))
  ]
  | inr other ↦ rw (ne_eqb start p other) (elim (or_cases (start == q) (is_border rest (start + n) q) border) [
    | inl same ↦ elim (cases_lt 0 (length_from rest (start + n) p)) [
      | inl some ↦ absurd (omega (arith, eqb-true start q same, begins_from rest (start + n) p some, before))
      | inr none ↦ omega (arith, none, before)
    ]
    | inr later ↦ ends_at_border rest (start + n) p q before later
  ])
]

module _ (shape : Shape) (v : RingView) (r : RingRecord) (follows : FollowsMarks shape v r) where
  -- all that is declared is whole
  all_whole : (p : ℕ) → p < length v.queue → p + length_from v.lengths 0 p ≤ length v.queue
  all_whole p low = elim (cases_lt 0 (length_from v.lengths 0 p)) [
    | inl some ↦ omega (arith, ends_within v.lengths 0 p some, follows.whole)
    | inr none ↦ omega (arith, none, low)
  ]

  -- where so many more are forgotten, up to a number below which all is whole
  pub forgotten_now : (end n : ℕ) → AreWholeBelow v end → n ≡ min (end - r.forgotten) (length r.blocks.items) → AreWholeBelow v (r.forgotten + n)
  forgotten_now end n whole many p low = elim (cases_lt r.forgotten end) [
    | inr early ↦ omega (arith, follows.forgotten_whole p (omega (arith, low, many, early)), many, early)
    | inl later ↦ elim (cases_lt (length v.queue) end) [
      | inl beyond ↦ omega (arith, all_whole p (omega (arith, low, many, beyond, later, follows.count)), many, beyond, later, follows.count)
      | inr within ↦ omega (arith, whole p (omega (arith, low, many, within, later, follows.count)), many, within, later, follows.count)
    ]
  ]

module _ (shape : Shape) (v : RingView) (r : RingRecord) (follows : FollowsMarks shape v r) (p : ℕ) where
  -- the descriptor is no longer than what is forgotten where it begins there
  pub passed_with_forgotten : p < r.forgotten → p + descriptor_length v p ≤ floor_number v
  unfolding descriptor_length
  passed_with_forgotten low = omega (arith, follows.forgotten_whole p low, follows.passed)

  -- what the floor hasn't passed whole isn't forgotten
  pub kept_from : IsNotPassed v p → r.forgotten ≤ p
  kept_from ahead = elim (cases_lt p r.forgotten) [
    | inl low ↦ absurd (omega (arith, ahead, passed_with_forgotten low, follows.passed))
    | inr from ↦ from
  ]
