-- What the rules keep of a ring stays where it is given up, and where it is held as far as its controller may have come
use Rattle.safety.proofs.Words.{◌≡◌, ◌+◌, ◌-◌, ◌<◌, ◌≤◌, ◌∙◌, ℕ, suc, zero, None, true, false, arith, refl, sym, ap, subst, inl, inr, cases_Bool, cases_eq, cases_lt, cond-true, cond-false, false≢true, none-some, Shape, number, crossing_positive, IsShape, RingView, given_count, ceiling, RingKeeps, MayReach, IsRestored, IsShownTo, behind_blocks, first_free, given_up, held_at_given, ceiling_within, ceiling_held, holds_keeps, floor_given, number-after, after_reached, data_reached, moved_keeps}

-- ---- the least of n positions from q on that is free

first_from : (v : RingView) (n q : ℕ) → q ≤ first_free v n q
unfolding first_free
first_from v zero q = omega arith
first_from v (suc n) q = let later = first_from v n (q + 1) in (grind arith)

first_to : (v : RingView) (n q : ℕ) → first_free v n q ≤ q + n
unfolding first_free
first_to v zero q = omega arith
first_to v (suc n) q = let later = first_to v n (q + 1) in (grind arith)

-- nothing before it is free
first_none : (v : RingView) (n q p : ℕ) → q ≤ p → p < first_free v n q → v.free p ≡ false
unfolding first_free
first_none v zero q p low high = absurd (omega arith)
first_none v (suc n) q p low high =
    elim (cases_Bool (v.free q)) [
      | inl here ↦ absurd (omega (arith, high, cond-true (v.free q) q (first_free v n (q + 1)) here))
      | inr other ↦ elim (cases_eq q p) [
        | inl same ↦ ap v.free (sym same) ∙ other
        | inr apart ↦ first_none v n (q + 1) p (omega arith) (omega (arith, high, cond-false (v.free q) q (first_free v n (q + 1)) other))
      ]
    ]

first_stops : (v : RingView) (n q : ℕ) → first_free v n q < q + n → v.free (first_free v n q) ≡ true
unfolding first_free
first_stops v zero q below = absurd (omega arith)
first_stops v (suc n) q below =
    elim (cases_Bool (v.free q)) [
      | inl here ↦ subst (λ m. v.free m ≡ true) (sym (cond-true (v.free q) q (first_free v n (q + 1)) here)) here
      | inr other ↦
          let later = cond-false (v.free q) q (first_free v n (q + 1)) other in
          subst (λ m. v.free m ≡ true) (sym later) (first_stops v n (q + 1) (omega (arith, below, later)))
    ]

module _ (shape : Shape) (v : RingView) where
  -- as far as the controller may have come
  abbrev pub last : ℕ
  last = first_free v (given_count shape v - ceiling shape v) (ceiling shape v)

  pub last_from : ceiling shape v ≤ last
  last_from = first_from v (given_count shape v - ceiling shape v) (ceiling shape v)

  pub last_to : last ≤ ceiling shape v + (given_count shape v - ceiling shape v)
  last_to = first_to v (given_count shape v - ceiling shape v) (ceiling shape v)

  -- it hasn't come further
  pub last_most : (c : ℕ) → c ≤ given_count shape v → ((p : ℕ) → v.free p ≡ true → p < c → p < ceiling shape v) → c ≤ last
  last_most c given shown =
      elim (cases_lt last c) [
        | inr within ↦ within
        | inl further ↦ elim (cases_lt last (ceiling shape v + (given_count shape v - ceiling shape v))) [
          | inl stops ↦ absurd (omega (arith, shown last (first_stops v (given_count shape v - ceiling shape v) (ceiling shape v) stops) further, last_from))
          | inr all ↦ absurd (omega arith)
        ]
      ]

  pub ceiling_last : ceiling shape (held_at_given shape v) ≡ last
  unfolding held_at_given
  ceiling_last = ceiling_held shape (held_at_given shape v) last refl

number-behind : (shape : Shape) (n : ℕ) → number (behind_blocks shape n) ≡ n
unfolding behind_blocks
number-behind shape zero = refl
number-behind shape (suc p) = omega (arith, number-after shape p)

pub floor_behind : (shape : Shape) (v : RingView) → number (given_up shape v).floor ≡ given_count shape v
unfolding given_up
floor_behind shape v = number-behind shape (given_count shape v)

module _ (shape : Shape) (is : IsShape shape) (memory : ℕ → ℕ) (v : RingView) (k : RingKeeps shape memory v) where
  -- the spot behind all that is given is reached
  behind_reached : (n : ℕ) → n ≡ given_count shape v → MayReach shape v (behind_blocks shape n)
  unfolding behind_blocks
  behind_reached zero all =
      data_reached shape v 0 (omega (arith, all, floor_given shape is memory v k)) (λ p below. absurd (omega arith)) (λ crossing. absurd (omega (arith, crossing_positive shape 0 crossing)))
  behind_reached (suc p) all = after_reached shape v p (omega (arith, all, floor_given shape is memory v k)) (omega arith)

  pub gives_up_keeps : IsRestored v → RingKeeps shape memory (given_up shape v)
  unfolding given_up
  gives_up_keeps none =
      moved_keeps shape is memory v k (behind_blocks shape (given_count shape v)) (behind_reached (given_count shape v) refl) None (λ m at. absurd (none-some m at))
      (λ p free. absurd (false≢true (sym (none p) ∙ free)))

  -- what is free below the last number lies below the ceiling
  shown : IsShownTo shape v (last shape v)
  shown p free below = elim (cases_lt p (ceiling shape v)) [
    | inl before ↦ before
    | inr from ↦ absurd (false≢true (sym (first_none v (given_count shape v - ceiling shape v) (ceiling shape v) p from below) ∙ free))
  ]

  pub held_keeps : RingKeeps shape memory (held_at_given shape v)
  unfolding held_at_given
  held_keeps =
      let within = ceiling_within shape is memory v k in
      holds_keeps shape is memory v k (last shape v) (record { from = omega (arith, within.0, last_from shape v); to = omega (arith, within.1, last_to shape v) }) shown
