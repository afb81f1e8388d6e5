-- Which rings keep an endpoint that a command doesn't drop
use Rattle.safety.proofs.LowerLaws.{◌≡◌, ◌<◌, ◌&&◌, ◌∙◌, ℕ, not, Bool, true, false, Some, arith, refl, sym, ap, inl, inr, eq-eqb, list_any, range_with_len, cases_Bool, and_parts, and_from, not_from_false, not-true, false≢true, false_from_ne_true, Command, Header, is_ring, Known, drops, is_kept, some_of, any_of, in_range, ring_is}

module _ (h : Header) (k : Known) (c : Command) (r : ℕ) where
  -- where the ring is kept by none, an endpoint that has it is dropped
  pub kept_drops : is_kept h k c r ≡ false → (s i : ℕ) → 0 < s → s < 256 → 0 < i → i < 32 → k.ring_of s i ≡ Some r → drops k c s i ≡ true
  unfolding is_kept
  kept_drops none s i some_slot slot some_index index has =
      elim (cases_Bool (drops k c s i)) [
        | inl dropped ↦ dropped
        | inr keeps ↦
            let row : ℕ → Bool = λ t. list_any (λ j. is_ring r (k.ring_of t j) && not (drops k c t j)) (range_with_len 1 31) in
            let here : (is_ring r (k.ring_of s i) && not (drops k c s i)) ≡ true =
            and_from (is_ring r (k.ring_of s i)) (not (drops k c s i)) (ap (is_ring r) has ∙ eq-eqb r r refl) (not_from_false (drops k c s i) keeps) in
            let inner : row s ≡ true = any_of (λ j. is_ring r (k.ring_of s j) && not (drops k c s j)) (range_with_len 1 31) i (in_range 1 31 i (omega arith) (omega arith)) here in
            absurd (false≢true (sym none ∙ any_of row (range_with_len 1 255) s (in_range 1 255 s (omega arith) (omega arith)) inner))
      ]

  -- where each endpoint that has it is dropped, none keeps it
  pub none_kept : ((s i : ℕ) → k.ring_of s i ≡ Some r → drops k c s i ≡ true) → is_kept h k c r ≡ false
  unfolding is_kept
  none_kept dropped =
      let row : ℕ → Bool = λ t. list_any (λ j. is_ring r (k.ring_of t j) && not (drops k c t j)) (range_with_len 1 31) in
      false_from_ne_true (list_any row (range_with_len 1 255)) (λ kept.
      let outer = some_of row (range_with_len 1 255) kept in
      let inner = some_of (λ j. is_ring r (k.ring_of outer.0 j) && not (drops k c outer.0 j)) (range_with_len 1 31) outer.2 in
      let parts = and_parts (is_ring r (k.ring_of outer.0 inner.0)) (not (drops k c outer.0 inner.0)) inner.2 in
      false≢true (sym (not-true (drops k c outer.0 inner.0) parts.1) ∙ dropped outer.0 inner.0 (ring_is r (k.ring_of outer.0 inner.0) parts.0)))
