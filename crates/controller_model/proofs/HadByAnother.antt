-- Whether another endpoint has a ring, by who is kept as having it
use Rattle.controller_model.proofs.LowerLaws.{◌≡◌, ◌==◌, ◌&&◌, ◌∙◌, ℕ, not, Bool, true, false, Option, Some, None, refl, sym, ap, inl, inr, arith, eq-eqb, list_any, range_with_len, cases_Bool, false≢true, is_ring, World, Holder, is_had_by_another, FollowsHolder, IsEndpoint, is_other, here, elsewhere, place_of, any_in_range, none_in_range}

-- the tests of a range are the same
pub any_same : (test other : ℕ → Bool) (from n : ℕ) → ((k : ℕ) → test k ≡ other k) → list_any test (range_with_len from n) ≡ list_any other (range_with_len from n)
any_same test other from n same = ap (λ (p : ℕ → Bool). list_any p (range_with_len from n)) (λ i k. same k i)

pub and_false : (b : Bool) → (b && false) ≡ false
and_false b = grind arith

module _ (w : World) (s i r : ℕ) where
  -- no other one has it
  pub none_else : is_had_by_another w s i r ≡ false → (t j : ℕ) → IsEndpoint t j → (t == s && j == i) ≡ false → is_ring r (w.ring_of t j) ≡ false
  unfolding is_had_by_another
  none_else free t j one apart =
      elim (cases_Bool (is_ring r (w.ring_of t j))) [
        | inr not_so ↦ not_so
        | inl so ↦
            let inner = any_in_range (λ j. not (t == s && j == i) && is_ring r (w.ring_of t j)) 1 31 j (omega (arith, one.some_index)) (omega (arith, one.index_below)) (λ k. not (apart k) && so k) in
            let outer =
            any_in_range (λ t. list_any (λ j. not (t == s && j == i) && is_ring r (w.ring_of t j)) (range_with_len 1 31)) 1 255 t (omega (arith, one.some_slot)) (omega (arith, one.slot_below)) inner in
            absurd (false≢true (sym free ∙ outer))
      ]

  -- the test by who is kept
  pub had_by_holder : (o : Option Holder) → FollowsHolder (λ t j. is_ring r (w.ring_of t j)) o → is_other o s i ≡ is_had_by_another w s i r
  unfolding is_had_by_another
  had_by_holder None f =
      sym (none_in_range _ 1 255 (λ t low high. none_in_range _ 1 31 (λ j first last.
      ap (λ b. not (t == s && j == i) && b) (f.each t j (record { some_slot = omega arith; slot_below = omega arith; some_index = omega arith; index_below = omega arith }))
      ∙ and_false (not (t == s && j == i)))))
  had_by_holder (Some e) f =
      let one = f.is_one e refl in
      elim (place_of s i e.slot e.index) [
        | elsewhere apart ↦
            let has : is_ring r (w.ring_of e.slot e.index) ≡ true = f.each e.slot e.index one ∙ (λ k. eq-eqb e.slot e.slot refl k && eq-eqb e.index e.index refl k) in
            let inner =
            any_in_range (λ j. not (e.slot == s && j == i) && is_ring r (w.ring_of e.slot j)) 1 31 e.index (omega (arith, one.some_index)) (omega (arith, one.index_below)) (λ k. not (apart k) && has k) in
            ap not apart
            ∙ sym (any_in_range (λ t. list_any (λ j. not (t == s && j == i) && is_ring r (w.ring_of t j)) (range_with_len 1 31)) 1 255 e.slot
            (omega (arith, one.some_slot)) (omega (arith, one.slot_below)) inner)
        | here same at ↦
            (λ k. not (eq-eqb e.slot s same k && eq-eqb e.index i at k))
            ∙ sym (none_in_range _ 1 255 (λ t low high. none_in_range _ 1 31 (λ j first last.
            let there = f.each t j (record { some_slot = omega arith; slot_below = omega arith; some_index = omega arith; index_below = omega arith }) in
            elim (place_of s i t j) [
              | here is on ↦ (λ k. not (eq-eqb t s is k && eq-eqb j i on k) && is_ring r (w.ring_of t j))
              | elsewhere apart ↦
                  (λ k. not (t == s && j == i) && there k) ∙ (λ k. not (t == s && j == i) && (t == same k && j == at k)) ∙ (λ k. not (t == s && j == i) && apart k)
                  ∙ and_false (not (t == s && j == i))
            ])))
      ]
