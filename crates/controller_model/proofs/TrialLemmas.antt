-- Whether another endpoint has a ring, by the rings of one slot's endpoints and who has it elsewhere
use Rattle.controller_model.proofs.MiddleLaws.{rules, ◌≡◌, ◌≢◌, ◌∷◌, ◌+◌, ◌<◌, ◌≤◌, ◌==◌, ◌&&◌, ◌||◌, ◌∙◌, ℕ, suc, zero, [], length, set, slice_get, unwrap_or, not, Bool, true, false, List, Option, Some, None, refl, sym, ap, inl, inr, arith, eq-eqb, ne_eqb, list_any, range_with_len, cases_eq, cases_Bool, is_ring, World, Holder, EndpointState, is_had_by_another, placed, FollowsHolder, is_holder, Sees, has_own, is_elsewhere, own_ring, slice_get-set_other, put_pair_same, put_pair_index, put_pair_there, any_in_range, none_in_range, any_alike, and_false}

module _ (w v : World) (rings : List (Option ℕ)) (s i r : ℕ) (sees : Sees rings s w v) where
  row_of : ℕ → Bool
  row_of t = list_any (λ j. not (t == s && j == i) && is_ring r (v.ring_of t j)) (range_with_len 1 31)

  row_own : (t : ℕ) → t ≡ s → row_of t ≡ has_own rings i r
  unfolding row_of
  row_own t same =
      any_alike _ _ 1 31 (λ j low high.
      (λ k. not (eq-eqb t s same k && j == i) && is_ring r (v.ring_of (same k) j)) ∙ ap (λ o. not (j == i) && is_ring r o) (sees.own j (omega arith)))

  row_other : (t j : ℕ) → t ≢ s → is_ring r (v.ring_of t j) ≡ is_ring r (w.ring_of t j)
  row_other t j apart = ap (is_ring r) (sees.others t j (ne_eqb t s apart))

  all_rows : is_had_by_another v s i r ≡ list_any row_of (range_with_len 1 255)
  unfolding is_had_by_another row_of
  all_rows = refl

  elsewhere_has : (e : Holder) → FollowsHolder (λ t j. is_ring r (w.ring_of t j)) (Some e) → e.slot ≢ s → is_had_by_another v s i r ≡ true
  unfolding row_of
  elsewhere_has e f apart =
      let one = f.is_one e refl in
      let has : is_ring r (w.ring_of e.slot e.index) ≡ true = f.each e.slot e.index one ∙ (λ k. eq-eqb e.slot e.slot refl k && eq-eqb e.index e.index refl k) in
      all_rows ∙ any_in_range row_of 1 255 e.slot (omega (arith, one.some_slot)) (omega (arith, one.slot_below))
      (any_in_range (λ j. not (e.slot == s && j == i) && is_ring r (v.ring_of e.slot j)) 1 31 e.index (omega (arith, one.some_index)) (omega (arith, one.index_below))
      ((λ k. not (ne_eqb e.slot s apart k && e.index == i) && row_other e.slot e.index apart k) ∙ has))

  -- nobody elsewhere has it
  by_own : (o : Option Holder) → FollowsHolder (λ t j. is_ring r (w.ring_of t j)) o → ((t j : ℕ) → t ≢ s → is_holder o t j ≡ false) → s < 256 →
      is_had_by_another v s i r ≡ (not (s == 0) && has_own rings i r)
  unfolding row_of
  by_own o f nobody below =
      elim (cases_eq s 0) [
        | inl none ↦
            all_rows ∙ none_in_range row_of 1 255 (λ t low high. others t low high (λ e. omega arith)) ∙ sym (ap (λ b. not b && has_own rings i r) (eq-eqb s 0 none))
        | inr some ↦ elim (cases_Bool (has_own rings i r)) [
          | inl so ↦
              all_rows ∙ any_in_range row_of 1 255 s (omega (arith, some)) (omega arith) (row_own s refl ∙ so) ∙ sym (λ k. not (ne_eqb s 0 some k) && so k)
          | inr not_so ↦
              all_rows
              ∙ none_in_range row_of 1 255 (λ t low high. elim (cases_eq t s) [
                | inl same ↦ row_own t same ∙ not_so
                | inr apart ↦ others t low high apart
              ]) ∙ sym (λ k. not (ne_eqb s 0 some k) && not_so k)
        ]
      ]
    where
      others : (t : ℕ) → 1 ≤ t → t < 1 + 255 → t ≢ s → row_of t ≡ false
      others t low high apart =
          none_in_range (λ j. not (t == s && j == i) && is_ring r (v.ring_of t j)) 1 31 (λ j first last.
          ap (λ b. not (t == s && j == i) && b) (row_other t j apart
          ∙ f.each t j (record { some_slot = omega arith; slot_below = omega arith; some_index = omega arith; index_below = omega arith }) ∙ nobody t j apart)
          ∙ and_false (not (t == s && j == i)))

  pub had_by_trial : (o : Option Holder) → FollowsHolder (λ t j. is_ring r (w.ring_of t j)) o → s < 256 →
      (is_elsewhere o s || (not (s == 0) && has_own rings i r)) ≡ is_had_by_another v s i r
  had_by_trial None f below = sym (by_own None f (λ t j apart. refl) below)
  had_by_trial (Some e) f below =
      elim (cases_eq e.slot s) [
        | inr apart ↦ ap (λ b. not b || (not (s == 0) && has_own rings i r)) (ne_eqb e.slot s apart) ∙ sym (elsewhere_has e f apart)
        | inl same ↦ search (rules, eq-eqb, by_own, ne_eqb)
      ]

slice_get-set_here : {X : Type 0} (xs : List X) (i : ℕ) (x : X) → i < length xs → slice_get (set xs i x) i ≡ Some x
slice_get-set_here [] i x inside = absurd (omega arith)
slice_get-set_here (z ∷ xs) zero x inside = refl
slice_get-set_here (z ∷ xs) (suc i) x inside = slice_get-set_here xs i x (omega arith)

-- an endpoint gets a ring
pub sees_placed : (w v : World) (rings : List (Option ℕ)) (n s i r a : ℕ) (c : Bool) (state : EndpointState) → n ≡ i → i < length rings → Sees rings s w v →
    Sees (set rings n (Some r)) s w (placed v s i r a c state)
unfolding placed
sees_placed w v rings n s i r a c state index inside sees = search (rules, length, set, put_pair_same, unwrap_or, slice_get, slice_get-set_here, put_pair_index, slice_get-set_other, put_pair_there)

module _ (rings : List (Option ℕ)) (i r : ℕ) where
  pub own_some : (k : ℕ) → 1 ≤ k → k < 32 → (not (k == i) && is_ring r (own_ring rings k)) ≡ true → has_own rings i r ≡ true
  own_some k low high so = any_in_range (λ j. not (j == i) && is_ring r (own_ring rings j)) 1 31 k low (omega arith) so

  pub own_none : ((k : ℕ) → 1 ≤ k → k < 32 → (not (k == i) && is_ring r (own_ring rings k)) ≡ false) → has_own rings i r ≡ false
  own_none none = none_in_range (λ j. not (j == i) && is_ring r (own_ring rings j)) 1 31 (λ k low high. none k low (omega arith))

pub own_here : (rings : List (Option ℕ)) (n j : ℕ) (x : Option ℕ) → n ≡ j → j < length rings → own_ring (set rings n x) j ≡ x
own_here rings n j x index inside = ap (λ o. unwrap_or o None) ((λ k. slice_get (set rings (index k) x) j) ∙ slice_get-set_here rings j x inside)

pub own_there : (rings : List (Option ℕ)) (n j : ℕ) (x : Option ℕ) → j ≢ n → own_ring (set rings n x) j ≡ own_ring rings j
own_there rings n j x apart = ap (λ o. unwrap_or o None) (slice_get-set_other rings n j x apart)
