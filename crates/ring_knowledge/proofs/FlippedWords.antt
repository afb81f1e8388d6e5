-- Which words flip the Cycle bit of what is free and may be passed
use Rattle.ring_knowledge.proofs.UpperLaws.{◌≡◌, ◌+◌, ◌*◌, ◌%◌, ◌∙◌, ◌==◌, ◌&&◌, ℕ, Bool, true, false, Some, refl, ap, sym, arith, not, nat_lt, list_any, range_with_len, and_parts, eq-eqb, eqb-true, AtData, Shape, place_count, place_of, address_of, cycle_of, place_at, place_at-address_of, RingView, floor_number, ceiling, unrestored, due_positions, flips_passed, RingRecord, FollowsMarks, false_unless, any_filtered, any_none, any_only, data_is, IsDue, same_due, word_there}

module _ (shape : Shape) (v : RingView) (r : RingRecord) (follows : FollowsMarks shape v r) (a w : ℕ) where
  abbrev flips : ℕ → Bool
  flips p = v.free p && (nat_lt p (ceiling shape v) && a == address_of shape p + 12 && not (w % 2 == cycle_of shape p))

  flips_are : flips_passed shape v a w ≡ list_any flips (range_with_len (floor_number v) (place_count shape))
  unfolding flips_passed unrestored due_positions
  flips_are = any_filtered (λ p. nat_lt p (ceiling shape v) && a == address_of shape p + 12 && not (w % 2 == cycle_of shape p)) v.free (range_with_len (floor_number v) (place_count shape))

  -- such a word is the control word of the position's place
  word_at : (p : ℕ) → flips p ≡ true → place_at shape a ≡ Some (AtData (place_of shape p) 3)
  word_at p h =
      let parts = and_parts (v.free p) (nat_lt p (ceiling shape v) && a == address_of shape p + 12 && not (w % 2 == cycle_of shape p)) h in
      let front = and_parts (nat_lt p (ceiling shape v) && a == address_of shape p + 12) (not (w % 2 == cycle_of shape p)) parts.1 in
      let here = and_parts (nat_lt p (ceiling shape v)) (a == address_of shape p + 12) front.0 in
      let at : a ≡ address_of shape p + 4 * 3 = eqb-true a (address_of shape p + 12) here.1 in
      ap (λ x. place_at shape x) at ∙ place_at-address_of shape follows.allowed p 3 (omega arith)

  -- no other word does
  pub no_flip : ((i : ℕ) → place_at shape a ≡ Some (AtData i 3) → ⊥) → false ≡ flips_passed shape v a w
  no_flip never = sym (flips_are ∙ any_none flips (floor_number v) (place_count shape) (λ p low high. false_unless (flips p) (λ h. never (place_of shape p) (word_at p h))))

  -- at the control word of a place it is as its due position says
  pub flip_at : (i p : ℕ) → place_at shape a ≡ Some (AtData i 3) → IsDue shape (floor_number v) i p →
      (v.free p && (nat_lt p (ceiling shape v) && not (w % 2 == cycle_of shape p))) ≡ flips_passed shape v a w
  flip_at i p at due =
      let here : (a == address_of shape p + 12) ≡ true = eq-eqb a (address_of shape p + 12) (omega (arith, word_there shape follows.allowed a i 3 p at due.place_is)) in
      sym (flips_are
      ∙ any_only flips (floor_number v) (place_count shape) p due.from due.within
      (λ n low high other. false_unless (flips n) (λ h. other (same_due shape follows.allowed (floor_number v) n p low high due.from due.within
      ((data_is (place_of shape n) 3 i 3 (sym (word_at n h) ∙ at)).0 ∙ sym due.place_is))))
      ∙ ap (λ b. v.free p && (nat_lt p (ceiling shape v) && b && not (w % 2 == cycle_of shape p))) here ∙ and_true (v.free p) (nat_lt p (ceiling shape v)) (not (w % 2 == cycle_of shape p)))
    where
      and_true : (f x y : Bool) → (f && (x && true && y)) ≡ (f && (x && y))
      and_true f true y = refl
      and_true f false y = refl

  module _ (i p : ℕ) (at : place_at shape a ≡ Some (AtData i 3)) (due : IsDue shape (floor_number v) i p) where
    -- it isn't free
    pub kept_at : v.free p ≡ false → false ≡ flips_passed shape v a w
    kept_at kept = sym (ap (λ b. b && (nat_lt p (ceiling shape v) && not (w % 2 == cycle_of shape p))) kept) ∙ flip_at i p at due

    -- it lies at the ceiling or behind
    pub behind_at : v.free p ≡ true → nat_lt p (ceiling shape v) ≡ false → false ≡ flips_passed shape v a w
    behind_at free behind =
        sym (ap (λ b. b && (nat_lt p (ceiling shape v) && not (w % 2 == cycle_of shape p))) free ∙ ap (λ b. b && not (w % 2 == cycle_of shape p)) behind) ∙ flip_at i p at due

    -- it may be passed
    pub passed_at : v.free p ≡ true → nat_lt p (ceiling shape v) ≡ true → not (w % 2 == cycle_of shape p) ≡ flips_passed shape v a w
    passed_at free below =
        sym (ap (λ b. b && (nat_lt p (ceiling shape v) && not (w % 2 == cycle_of shape p))) free ∙ ap (λ b. b && not (w % 2 == cycle_of shape p)) below) ∙ flip_at i p at due
