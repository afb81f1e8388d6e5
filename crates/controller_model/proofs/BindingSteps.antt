-- What letting a ring go and getting one do to what the world has of each ring
use Rattle.controller_model.proofs.MiddleLaws.{arith, rules, ◌≡◌, ◌≢◌, ◌∷◌, ◌∙◌, if◌then◌else◌, ℕ, Bool, true, false, Option, Some, None, length, refl, ap, eq-eqb, ne_eqb, cond-true, put_pair, EndpointState, is_ring, World, Placed, takes_of, inactive, is_had_by_another, placed, ring_held, released, freed, bound, ◌==◌, ◌&&◌, not, put_same, put_other, put_pair_id, put_pair_twice, put_pair_map, any_same}

module _ (w : World) (s i : ℕ) where
  -- the endpoints that have ring q, after this one gets another one or none
  had_after : (q : ℕ) (o : Option ℕ) → ◌≡◌ {A = ℕ → ℕ → Bool} (λ t j. is_ring q (put_pair w.ring_of s i o t j)) (put_pair (λ t j. is_ring q (w.ring_of t j)) s i (is_ring q o))
  had_after q o = put_pair_map (is_ring q) w.ring_of s i o

  had_same : (q : ℕ) (o : Option ℕ) → is_ring q (w.ring_of s i) ≡ is_ring q o → ◌≡◌ {A = ℕ → ℕ → Bool} (λ t j. is_ring q (put_pair w.ring_of s i o t j)) (λ t j. is_ring q (w.ring_of t j))
  had_same q o same = had_after q o ∙ put_pair_id (λ t j. is_ring q (w.ring_of t j)) s i (is_ring q o) same

  pub released_here : (r : ℕ) → ring_held (released w s i r) r ≡ record (ring_held w r) {
    is_active = false;
    had_by = put_pair (λ t j. is_ring r (w.ring_of t j)) s i false;
  }
  released_here r = (λ k. record (ring_held w r) { is_active = put_same w.is_active r false k; had_by = had_after r None k })

  pub released_other : (r q : ℕ) → w.ring_of s i ≡ Some r → q ≢ r → ring_held (released w s i r) q ≡ ring_held w q
  released_other r q has apart = grind (arith, put_other, had_same, ne_eqb)

  module _ (r a : ℕ) (c : Bool) (state : EndpointState) where
    pub bound_here : ring_held (bound w s i r a c state) r ≡ record (ring_held w r) {
      is_active = false;
      pointer = a;
      cycle = if c then 1 else 0;
      events = Placed a ∷ w.events r;
      reported = length (takes_of (w.events r));
      had_by = put_pair (λ t j. is_ring r (w.ring_of t j)) s i true;
    }
    bound_here = (λ k. record (ring_held w r) {
      is_active = put_same w.is_active r false k;
      pointer = put_same w.pointer_of r a k;
      cycle = put_same w.cycle_state r (if c then 1 else 0) k;
      events = put_same w.events r (Placed a ∷ w.events r) k;
      reported = put_same w.reported r (length (takes_of (w.events r))) k;
      had_by = (had_after r (Some r) ∙ ap (λ b. put_pair (λ t j. is_ring r (w.ring_of t j)) s i b) (eq-eqb r r refl)) k;
    })

    pub bound_other : (q : ℕ) → w.ring_of s i ≡ None → q ≢ r → ring_held (bound w s i r a c state) q ≡ ring_held w q
    bound_other q has apart = search (rules, put_other, length, had_same, ne_eqb)

    pub placed_is : (o : Option ℕ) → w.ring_of s i ≡ o → placed w s i r a c state ≡ bound (freed w s i o) s i r a c state
    unfolding placed inactive
    placed_is o has = grind (arith, put_pair_twice)

  pub freed_has : (o : Option ℕ) → w.ring_of s i ≡ o → (freed w s i o).ring_of s i ≡ None
  freed_has o has = grind (arith, cond-true, eq-eqb)

  pub freed_had : (o : Option ℕ) (r : ℕ) → is_had_by_another (freed w s i o) s i r ≡ is_had_by_another w s i r
  unfolding is_had_by_another
  freed_had None r = refl
  freed_had (Some q) r = any_same _ _ 1 255 (λ t. any_same _ _ 1 31 (λ j. at (t == s && j == i) (w.ring_of t j)))
    where
      at : (b : Bool) (o : Option ℕ) → (not b && is_ring r (if b then None else o)) ≡ (not b && is_ring r o)
      at true o = refl
      at false o = refl
