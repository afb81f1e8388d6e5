-- What is known of an endpoint whose ring a command placed: it is bound anew, or moved
use Rattle.safety.proofs.LowerLaws.{◌≡◌, ◌∙◌, ℕ, Bool, true, false, Some, refl, sym, ap, subst, eqb-true, rules, and_parts, cond-true, cond-false, put, put_pair, Spot, number, target, Command, EndpointState, Places, is_off, Header, IsHeader, shape_of, ring_having, Known, on_ring, set_to, bound_to, moved_to, moved, pointed, in_state, changed_by, put_at, put_off}
use Rattle.safety.proofs.Targets.Placings.{pointed_is}
use Rattle.safety.proofs.Finishes.Placing.{PlacedTo}

-- with an endpoint in a state, and these endpoints whose ring must be moved
abbrev pub in_place : Header → Known → ℕ → ℕ → EndpointState → (ℕ → ℕ → Bool) → Known
in_place h k s i state must = record (in_state h k s i state) { must_move = must }

module _ (h : Header) (k : Known) (s i r : ℕ) (t : Spot) where
  -- its ring is moved
  moved_placed : (state : EndpointState) (must : ℕ → ℕ → Bool) → k.ring_of s i ≡ Some r → PlacedTo k (in_place h (set_to h k r t) s i state must) s i r t state
  unfolding set_to on_ring in_state
  moved_placed state must had = search (rules, k.ring, put_at, put, number, put_off, and_parts, eqb-true, cond-true, cond-false)

  -- a ring is bound
  abbrev bound : Known
  bound = record (set_to h k r t) { ring_of = put_pair k.ring_of s i (Some r); was_bound = put k.was_bound r true }

  bound_placed : (state : EndpointState) (must : ℕ → ℕ → Bool) → PlacedTo k (in_place h bound s i state must) s i r t state
  unfolding set_to on_ring in_state
  bound_placed state must = search (rules, k.ring, put_at, put, number, put_off)

  bound_is : (p : ℕ) (cycle : Bool) → target (shape_of h r) (k.ring r) p cycle ≡ Some t → bound_to h k s i (Some r) p cycle ≡ bound
  unfolding bound_to moved moved_to
  bound_is p cycle named = search (rules, moved_to, put_pair, k.ring_of, put, k.was_bound, true)

module _ (h : Header) (c : Command) (k : Known) (s i p : ℕ) (cycle : Bool) (state : EndpointState) where
  places_is : changed_by h c k (Places s i p cycle state) ≡ in_place h (pointed h k s i p cycle) s i state (put_pair k.must_move s i false)
  unfolding changed_by
  places_is = refl

  moved_is : (r : ℕ) (t : Spot) → is_off (k.endpoint_state s i) ≡ false → k.ring_of s i ≡ Some r → target (shape_of h r) (k.ring r) p cycle ≡ Some t → pointed h k s i p cycle ≡ set_to h k r t
  unfolding pointed moved moved_to
  moved_is r t on had named = search (rules, cond-false, is_off, k.endpoint_state, bound_to, ring_having, moved, k.ring_of, moved_to)

  pub binds_placed : IsHeader h → (r : ℕ) (t : Spot) → is_off (k.endpoint_state s i) ≡ true → ring_having h p ≡ Some r → target (shape_of h r) (k.ring r) p cycle ≡ Some t →
      PlacedTo k (changed_by h c k (Places s i p cycle state)) s i r t state
  binds_placed is r t off at named =
      subst (λ l. PlacedTo k l s i r t state)
      (sym (places_is ∙ ap (λ l. in_place h l s i state (put_pair k.must_move s i false)) (pointed_is h is k s i p r cycle off at ∙ bound_is h k s i r t p cycle named)))
      (bound_placed h k s i r t state (put_pair k.must_move s i false))

  pub moves_placed : (r : ℕ) (t : Spot) → is_off (k.endpoint_state s i) ≡ false → k.ring_of s i ≡ Some r → target (shape_of h r) (k.ring r) p cycle ≡ Some t →
      PlacedTo k (changed_by h c k (Places s i p cycle state)) s i r t state
  moves_placed r t on had named =
      subst (λ l. PlacedTo k l s i r t state) (sym (places_is ∙ ap (λ l. in_place h l s i state (put_pair k.must_move s i false)) (moved_is r t on had named))) (moved_placed h k s i r t state (put_pair k.must_move s i false) had)
