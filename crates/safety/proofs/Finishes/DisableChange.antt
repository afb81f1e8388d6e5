-- The change of endpoints that are disabled: they have no ring, and what ring they had is inactive
use Rattle.safety.proofs.LowerLaws.{◌≡◌, ◌⊎◌, ◌==◌, ◌&&◌, if◌then◌else◌, ◌∙◌, ℕ, Bool, true, false, not, Option, Some, None, arith, refl, ap, subst, inl, inr, eq-eqb, eqb-true, ne_eqb, rules, any_in_range, cases_Bool, false≢true, and_from, and_left, and_right, and_parts, cond-false, none-some, same_Some, Command, Off, Disables, Header, is_ring, shape_of, command_id, World, Known, RingState, state_of, BoundRing, FreeRing, EndpointRing, rank_least, rank_most, changed_by, disabled, none_in_range, cond_is, StatesMatch, ChangeKeeps}
use Rattle.world_state.specs.Bindings as bindings

is_ring_of : (r : ℕ) (o : Option ℕ) → o ≡ Some r → is_ring r o ≡ true
is_ring_of r o at = ap (λ x. is_ring r x) at ∙ eq-eqb r r refl

no_ring_of : (r : ℕ) (o : Option ℕ) → (o ≡ Some r → ⊥) → is_ring r o ≡ false
no_ring_of r o other = grind (arith, ne_eqb)

module _ (h : Header) (c : Command) (k : Known) (w : World) (m : StatesMatch h k w) (s : ℕ) (which : ℕ → Bool) where
  -- the change names the endpoint
  abbrev names : ℕ → ℕ → Bool
  names t i = t == s && which i

  abbrev left : ℕ → ℕ → Option ℕ
  left t i = if names t i then None else k.ring_of t i

  left_had : (t i r : ℕ) → left t i ≡ Some r → (names t i ≡ false) × (k.ring_of t i ≡ Some r)
  left_had t i r at = search (rules, cond_is, none-some)

  -- in the world, its ring is let go
  lets_go : (i r : ℕ) → which i ≡ true → k.ring_of s i ≡ Some r → bindings.has_one_of w s which r ≡ true
  unfolding bindings.has_one_of
  lets_go i r passes had =
      let high = m.within s i r had in
      any_in_range (λ j. which j && is_ring r (w.ring_of s j)) 1 31 i (omega (arith, high.2)) (omega (arith, high.3)) (and_from _ _ passes (is_ring_of r (w.ring_of s i) (m.ring_of s i ∙ had)))

  keeps_command : bindings.has_one_of w s which (command_id h) ≡ false
  unfolding bindings.has_one_of
  keeps_command = search (rules, none_in_range, command_id, and_right, no_ring_of, m.apart, m.ring_of)

  abbrev goes_inactive : ℕ → Bool
  goes_inactive r = w.is_active r && not (bindings.has_one_of w s which r)

  abbrev behind : ℕ → RingState
  behind r = record (state_of w r) { active = goes_inactive r }

  ring_behind : (r : ℕ) → EndpointRing h k w r → BoundRing (shape_of h r) left (k.ring r) (behind r) r ⊎ FreeRing (shape_of h r) left (k.ring r) (behind r) r
  ring_behind r (inr free) = inr (search (rules, behind, left_had, and_left))
  ring_behind r (inl bound) =
      elim (cases_Bool (names bound.slot bound.index)) [
        | inl named ↦ inr (search (rules, behind, and_parts, eqb-true, left_had, false≢true, and_right, lets_go, rank_least, rank_most))
        | inr other ↦ inl (search (rules, behind, cond-false, and_parts))
      ]

  disable_made : ChangeKeeps h k (disabled h k s which) w (bindings.disabled w s which)
  unfolding disabled bindings.disabled
  disable_made = record {
    states = record {
      slots = m.slots;
      endpoints = λ t i. ap (λ x. if names t i then Off else x) (m.endpoints t i);
      ring_of = λ t i. ap (λ x. if names t i then None else x) (m.ring_of t i);
      isochronous = m.isochronous;
      rings = λ r other. ring_behind r (m.rings r other);
      scribbles = m.scribbles;
      apart = λ t i r at. m.apart t i r (left_had t i r at).1;
      one_endpoint = λ t i u j r at on. m.one_endpoint t i u j r (left_had t i r at).1 (left_had u j r on).1;
      within = λ t i r at. m.within t i r (left_had t i r at).1;
    };
    rest = (search (rules, still_active, keeps_command));
  }
    where
      still_active : (a b : Bool) → b ≡ false → (a && not b) ≡ a
      still_active a b none = grind arith

  pub disable_keeps : (v : World) → bindings.changed_by h c w (Disables s which) ≡ Some v → ChangeKeeps h k (changed_by h c k (Disables s which)) w v
  unfolding bindings.changed_by changed_by
  disable_keeps v at = subst (λ x. ChangeKeeps h k (disabled h k s which) w x) (same_Some _ v at) disable_made
