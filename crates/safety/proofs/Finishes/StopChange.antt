-- The change of a Stop Endpoint's success: the endpoint is Stopped, and its ring held at its ceiling and inactive
use Rattle.safety.proofs.LowerLaws.{◌≡◌, ◌≢◌, ℕ, false, Option, Some, None, refl, sym, ap, subst, inl, inr, rules, arith, cases_eq, false≢true, same_Some, put, Spot, Shape, ceiling, is_way_given, Command, Stopped, Stops, Header, shape_of, command_id, World, Known, RingState, state_of, RingMatches, BoundRing, EndpointRing, on_ring, changed_by, held_at_ceiling, in_state, RingView, newest_still, put_at, put_off, StatesMatch, ChangeKeeps, none_keeps, both_keep}
use Rattle.safety.proofs.NoHarm.NoWait.{ceiling_held}
use Rattle.safety.proofs.Finishes.SlotChanges.{state_made}
use Rattle.world_state.specs.Bindings as bindings

-- ---- one ring

-- held where it may have gone
abbrev held_view : Shape → RingView → RingView
held_view shape v = record v { held = Some (ceiling shape v) }

abbrev resting : RingState → RingState
resting s = record s { active = false }

held_matches : (shape : Shape) (v : RingView) (s : RingState) (t : Spot) → RingMatches shape v s t → RingMatches shape (held_view shape v) (resting s) t
unfolding is_way_given
held_matches shape v s t m = search (rules, ceiling_held, false≢true, newest_still)

-- ---- all rings

module _ (h : Header) (k : Known) (w : World) (m : StatesMatch h k w) (s i r : ℕ) (had : k.ring_of s i ≡ Some r) where
  abbrev held : Known
  held = record k { ring = put k.ring r (held_view (shape_of h r) (k.ring r)) }

  abbrev rested : World
  rested = record w { is_active = put w.is_active r false }

  apart : r ≢ command_id h
  apart = m.apart s i r had

  ring_here : held.ring r ≡ held_view (shape_of h r) (k.ring r)
  ring_here = put_at k.ring r _

  ring_elsewhere : (q : ℕ) → q ≢ r → held.ring q ≡ k.ring q
  ring_elsewhere q other = put_off k.ring r _ q other

  state_here : state_of rested r ≡ resting (state_of w r)
  state_here = ap (λ x. let y : RingState = record (state_of w r) { active = x } in y) (put_at w.is_active r false)

  state_elsewhere : (q : ℕ) → q ≢ r → state_of rested q ≡ state_of w q
  state_elsewhere q other = ap (λ x. let y : RingState = record (state_of w q) { active = x } in y) (put_off w.is_active r false q other)

  stopped_here : EndpointRing h k w r → EndpointRing h held rested r
  stopped_here (inl bound) =
      inl (subst (λ x. BoundRing (shape_of h r) k.ring_of x (state_of rested r) r) (sym ring_here)
      (subst (λ x. BoundRing (shape_of h r) k.ring_of (held_view (shape_of h r) (k.ring r)) x r) (sym state_here) (search (rules, held_matches))))
  stopped_here (inr free) = absurd (free.none s i had)

  stopped_ring : (q : ℕ) → q ≢ command_id h → EndpointRing h held rested q
  stopped_ring q not_command =
      elim (cases_eq q r) [
        | inl same ↦ subst (λ x. EndpointRing h held rested x) (sym same) (stopped_here (m.rings r apart))
        | inr other ↦ grind (arith, ring_elsewhere, state_elsewhere)
      ]

  held_keeps : ChangeKeeps h k held w rested
  held_keeps = search (rules, held, rested, stopped_ring, apart, ring_here, ring_elsewhere, state_elsewhere)

-- the ring of an endpoint, if it has one
module _ (h : Header) (k : Known) (w : World) (m : StatesMatch h k w) where
  ring_stops : (s i : ℕ) (o : Option ℕ) → k.ring_of s i ≡ o → ChangeKeeps h k (held_at_ceiling h k o) w (bindings.inactive w o)
  unfolding held_at_ceiling bindings.inactive on_ring
  ring_stops s i None at = none_keeps h k w m
  ring_stops s i (Some r) at = held_keeps h k w m s i r at

module _ (h : Header) (c : Command) (k : Known) (w : World) (m : StatesMatch h k w) where
  pub stop_keeps : (s i : ℕ) (v : World) → bindings.changed_by h c w (Stops s i) ≡ Some v → ChangeKeeps h k (changed_by h c k (Stops s i)) w v
  unfolding bindings.changed_by changed_by in_state
  stop_keeps s i v at =
      let l : Known = in_state h k s i Stopped in
      let u : World = bindings.in_state w s i Stopped in
      let one = state_made h c k w m s i Stopped in
      let two = ring_stops h l u one.states s i (k.ring_of s i) refl in
      subst (λ x. ChangeKeeps h k (held_at_ceiling h l (k.ring_of s i)) w x) (same_Some _ v at)
      (subst (λ o. ChangeKeeps h k (held_at_ceiling h l (k.ring_of s i)) w (bindings.inactive u o)) (sym (m.ring_of s i))
      (both_keep h k l (held_at_ceiling h l (k.ring_of s i)) w u (bindings.inactive u (k.ring_of s i)) one.rest two))
