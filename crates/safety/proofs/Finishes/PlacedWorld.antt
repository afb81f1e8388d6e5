-- An endpoint whose ring is placed at an address: what changes in the world
use Rattle.safety.proofs.LowerLaws.{◌≡◌, ◌≢◌, if◌then◌else◌, ◌∷◌, ℕ, Bool, false, length, Option, Some, None, none-some, same_Some, put, put_pair, EndpointState, World, Placed, takes_of, is_had_by_another, inactive, placed, placed_on, state_of, rules, arith, cond_is, put_at, put_off, placed_state}

-- the ring that is placed, which no other endpoint has
pub record IsPlaced (w v : World) (s i a : ℕ) (c : Bool) (state : EndpointState) (o : Option ℕ) : Type 0 where
  pub ring : ℕ
  pub found : o ≡ Some ring
  pub unshared : is_had_by_another w s i ring ≡ false
  pub is : placed w s i ring a c state ≡ v

pub placed_is : (w v : World) (s i a : ℕ) (c : Bool) (state : EndpointState) (o : Option ℕ) → placed_on w s i a c state o ≡ Some v → IsPlaced w v s i a c state o
unfolding placed_on
placed_is w v s i a c state o at = grind (arith, none-some, cond_is, is_had_by_another, placed, same_Some)

-- which rings are active once the endpoint's isn't
abbrev pub rest_active : World → Option ℕ → ℕ → Bool
rest_active w None = w.is_active
rest_active w (Some q) = put w.is_active q false

abbrev pub placed_world : World → ℕ → ℕ → ℕ → ℕ → Bool → EndpointState → (ℕ → Bool) → World
placed_world w s i r a c state active = record w {
  endpoint_state = put_pair w.endpoint_state s i state;
  ring_of = put_pair w.ring_of s i (Some r);
  is_active = put active r false;
  pointer_of = put w.pointer_of r a;
  cycle_state = put w.cycle_state r (if c then 1 else 0);
  events = put w.events r (Placed a ∷ w.events r);
  reported = put w.reported r (length (takes_of (w.events r)));
}

pub placed_world_is : (w : World) (s i r a : ℕ) (c : Bool) (state : EndpointState) (o : Option ℕ) → w.ring_of s i ≡ o → placed w s i r a c state ≡ placed_world w s i r a c state (rest_active w o)
unfolding placed inactive
placed_world_is w s i r a c state o at =
    grind (arith, inactive, put_pair, w.endpoint_state, w.ring_of, put, w.pointer_of, w.cycle_state, w.events, w.reported, length, takes_of)

-- ---- ring by ring

module _ (w : World) (s i r a : ℕ) (c : Bool) (state : EndpointState) (active : ℕ → Bool) where
  pub placed_here : state_of (placed_world w s i r a c state active) r ≡ placed_state (state_of w r) a (if c then 1 else 0)
  placed_here = search (rules, put_at, w.pointer_of, w.cycle_state, false, w.events, w.reported, length, takes_of)

  pub placed_elsewhere : (q : ℕ) → q ≢ r → active q ≡ w.is_active q → state_of (placed_world w s i r a c state active) q ≡ state_of w q
  placed_elsewhere q other still = search (rules, put_off, w.pointer_of, w.cycle_state, false, w.events, w.reported, length, takes_of)

-- the endpoint had no ring, or this one: no other ring's activity changes
pub rest_still : (w : World) (o : Option ℕ) (r q : ℕ) → ((p : ℕ) → o ≡ Some p → p ≡ r) → q ≢ r → rest_active w o q ≡ w.is_active q
rest_still w o r q had other = grind (arith, put_off, w.is_active, false)
