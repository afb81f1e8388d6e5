-- An endpoint gets a ring, or keeps its own
use Rattle.trace_record.proofs.UpperLaws.{rules, ◌≡◌, ◌<◌, ◌==◌, if◌then◌else◌, ◌∙◌, ℕ, Bool, true, false, List, Option, Some, None, ap, sym, length, get_or-set_same, get_or-set_other, slice_index_or, slice_set, eq-eqb, ne_eqb, cond-true, cond-false, put, put_pair, EndpointState, is_off, Spot, target, Header, ring_having, shape_of, Known, on_ring, bound_to, in_state, moved, moved_to, pointed, set_to, Endpoint, DeviceRecord, placed_endpoint, ring_got, FollowsDevices, IsWithBound, IsWithEndpoint, endpoint_at, follows_moved, endpoints_same, states_same, devices_same, follows_beside, follows_halt, follows_placed}

pub set_at : {X : Type 0} (xs : List X) (n m : ℕ) (x d : X) → n < length xs → slice_index_or (slice_set xs n x) m d ≡ (if m == n then x else slice_index_or xs m d)
set_at xs n m x d below = search (rules, slice_index_or, slice_set, get_or-set_same, cond-true, eq-eqb, get_or-set_other, cond-false, ne_eqb)

-- the rings that were bound
module _ (k : Known) (old new : DeviceRecord) (f : FollowsDevices k old) where
  other_fields : (bound : ℕ → Bool) → new.slots.items ≡ old.slots.items → new.endpoints.items ≡ old.endpoints.items →
      ((r : ℕ) → bound r ≡ slice_index_or new.bound.items r false) → FollowsDevices (record k { was_bound = bound }) new
  other_fields bound slots endpoints is = search (rules, states_same, devices_same, endpoints_same)

  pub follows_unbound : IsWithBound old new None → FollowsDevices k new
  follows_unbound w = other_fields k.was_bound w.slots w.endpoints (λ r. f.was_bound r ∙ sym (ap (λ xs. slice_index_or xs r false) w.bound))

  pub follows_bound : (q : ℕ) → IsWithBound old new (Some q) → FollowsDevices (record k { was_bound = put k.was_bound q true }) new
  follows_bound q w = search (rules, other_fields, put, slice_index_or, set_at)

module _ (h : Header) (k : Known) (s i p : ℕ) (cycle : Bool) (state : EndpointState) (old mid new : DeviceRecord) (f : FollowsDevices k old) (x e : Endpoint)
    (w : IsWithEndpoint mid new s i x) (was : e ≡ endpoint_at mid.endpoints.items s i) where
  -- its ring stays, and k' is known in place of k
  stays : (k' : Known) → FollowsDevices k' mid → x ≡ placed_endpoint e None state →
      FollowsDevices (record k' { endpoint_state = put_pair k'.endpoint_state s i state; must_move = put_pair k'.must_move s i false }) new
  stays k' f' is = follows_halt k' mid new f' s i x state false w (is ∙ ap (λ (y : Endpoint). placed_endpoint y None state) was)

  -- the ring that it gets is moved to a spot, if one is named
  gets_at : (r : ℕ) (o : Option Spot) → IsWithBound old mid (Some r) → x ≡ placed_endpoint e (Some r) state →
      FollowsDevices (record (in_state h (record (moved_to h k r o) { ring_of = put_pair k.ring_of s i (Some r); was_bound = put k.was_bound r true }) s i state) {
        must_move = put_pair k.must_move s i false;
      }) new
  unfolding in_state moved_to set_to on_ring
  gets_at r o h1 h2 = search (rules, follows_placed, follows_bound, placed_endpoint, follows_beside, put, put_pair, set_to)

  gets_ring : (o : Option ℕ) → IsWithBound old mid o → x ≡ placed_endpoint e o state →
      FollowsDevices (record (in_state h (bound_to h k s i o p cycle) s i state) { must_move = put_pair k.must_move s i false }) new
  unfolding in_state bound_to moved
  gets_ring None b is = stays k (follows_unbound k old mid f b) is
  gets_ring (Some r) b is = gets_at r (target (shape_of h r) (k.ring r) p cycle) b is

  keeps_ring : (o : Option ℕ) → IsWithBound old mid None → x ≡ placed_endpoint e None state →
      FollowsDevices (record (in_state h (moved h k o p cycle) s i state) { must_move = put_pair k.must_move s i false }) new
  unfolding in_state
  keeps_ring o b is =
      let f' = follows_moved h k old f o p cycle in
      search (rules, stays, moved, follows_unbound, Bool, FollowsDevices, put_pair)

  pub follows_place : (ring : Option ℕ) → (is_off (k.endpoint_state s i) ≡ true → ring_having h p ≡ ring) →
      IsWithBound old mid (ring_got (k.endpoint_state s i) ring) → x ≡ placed_endpoint e (ring_got (k.endpoint_state s i) ring) state →
      FollowsDevices (record (in_state h (pointed h k s i p cycle) s i state) { must_move = put_pair k.must_move s i false }) new
  unfolding pointed
  follows_place ring named b is = search (rules, in_state, bound_to, put_pair, gets_ring, keeps_ring)
