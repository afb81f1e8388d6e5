-- An endpoint that is placed, and those that an input context adds
use Rattle.event_rows.proofs.LowerLaws.{rules, ◌≡◌, ◌∷◌, ℕ, List, [], Bool, refl, subst, Command, EndpointState, Change, Places, Header, ring_having, RingRecord, Known, changed_by, changed_by_all, in_state, moved, pointed, FollowsRings, DeviceRecord, MayChangeAll, MayPoint, MayMoveTo, ring_placed, FollowsPlaces, HasDone, bound_moves, rings_same}

module _ (h : Header) (k : Known) (s i p : ℕ) (cycle : Bool) where
  pub pointed_ring : (pointed h k s i p cycle).ring ≡ (moved h k (ring_placed k s i (ring_having h p)) p cycle).ring
  unfolding pointed
  pointed_ring = search (rules, bound_moves)

  pub may_move : MayPoint h k s i p cycle → MayMoveTo h k (ring_placed k s i (ring_having h p)) p cycle
  may_move may = search rules

  pub placed_rings : (c : Command) (state : EndpointState) (rs : List RingRecord) → FollowsRings h (pointed h k s i p cycle) rs → FollowsRings h (changed_by h c k (Places s i p cycle state)) rs
  unfolding changed_by in_state
  placed_rings c state rs f = rings_same h (pointed h k s i p cycle) (changed_by h c k (Places s i p cycle state)) rs f refl

module _ (h : Header) (c : Command) (rs : List RingRecord) (d : DeviceRecord) where
  -- the next change is done
  pub one_done : (k : Known) (all left : List Change) (change : Change) → all ≡ change ∷ left → FollowsPlaces h (changed_by h c k change) rs d → MayChangeAll h c k all → HasDone h c k all left rs d
  unfolding changed_by_all
  one_done k all left change same f may = search rules

  pub all_done : (k : Known) (all : List Change) → HasDone h c k all [] rs d → FollowsPlaces h (changed_by_all h c k all) rs d
  unfolding changed_by_all
  all_done k all done = subst (λ (l : Known). FollowsPlaces h l rs d) done.same done.follows
