-- The records of rings where the ring with an ID has changed, by its number
use Rattle.event_rows.proofs.LowerLaws.{rules, ◌≡◌, ◌≤◌, ◌<◌, ◌==◌, ℕ, List, Bool, true, Option, None, Some, refl, sym, subst, arith, get_or, slice_get, slice_set, position, slice_get_within, Spot, after, number, Shape, RingView, Holds, Reaches, changed, declared, floor_number, ceiling, given_count, target, Ring, Header, IsHeader, command_id, command_ring, is_driver_kind, shape_of, RingRecord, FollowsRing, Known, next_command, on_ring, moved, held_at_ceiling, ring_here, ring_elsewhere, FollowsRings, MayMoveTo, ReachesTarget, number_in, set_on, IsNextGiven, command_id_is, found_at, read_at, IsOnRing, on_moved, on_held, one_at, rings_elsewhere, rings_with}
use Rattle.event_rows.proofs.CommandCompletions.OneRing.{ring_shape}

module _ (h : Header) (headed : IsHeader h) (k : Known) (rs : List RingRecord) (f : FollowsRings h k rs) where
  -- the ring with ID r stands at this number, and its record is a new one
  module _ (n r : ℕ) (e : position (λ ring. ring.id == r) h.rings ≡ Some n) (ring : Ring) (at : slice_get h.rings n ≡ Some ring) (old : RingRecord) (there : slice_get rs n ≡ Some old) (new : RingRecord) where
    named : ring.id ≡ r
    named = search (rules, found_at, one_at)

    with_number : (l : Known) (view : Shape → RingView) → IsOnRing k l r (view (shape_of h r)) →
        (FollowsRing ring.shape (k.ring r) old → FollowsRing ring.shape (view ring.shape) new) → FollowsRings h l (slice_set rs n new)
    with_number l view on step =
        rings_with h headed k l r (view (shape_of h r)) on rs f n ring at named new (λ driver.
        subst (λ shape. FollowsRing ring.shape (view shape) new) (sym (ring_shape h headed k l r (view (shape_of h r)) on rs f n ring at named))
        (step (subst (λ i. FollowsRing ring.shape (k.ring i) old) named (f.each n ring old at there driver))))

    at_target : (p : ℕ) (cycle : Bool) → ReachesTarget (shape_of h r) (k.ring r) p cycle →
        ((v : RingView) → FollowsRing ring.shape v old → ReachesTarget ring.shape v p cycle → FollowsRing ring.shape (set_on ring.shape v (target ring.shape v p cycle)) new) →
        FollowsRings h (moved h k (Some r) p cycle) (slice_set rs n new)
    at_target p cycle reaches step =
        let on = on_moved h k r p cycle in
        with_number (moved h k (Some r) p cycle) (λ shape. set_on shape (k.ring r) (target shape (k.ring r) p cycle)) on
        (λ follows. step (k.ring r) follows (subst (λ shape. ReachesTarget shape (k.ring r) p cycle) (ring_shape h headed k (moved h k (Some r) p cycle) r _ on rs f n ring at named) reaches))

    at_ceiling : ((v : RingView) → FollowsRing ring.shape v old → FollowsRing ring.shape (changed ring.shape v (Holds (ceiling ring.shape v))) new) →
        FollowsRings h (held_at_ceiling h k (Some r)) (slice_set rs n new)
    at_ceiling step =
        with_number (held_at_ceiling h k (Some r)) (λ shape. changed shape (k.ring r) (Holds (ceiling shape (k.ring r)))) (on_held h k r) (λ follows. step (k.ring r) follows)

  -- ---- by the number that is found, if one is

  pub moved_without : (o : Option ℕ) (p : ℕ) (cycle : Bool) → number_in h.rings o ≡ None → FollowsRings h (moved h k o p cycle) rs
  unfolding moved
  moved_without None p cycle none = f
  moved_without (Some r) p cycle none = rings_elsewhere h headed k (moved h k (Some r) p cycle) r _ (on_moved h k r p cycle) rs f none

  pub held_without : (o : Option ℕ) → number_in h.rings o ≡ None → FollowsRings h (held_at_ceiling h k o) rs
  unfolding held_at_ceiling
  held_without None none = f
  held_without (Some r) none = rings_elsewhere h headed k (held_at_ceiling h k (Some r)) r _ (on_held h k r) rs f none

  module _ (n : ℕ) (old : RingRecord) (there : slice_get rs n ≡ Some old) (new : RingRecord) where
    pub moved_with : (o : Option ℕ) (p : ℕ) (cycle : Bool) → number_in h.rings o ≡ Some n → (ring : Ring) → slice_get h.rings n ≡ Some ring → MayMoveTo h k o p cycle →
        ((v : RingView) → FollowsRing ring.shape v old → ReachesTarget ring.shape v p cycle → FollowsRing ring.shape (set_on ring.shape v (target ring.shape v p cycle)) new) →
        FollowsRings h (moved h k o p cycle) (slice_set rs n new)
    moved_with None p cycle e ring at may step = absurd (cc)
    moved_with (Some r) p cycle e ring at may step = at_target n r e ring at old there new p cycle (may r refl) step

    pub held_with : (o : Option ℕ) → number_in h.rings o ≡ Some n →
        ((shape : Shape) (v : RingView) → FollowsRing shape v old → FollowsRing shape (changed shape v (Holds (ceiling shape v))) new) →
        FollowsRings h (held_at_ceiling h k o) (slice_set rs n new)
    held_with None e step = absurd (cc)
    held_with (Some r) e step = search (rules, found_at, at_ceiling, found_at (λ q. q.id == r) h.rings n e)

-- the command ring, behind its next command
module _ (h : Header) (headed : IsHeader h) (k : Known) (rs : List RingRecord) (f : FollowsRings h k rs) (n : ℕ) (ring : Ring) (at : slice_get h.rings n ≡ Some ring)
    (driver : is_driver_kind ring.shape.kind ≡ true) (command : command_ring h ≡ Some ring) (old : RingRecord) (there : old ≡ get_or rs n old) (new : RingRecord) (t : Spot)
    (floor : (v : RingView) → FollowsRing ring.shape v old → t ≡ v.floor)
    (step : (v : RingView) → FollowsRing ring.shape v old → floor_number v ≤ number t → number t < given_count ring.shape v → number t < declared v →
    FollowsRing ring.shape (changed ring.shape v (Reaches (after ring.shape (number t)))) new) (next : IsNextGiven h k) where
  id_is : ring.id ≡ command_id h
  id_is = sym (command_id_is h ring command)

  behind : Shape → RingView
  behind shape = changed shape (k.ring (command_id h)) (Reaches (after shape (next_command h k)))

  on_command : IsOnRing k (on_ring h k (command_id h) (Reaches (after (shape_of h (command_id h)) (next_command h k)))) (command_id h) (behind (shape_of h (command_id h)))
  unfolding behind
  on_command = search (rules, ring_here, ring_elsewhere)

  shape_is : shape_of h (command_id h) ≡ ring.shape
  shape_is = ring_shape h headed k (on_ring h k (command_id h) (Reaches (after (shape_of h (command_id h)) (next_command h k)))) (command_id h) (behind (shape_of h (command_id h))) on_command rs f n ring at id_is

  stepped : FollowsRing ring.shape (behind ring.shape) new
  unfolding behind next_command
  stepped =
      let v : RingView = k.ring (command_id h) in
      let known = read_at rs rs n old refl (omega (arith, f.as_many, slice_get_within h.rings n ring at)) there in
      let follows : FollowsRing ring.shape v old = subst (λ i. FollowsRing ring.shape (k.ring i) old) id_is (f.each n ring old at known driver) in
      grind (arith, shape_is, FollowsRing)

  pub passed_with : FollowsRings h (on_ring h k (command_id h) (Reaches (after (shape_of h (command_id h)) (next_command h k)))) (slice_set rs n new)
  passed_with = search (rules, rings_with, on_ring, command_id, after, shape_of, next_command, on_command, id_is, shape_is, stepped)
