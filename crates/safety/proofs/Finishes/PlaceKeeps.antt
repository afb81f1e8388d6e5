-- A command's success places the ring of an endpoint, in the world as in what is known
use Rattle.safety.proofs.MiddleLaws.{◌≡◌, ◌≢◌, ◌<◌, ◌≤◌, if◌then◌else◌, ◌∙◌, ℕ, Bool, true, false, Some, None, arith, sym, subst, inl, inr, none-some, same_Some, Spot, IsSpot, spot_address, spot_cycle, IsShape, declared, floor_number, ceiling, is_move, is_placement, ceiling_within, given_count_declared, RingKeeps, place_count_pos, rank_least, rank_most, Command, EndpointState, Places, is_off, Header, IsHeader, shape_of, command_id, ring_having, World, Known, IsTransferRing, state_of, RingMatches, BoundRing, FreeRing, changed_by, rules, ring_shape, transfer_driver, transfer_not_command, having_transfer, transfer_ring, Ready, MoveSpot, move_spot, moved_having, set_view, placed_state, placed_matches, placed_unreported, rest_active, placed_world_is, rest_still, binds_placed, moves_placed, PlacedTo, placed_keeps, StatesMatch, ChangeKeeps}
use Rattle.safety.proofs.Finishes.PlacedWorld.{IsPlaced, placed_is}
use Rattle.world_state.specs.Bindings as bindings

-- an endpoint that is off, and has no ring, gets a free one where that stands still
pub record MayBind (h : Header) (k : Known) (s i p : ℕ) (cycle : Bool) : Type 0 where
  pub memory : ℕ → ℕ
  pub ready : Ready h k memory s i p cycle
  pub none : k.ring_of s i ≡ None

-- an endpoint's ring is moved to a spot behind all that its controller may have taken
pub record MayMove (h : Header) (k : Known) (s i p : ℕ) (cycle : Bool) : Type 0 where
  pub on : is_off (k.endpoint_state s i) ≡ false
  pub ring : ℕ
  pub had : k.ring_of s i ≡ Some ring
  pub transfer : IsTransferRing h ring
  pub keeps : RingKeeps (shape_of h ring) k.memory (k.ring ring)
  pub least : ℕ
  pub most : ℕ
  pub low : ceiling (shape_of h ring) (k.ring ring) ≤ least
  pub floor : floor_number (k.ring ring) ≤ least
  pub high : most ≤ declared (k.ring ring)
  pub moves : is_move (shape_of h ring) (k.ring ring) p cycle least most ≡ true

-- the spot at which the ring stands
pub bound_spot : (h : Header) → IsHeader h → (k : Known) (s i p : ℕ) (cycle : Bool) (b : MayBind h k s i p cycle) →
    MoveSpot (shape_of h b.ready.ring) (k.ring b.ready.ring) p cycle (ceiling (shape_of h b.ready.ring) (k.ring b.ready.ring)) (floor_number (k.ring b.ready.ring))
unfolding is_placement
bound_spot h is k s i p cycle b =
    let e : Ready h k b.memory s i p cycle = b.ready in
    let r : ℕ = e.ring in
    let allowed = (ring_shape h is r (transfer_driver h r (transfer_ring h r (having_transfer h is p r e.named)))).is in
    let within = ceiling_within (shape_of h r) allowed b.memory (k.ring r) e.keeps in
    let high = given_count_declared (shape_of h r) allowed b.memory (k.ring r) e.keeps in
    move_spot (shape_of h r) allowed b.memory (k.ring r) e.keeps p cycle (ceiling (shape_of h r) (k.ring r)) (floor_number (k.ring r)) within.0 (omega arith) e.placed

module _ (h : Header) (is : IsHeader h) (c : Command) (k : Known) (w v : World) (s i p : ℕ) (cycle : Bool) (state : EndpointState) (y : StatesMatch h k w)
    (numbered : (0 < s) × (s < 256) × (0 < i) × (i < 32)) (at : bindings.changed_by h c w (Places s i p cycle state) ≡ Some v) where
  x : IsPlaced w v s i p cycle state (ring_having h p)
  unfolding bindings.changed_by
  x = placed_is w v s i p cycle state (ring_having h p) at

  module _ (r : ℕ) (same : x.ring ≡ r) (allowed : IsShape (shape_of h r)) (t : Spot) (is_spot : IsSpot (shape_of h r) t) (not_command : r ≢ command_id h) (had : (q : ℕ) → k.ring_of s i ≡ Some q → q ≡ r)
      (only : (z j : ℕ) → k.ring_of z j ≡ Some r → (z ≡ s) × (j ≡ i)) (l : Known) (to : PlacedTo k l s i r t state)
      (address : spot_address (shape_of h r) t ≡ p) (turn : spot_cycle (shape_of h r) t ≡ (if cycle then 1 else 0)) where
    at_spot : RingMatches (shape_of h r) (set_view (k.ring r) t) (placed_state (state_of w r) (spot_address (shape_of h r) t) (spot_cycle (shape_of h r) t)) t → ChangeKeeps h k l w v
    at_spot m =
        let here : RingMatches (shape_of h r) (set_view (k.ring r) t) (placed_state (state_of w r) p (if cycle then 1 else 0)) t =
        subst (λ n. RingMatches (shape_of h r) (set_view (k.ring r) t) (placed_state (state_of w r) p n) t) turn
        (subst (λ a. RingMatches (shape_of h r) (set_view (k.ring r) t) (placed_state (state_of w r) a (spot_cycle (shape_of h r) t)) t) address m) in
        let still : (q : ℕ) → q ≢ r → rest_active w (w.ring_of s i) q ≡ w.is_active q = λ q other. rest_still w (w.ring_of s i) r q (λ q e. had q (sym (y.ring_of s i) ∙ e)) other in
        subst (λ u. ChangeKeeps h k l w u) (search (rules, placed_world_is, w.ring_of, x))
        (placed_keeps h k l w s i r p cycle state (rest_active w (w.ring_of s i)) t to not_command had still only numbered here
        (placed_unreported (shape_of h r) allowed t is_spot (k.ring r) (state_of w r) p (if cycle then 1 else 0)) y)

  -- a ring is bound
  bound_at : (b : MayBind h k s i p cycle) → FreeRing (shape_of h b.ready.ring) k.ring_of (k.ring b.ready.ring) (state_of w b.ready.ring) b.ready.ring → ChangeKeeps h k (changed_by h c k (Places s i p cycle state)) w v
  bound_at b free =
      let e : Ready h k b.memory s i p cycle = b.ready in
      let r : ℕ = e.ring in
      let transfer : IsTransferRing h r = transfer_ring h r (having_transfer h is p r e.named) in
      let allowed = (ring_shape h is r (transfer_driver h r transfer)).is in
      let some = place_count_pos (shape_of h r) allowed in
      let to : MoveSpot (shape_of h r) (k.ring r) p cycle (ceiling (shape_of h r) (k.ring r)) (floor_number (k.ring r)) = bound_spot h is k s i p cycle b in
      at_spot r (same_Some x.ring r (sym x.found ∙ e.named)) allowed to.spot to.is_spot (transfer_not_command h is r transfer) (λ q had. absurd (none-some q (sym b.none ∙ had))) (λ z j had. absurd (e.free z j had))
      (changed_by h c k (Places s i p cycle state)) (binds_placed h c k s i p cycle state is r to.spot e.off e.named to.named) to.at to.cycle_is
      (placed_matches (shape_of h r) allowed to.spot to.is_spot (k.ring r) (state_of w r) (omega (arith, free.to, to.from)) (omega (arith, free.from, to.to, some))
      to.border to.way free.rests.in_order free.rests.as_declared)

  pub bind_keeps : MayBind h k s i p cycle → ChangeKeeps h k (changed_by h c k (Places s i p cycle state)) w v
  bind_keeps b =
      elim (y.rings b.ready.ring (transfer_not_command h is b.ready.ring (transfer_ring h b.ready.ring (having_transfer h is p b.ready.ring b.ready.named)))) [
        | inl bound ↦ absurd (b.ready.free bound.slot bound.index bound.bound)
        | inr free ↦ bound_at b free
      ]

  -- a ring is moved
  moved_at : (m : MayMove h k s i p cycle) → BoundRing (shape_of h m.ring) k.ring_of (k.ring m.ring) (state_of w m.ring) m.ring → ChangeKeeps h k (changed_by h c k (Places s i p cycle state)) w v
  moved_at m b =
      let r : ℕ = m.ring in
      let allowed = (ring_shape h is r (transfer_driver h r m.transfer)).is in
      let to : MoveSpot (shape_of h r) (k.ring r) p cycle m.least m.most = move_spot (shape_of h r) allowed k.memory (k.ring r) m.keeps p cycle m.least m.most m.floor m.high m.moves in
      let same : x.ring ≡ r = moved_having h is p r x.ring to.spot m.transfer to.is_spot to.at x.found in
      let before = b.matches in
      at_spot r same allowed to.spot to.is_spot (transfer_not_command h is r m.transfer) (λ q e. same_Some q r (sym e ∙ m.had)) (λ z j e. y.one_endpoint z j s i r e m.had)
      (changed_by h c k (Places s i p cycle state)) (moves_placed h c k s i p cycle state r to.spot m.on m.had to.named) to.at to.cycle_is
      (placed_matches (shape_of h r) allowed to.spot to.is_spot (k.ring r) (state_of w r)
      (omega (arith, before.next, before.below, m.low, to.from))
      (omega (arith, before.next, before.reached, rank_least (k.ring r).floor, rank_most b.spot, m.keeps.room, to.to, m.high))
      to.border to.way before.in_order before.as_declared)

  pub move_keeps : MayMove h k s i p cycle → ChangeKeeps h k (changed_by h c k (Places s i p cycle state)) w v
  move_keeps m =
      elim (y.rings m.ring (transfer_not_command h is m.ring m.transfer)) [
        | inl bound ↦ moved_at m bound
        | inr free ↦ absurd (free.none s i m.had)
      ]
