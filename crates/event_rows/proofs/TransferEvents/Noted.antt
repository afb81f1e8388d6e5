-- What a Transfer Event that can have been posted adds to the record of a trace
use Rattle.event_rows.proofs.LowerLaws.{rules, ◌≡◌, ℕ, List, true, false, Some, ap, sym, ◌∙◌, arith, subst, ◌||◌, none-some, same_Some, is_off, and_parts, Block, endpoint, slot, is_halting, is_success, is_transfer_code, is_trb_error, Spot, Shape, after, RingView, ceiling, is_data_below, is_stop_spot, RingKeeps, below_is, ceiling_within, given_count_declared, Header, IsHeader, command_id, shape_of, RingRecord, FollowsRing, Known, code_told, event_at, on_ring, spot_on, unfinished, passed, broken_off, stopped_at, transferred, transferred_at, transfer_read, FollowsDevices, DeviceRecord, Reaches, number, follows_beside, ring_here, ring_elsewhere, same_blocks, unfinished_same, transfer_stays, FollowsRings, IsAmong, among_at, shape_allowed, shape_there, can_report, is_impossible_transfer, is_in_profile, DriverKeeps, TraceRecord, FollowsTrace, NamedSpot, IsNamedAt, IsWithRecord, MayReport, reported, AreOffAs, IsBeside, IsOnly, followed, put_on, not_command, reported_at, transfer_driver}
use Rattle.driver_rows.proofs.DoorbellRows.Followed.{rings_with}
use Rattle.ring_knowledge.specs.Rings.{spot_named}
use Rattle.safety.proofs.Reports.NamedData.{spot_ahead}

-- ---- what changes

module _ (h : Header) (k : Known) (c s i r : ℕ) (t : Spot) where
  pub transferred_beside : IsBeside k (transferred h k c s i r t)
  unfolding transferred passed broken_off stopped_at on_ring
  transferred_beside = search rules

  -- the same endpoints are off, where that of the event isn't
  pub transferred_off : is_off (k.endpoint_state s i) ≡ false → AreOffAs k (transferred h k c s i r t)
  unfolding transferred passed broken_off stopped_at on_ring
  transferred_off on = search (rules, put_on)

  -- no other ring
  pub transferred_only : IsOnly k (transferred h k c s i r t) r
  unfolding transferred passed broken_off stopped_at
  transferred_only q other = search (rules, ring_elsewhere)

  -- the ring itself
  pub transferred_here : is_transfer_code c ≡ true → (transferred h k c s i r t).ring r ≡ reported (shape_of h r) (k.ring r) c t
  unfolding transferred passed broken_off stopped_at
  transferred_here coded = search (rules, ring_here)

  -- a success leaves endpoints as they are
  pub still_follows : is_success c ≡ true → (d : DeviceRecord) → FollowsDevices k d → FollowsDevices (transferred h k c s i r t) d
  unfolding transferred passed on_ring
  still_follows succeeds d f = rw succeeds (follows_beside k (on_ring h k r (Reaches (after (shape_of h r) (number t)))) d f)

-- ---- an event that can have been posted

module _ (h : Header) (k : Known) (c s i r : ℕ) (t : Spot) (can : can_report h k c s i r t ≡ true) where
  is_below : (is_success c || (is_halting c || is_trb_error c)) ≡ true → is_data_below (ceiling (shape_of h r) (k.ring r)) t ≡ true
  unfolding can_report
  is_below ends = search (rules, and_parts)

  is_stop : (is_success c || (is_halting c || is_trb_error c)) ≡ false → is_stop_spot (shape_of h r) (k.ring r) t ≡ true
  unfolding can_report
  is_stop stops = search (rules, and_parts)

  coded : is_transfer_code c ≡ true
  unfolding can_report
  coded = search (rules, and_parts)

module _ (h : Header) (headed : IsHeader h) (k : Known) (keeps : DriverKeeps h k) (b : Block) (in_ : is_in_profile h k b ≡ true) (fine : is_impossible_transfer h k b ≡ false) where
  -- how its code counts
  abbrev told : ℕ
  told = code_told h k b

  module _ (at : NamedSpot) (is : IsNamedAt h k b at) where
    abbrev shape : Shape
    shape = is.ring.shape

    abbrev view : RingView
    view = k.ring is.ring.id

    among : IsAmong is.ring h.rings
    among = among_at h.rings at.number is.ring is.here

    keeps_there : RingKeeps (shape_of h is.ring.id) k.memory view
    keeps_there = keeps.rings is.ring.id (transfer_driver h headed k keeps is.ring among is.transfer)

    ring_keeps : RingKeeps shape k.memory view
    ring_keeps = subst (λ s. RingKeeps s k.memory view) (shape_there h headed is.ring among) keeps_there

    can : can_report h k told (slot b) (endpoint b) is.ring.id at.spot ≡ true
    unfolding is_impossible_transfer
    can = search (rules, reported_at h headed k keeps b is.ring.id at.spot (event_at h k b) is.names)

    spot_is : spot_named h k b is.ring.id ≡ Some at.spot
    unfolding event_at spot_on
    spot_is = search (rules, none-some, same_Some)

    pub may_report : MayReport shape view told at.spot
    may_report = grind (
      arith,
      shape_there h headed is.ring among,
      spot_ahead h k b is.ring.id at.spot keeps_there spot_is,
      ceiling_within shape (shape_allowed h headed is.ring among) k.memory view ring_keeps,
      given_count_declared shape (shape_allowed h headed is.ring among) k.memory view ring_keeps,
      below_is (ceiling shape view) at.spot,
      is_below h k told (slot b) (endpoint b) is.ring.id at.spot can,
      is_stop h k told (slot b) (endpoint b) is.ring.id at.spot can,
    )

  module _ (before : TraceRecord) (m : ℕ → ℕ) (f : FollowsTrace h k before m) (at : NamedSpot) (is : IsNamedAt h k b at) where
    -- the whole record
    pub follows_read : (after : TraceRecord) → after ≡ record before { rings = after.rings; devices = after.devices } →
        IsWithRecord before.rings.items after.rings.items at.number is.ring.shape (reported is.ring.shape (k.ring is.ring.id) told at.spot) →
        FollowsDevices (transferred h k told (slot b) (endpoint b) is.ring.id at.spot) after.devices → FollowsTrace h (transfer_read h k b) after m
    unfolding transfer_read transferred_at is_impossible_transfer
    follows_read after rest with_ devices =
        let apart = transfer_stays h k b (not_command h headed k keeps) in
        let same : transfer_read h k b ≡ transferred h k told (slot b) (endpoint b) is.ring.id at.spot = ap (λ o. transferred_at h k b o) is.names in
        let among = among_at h.rings at.number is.ring is.here in
        let l : Known = transferred h k told (slot b) (endpoint b) is.ring.id at.spot in
        let unfinished_ : unfinished h l ≡ unfinished h k = unfinished_same h k l (same_blocks _ _ (ap (λ (x : Known). x.ring (command_id h)) (sym same) ∙ apart)) in
        let view = transferred_here h k told (slot b) (endpoint b) is.ring.id at.spot (coded h k told (slot b) (endpoint b) is.ring.id at.spot (can at is)) ∙ ap (λ s. reported s (k.ring is.ring.id) told at.spot) (shape_there h headed is.ring among) in
        let rings : FollowsRings h l after.rings.items =
        subst (λ (xs : List RingRecord). FollowsRings h l xs) (sym with_.items)
        (rings_with h headed k l before.rings.items f.rings at.number is.ring is.here (transferred_only h k told (slot b) (endpoint b) is.ring.id at.spot) with_.known
        (λ driver. subst (λ (v : RingView). FollowsRing is.ring.shape v with_.known) (sym view) with_.follows)) in
        subst (λ (x : Known). FollowsTrace h x after m) (sym same)
        (followed h k l before m f (transferred_beside h k told (slot b) (endpoint b) is.ring.id at.spot) (transferred_off h k told (slot b) (endpoint b) is.ring.id at.spot (search rules)) unfinished_ after rest rings devices)
