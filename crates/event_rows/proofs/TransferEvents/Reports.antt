-- Where a controller can have posted a Transfer Event
use Rattle.event_rows.proofs.Words.{arith, rules, ◌≡◌, ℕ, Bool, true, false, Option, Some, None, refl, ap, sym, ◌∙◌, subst, ◌==◌, ◌&&◌, ◌||◌, not, slice_get, position, nat_lt, option_and_then, if◌then◌else◌, option_map, eqb-true, false≢true, same_Some, none-some, Block, code, endpoint, slot, is_success, is_halting, is_trb_error, Spot, ceiling, is_data_below, is_stop_spot, RingView, floor_number, IsSpot, command_of, is_stop_of, is_off, RingKind, Ring, Header, IsHeader, command_id, is_command_kind, is_driver_kind, is_transfer_kind, shape_of, Known, RingRecord, FollowsRing, TraceRecord, FollowsTrace, RingSpot, command_at, event_at, next_command, spot_on, IsAmong, among_at, find_some, no_command_here, no_command_ring, untaken, ring_found, shape_there, can_report, can_report_at, is_impossible_transfer, is_in_profile, is_stopping_now, is_working, may_be_taken, DriverKeeps, IsDriverRing, IsTransferRing, number_of, found_at, none_found, command_found, command_id_is, is_stopping, is_of_service, code_told}
use Rattle.segments.specs.Ceiling.{named_by}
use Rattle.ring_knowledge.specs.Rings.{spot_named}

pub driven : (kind : RingKind) → is_transfer_kind kind ≡ true → is_driver_kind kind ≡ true
driven kind e = search rules

pub commanded : (kind : RingKind) → is_command_kind kind ≡ true → is_driver_kind kind ≡ true
commanded kind e = search rules

no_command : (kind : RingKind) → is_transfer_kind kind ≡ true → is_command_kind kind ≡ false
no_command kind e = search rules

-- what is asked of a report, in the order in which it is asked
in_order : (success below working failure stopping now spot : Bool) → (if success then below else if failure then below && working else stopping && (working && now && spot)) ≡
    (if success then below else if not working then false else if failure then below else if not stopping then false else if not now then false else spot)
in_order success below working failure stopping now spot = grind arith

module _ (h : Header) (headed : IsHeader h) (k : Known) (keeps : DriverKeeps h k) where
  -- ---- the ring of an endpoint

  -- its number is that of a transfer ring
  pub record IsEndpointRing (o : Option ℕ) (n : ℕ) : Type 0 where
    pub ring : Ring
    pub at : slice_get h.rings n ≡ Some ring
    pub has : o ≡ Some ring.id
    pub transfer : is_transfer_kind ring.shape.kind ≡ true

  module _ (s i : ℕ) where
    pub endpoint_ring_at : (n : ℕ) → Some n ≡ number_of h.rings (k.ring_of s i) → IsEndpointRing (k.ring_of s i) n
    endpoint_ring_at n is = by (k.ring_of s i) refl is
      where
        by : (o : Option ℕ) → k.ring_of s i ≡ o → Some n ≡ number_of h.rings o → IsEndpointRing o n
        by None has e = absurd (none-some n (sym e))
        by (Some r) has e =
            let found = found_at (λ ring. ring.id == r) h.rings n (sym e) in
            let id : found.0.id ≡ r = eqb-true found.0.id r found.2 in
            let known : IsTransferRing h r = keeps.states.transfer s i r has in
            search (rules, ring_found, among_at, same_Some)

    -- without one the endpoint has no ring
    pub no_endpoint_ring : None ≡ number_of h.rings (k.ring_of s i) → k.ring_of s i ≡ None
    no_endpoint_ring is = by (k.ring_of s i) refl is
      where
        by : (o : Option ℕ) → k.ring_of s i ≡ o → None ≡ number_of h.rings o → o ≡ None
        by None has e = refl
        by (Some r) has e =
            let known : IsTransferRing h r = keeps.states.transfer s i r has in
            let found = find_some (λ q. q.id == r) h.rings known.ring known.found in
            absurd (false≢true (sym (none_found (λ ring. ring.id == r) h.rings (sym e) known.ring found.0) ∙ found.1))

  module _ (b : Block) where
    -- one that tells of the service of its endpoint names none, nor does one whose endpoint has no ring
    pub served : is_of_service (code b) ≡ true → event_at h k b ≡ None
    unfolding event_at
    served serves = rw serves refl

    pub none_named : k.ring_of (slot b) (endpoint b) ≡ None → event_at h k b ≡ None
    unfolding event_at spot_on
    none_named none = search rules

    pub named_on : is_of_service (code b) ≡ false → (ring : Ring) → IsAmong ring h.rings → k.ring_of (slot b) (endpoint b) ≡ Some ring.id → (o : Option Spot) → o ≡ named_by ring.shape (k.ring ring.id) b →
        event_at h k b ≡ option_map (λ t. let x : RingSpot = record { ring = ring.id; spot = t } in x) o
    unfolding event_at spot_on spot_named
    named_on other ring among has o is = search (rules, shape_there)

  pub transfer_driver : (ring : Ring) → IsAmong ring h.rings → is_transfer_kind ring.shape.kind ≡ true → IsDriverRing h ring.id
  transfer_driver ring among transfer = record { ring = ring; found = ring_found h headed ring among; kind = driven ring.shape.kind transfer }

  -- what an event names by the record of the ring
  module _ (t : TraceRecord) (m : ℕ → ℕ) (f : FollowsTrace h k t m) (b : Block) (n : ℕ) (has : Some n ≡ number_of h.rings (k.ring_of (slot b) (endpoint b))) where
    abbrev pub its_ring : IsEndpointRing (k.ring_of (slot b) (endpoint b)) n
    its_ring = endpoint_ring_at (slot b) (endpoint b) n has

    pub its_record : (known : RingRecord) → slice_get t.rings.items n ≡ Some known → FollowsRing its_ring.ring.shape (k.ring its_ring.ring.id) known
    its_record known at = f.rings.each n its_ring.ring known its_ring.at at (driven its_ring.ring.shape.kind its_ring.transfer)

    its_floor : IsSpot its_ring.ring.shape (k.ring its_ring.ring.id).floor
    its_floor = grind (arith, among_at, shape_there, transfer_driver, among_at h.rings n its_ring.ring its_ring.at)

    pub event_names : is_of_service (code b) ≡ false → (q : Ring) (known : RingRecord) (o : Option Spot) → slice_get h.rings n ≡ Some q → slice_get t.rings.items n ≡ Some known →
        ((v : RingView) → FollowsRing q.shape v known → IsSpot q.shape v.floor → o ≡ named_by q.shape v b) →
        event_at h k b ≡ option_map (λ t. let x : RingSpot = record { ring = its_ring.ring.id; spot = t } in x) o
    event_names other q known o here at value =
        let same : its_ring.ring ≡ q = same_Some its_ring.ring q (sym its_ring.at ∙ here) in
        named_on b other its_ring.ring (among_at h.rings n its_ring.ring its_ring.at) its_ring.has o
        (subst (λ (x : Ring). ((v : RingView) → FollowsRing x.shape v known → IsSpot x.shape v.floor → o ≡ named_by x.shape v b)) (sym same) value (k.ring its_ring.ring.id) (its_record known at) its_floor)

  -- the command ring is no endpoint's
  pub not_command : (s i : ℕ) → k.ring_of s i ≡ Some (command_id h) → ⊥
  not_command s i has =
      let known : IsTransferRing h (command_id h) = keeps.states.transfer s i (command_id h) has in
      let found = find_some (λ q. q.id == command_id h) h.rings known.ring known.found in
      no_command_here h headed known.ring found.0 (no_command known.ring.shape.kind known.kind) (eqb-true known.ring.id (command_id h) found.1)

  -- ---- a Stop Endpoint that is finished next

  module _ (s i : ℕ) where
    -- without a command ring there is none
    pub no_stop : position (λ ring. is_command_kind ring.shape.kind) h.rings ≡ None → is_stopping_now h k s i ≡ false
    unfolding is_stopping_now
    no_stop none = rw (← untaken h headed k (no_command_ring h none) (λ used. absurd (no_driver (keeps.run.absent used)))) refl
      where
        no_driver : IsDriverRing h (command_id h) → ⊥
        no_driver is =
            let found = find_some (λ q. q.id == command_id h) h.rings is.ring is.found in
            no_command_here h headed is.ring found.0 (none_found (λ ring. is_command_kind ring.shape.kind) h.rings none is.ring found.0) (eqb-true is.ring.id (command_id h) found.1)

    pub stop_on : (n : ℕ) (ring : Ring) → slice_get h.rings n ≡ Some ring → is_command_kind ring.shape.kind ≡ true →
        is_stopping_now h k s i ≡ (nat_lt (floor_number (k.ring ring.id)) (ceiling ring.shape (k.ring ring.id)) && is_stop_of s i (option_and_then command_of (slice_get (k.ring ring.id).queue (floor_number (k.ring ring.id)))))
    unfolding is_stopping_now may_be_taken next_command command_at
    stop_on n ring at command =
        let among = among_at h.rings n ring at in
        search (rules, command_id_is h ring (command_found h headed ring among command), shape_there h headed ring among)

  -- ---- a report

  module _ (c s i r : ℕ) (t : Spot) where
    abbrev below : Bool
    below = is_data_below (ceiling (shape_of h r) (k.ring r)) t

    pub report_is : can_report h k c s i r t ≡
        (if is_success c then below else if not (is_working k s i r) then false else if is_halting c || is_trb_error c then below else if not (is_stopping c) then false
        else if not (is_stopping_now h k s i) then false else is_stop_spot (shape_of h r) (k.ring r) t)
    unfolding can_report
    report_is = in_order (is_success c) below (is_working k s i r) (is_halting c || is_trb_error c) (is_stopping c) (is_stopping_now h k s i) (is_stop_spot (shape_of h r) (k.ring r) t)

  pub reported_at : (b : Block) (r : ℕ) (t : Spot) (o : Option RingSpot) → o ≡ Some (record { ring = r; spot = t }) → can_report_at h k b o ≡ can_report h k (code_told h k b) (slot b) (endpoint b) r t
  unfolding can_report_at
  reported_at b r t o some = ap (λ p. can_report_at h k b p) some

  module _ (b : Block) where
    pub left_out : is_in_profile h k b ≡ false → is_impossible_transfer h k b ≡ false
    unfolding is_impossible_transfer
    left_out out = ap (λ p. p && (is_off (k.endpoint_state (slot b) (endpoint b)) || not (can_report_at h k b (event_at h k b)))) out
