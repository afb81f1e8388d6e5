-- The changes of a command's success, one after the other: each is possible, and the rings go as they should, also one that is bound or moved
use Rattle.safety.proofs.UpperLaws.{world_typed, known_typed, Types, [], ◌≡◌, ◌==◌, ◌&&◌, if◌then◌else◌, ◌∷◌, ◌∙◌, ℕ, not, Bool, false, List, Option, Some, None, option_and_then, refl, sym, ap, subst, eq-eqb, rules, and_from, and_parts, or_parts, or_from, false≢true, false_from_ne_true, not_from_false, none-some, Spot, is_open, Command, Stopped, Change, SlotGoesOn, DeviceLeft, Disables, Places, Stops, Resets, Header, command_id, is_ring, World, Known, on_ring, ring_here, ring_elsewhere, StatesMatch, ChangeKeeps, none_keeps, both_keep, IsNoPlacing, AreNoPlacings, cond_is, put_off, none_in_range, world_changed_by, world_changed_by_all, world_disabled, has_one_of, world_in_state, inactive, known_changed_by, known_changed_by_all, known_disabled, held_at_ceiling, known_in_state, is_placed_by_all, ring_placed, ◌≢◌, ◌<◌, ◌≤◌, true, find, arith, inl, inr, ne_eqb, list_any, range_with_len, cases_eq, cond-true, cond-false, not-true, same_Some, is_inside, RingView, IsSpot, number, rank, spot_address, ceiling, cases_option, rank_least, rank_most, EndpointState, is_off, Ring, IsHeader, shape_of, id_of, is_transfer_kind, ring_having, IsIn, IsTransferRing, RingState, state_of, BoundRing, found_in, shape_is, ring_shape, transfer_driver, transfer_not_command, MoveSpot, move_spot, transfer_ring, having_transfer, Ready, bound_spot, floor_number, moved_having, spot_inside, MayBind, MayMove, bind_keeps, move_keeps, binds_placed, moves_placed, placed_state, placed_world, placed_world_is, placed_here, placed_elsewhere, rest_active, rest_still, PlacedTo, is_had_by_another, placed, placed_on, StandsAt, IsActiveIfOpen, HadBefore, AtFloors, RingsGo, one_spot, ring_is, is_ring_is}
use Rattle.safety.proofs.Finishes.FinishSlots.{change_keeps}
use Rattle.safety.proofs.NoHarm.NoWait.{ceiling_held}
use Rattle.safety.proofs.LazyRuns.LooksRun.{stands_same}

module _ (h : Header) (c : Command) where
  -- one change
  pub record ChangeGoes (k : Known) (w : World) (change : Change) : Type 0 where
    pub world : World
    pub made : world_changed_by h c w change ≡ Some world
    pub keeps : ChangeKeeps h k (known_changed_by h c k change) w world
    pub goes : RingsGo h k (known_changed_by h c k change) world (λ r. is_ring r (ring_placed h k change))

  -- a list of them
  pub record ListGoes (k : Known) (w : World) (list : List Change) : Type 0 where
    pub world : World
    pub made : world_changed_by_all h c w list ≡ Some world
    pub keeps : ChangeKeeps h k (known_changed_by_all h c k list) w world
    pub goes : RingsGo h k (known_changed_by_all h c k list) world (λ r. is_placed_by_all h c k r list)

  pub no_change_goes : (k : Known) (w : World) → StatesMatch h k w → AtFloors h k w → ListGoes k w []
  unfolding world_changed_by_all known_changed_by_all is_placed_by_all
  no_change_goes k w m at = search (rules, none_keeps)

  both_had : (k l m : Known) (r : ℕ) (two : HadBefore l m r) → HadBefore k l r → HadBefore k m r
  both_had k l m r two one = record { slot = one.slot; index = one.index; had = one.had; floor = two.floor ∙ one.floor }

  pub change_then_goes : (k : Known) (w : World) (change : Change) (rest : List Change) → (one : ChangeGoes k w change) → ListGoes (known_changed_by h c k change) one.world rest → ListGoes k w (change ∷ rest)
  unfolding world_changed_by_all known_changed_by_all is_placed_by_all
  change_then_goes k w change rest one two =
      let l : Known = known_changed_by h c k change in
      let m : Known = known_changed_by_all h c l rest in
      record {
        world = two.world;
        made = ap (λ o. option_and_then (λ v. world_changed_by_all h c v rest) o) one.made ∙ two.made;
        keeps = both_keep h k l m w one.world two.world one.keeps.rest two.keeps;
        goes = record {
          at_floors = two.goes.at_floors;
          had = λ s i r has other.
              let parts = or_parts (is_ring r (ring_placed h k change)) (is_placed_by_all h c l r rest) other in
              let there : HadBefore l m r = two.goes.had s i r has parts.1 in
              both_had k l m r there (one.goes.had there.slot there.index r there.had parts.0);
          not_command = or_from (is_ring (command_id h) (ring_placed h k change)) (is_placed_by_all h c l (command_id h) rest) one.goes.not_command two.goes.not_command;
        };
      }

  -- ---- a change that places nothing

  -- it moves no pointer and no floor, and an open ring stays active
  record LeavesRings (k l : Known) (w v : World) : Type 0 where
    had : (s i r : ℕ) → l.ring_of s i ≡ Some r → k.ring_of s i ≡ Some r
    floor : (r : ℕ) → (l.ring r).floor ≡ (k.ring r).floor
    pointer : v.pointer_of ≡ w.pointer_of
    cycle : v.cycle_state ≡ w.cycle_state
    events : v.events ≡ w.events
    active : (s i r : ℕ) → l.ring_of s i ≡ Some r → IsActiveIfOpen k w r → IsActiveIfOpen l v r

  stands_still : (w v : World) (r : ℕ) (t : Spot) → v.pointer_of ≡ w.pointer_of → v.cycle_state ≡ w.cycle_state → v.events ≡ w.events → StandsAt h w r t → StandsAt h v r t
  stands_still w v r t pointer cycle events at = search rules

  rings_left : (k l : Known) (w v : World) (placed : ℕ → Bool) → LeavesRings k l w v → AtFloors h k w → placed (command_id h) ≡ false → RingsGo h k l v placed
  rings_left k l w v placed x at none = record {
    at_floors = record {
      floors = λ s i r has. subst (λ t. StandsAt h v r t) (sym (x.floor r)) (stands_still w v r (k.ring r).floor x.pointer x.cycle x.events (at.floors s i r (x.had s i r has)));
      active = λ s i r has. x.active s i r has (at.active s i r (x.had s i r has));
    };
    had = λ s i r has other. record { slot = s; index = i; had = x.had s i r has; floor = x.floor r };
    not_command = none;
  }

  module _ (k : Known) (w : World) (m : StatesMatch h k w) (at : AtFloors h k w) where
    -- from what the change makes of the world
    goes_to : (change : Change) (v : World) → IsNoPlacing change → world_changed_by h c w change ≡ Some v → LeavesRings k (known_changed_by h c k change) w v →
        is_ring (command_id h) (ring_placed h k change) ≡ false → ChangeGoes k w change
    goes_to change v plain made leaves none = search (rules, change_keeps, rings_left)

    slot_goes : (s : ℕ) → ChangeGoes k w (SlotGoesOn s)
    unfolding world_changed_by known_changed_by ring_placed
    slot_goes s = goes_to (SlotGoesOn s) _ tt refl (search rules) refl

    device_goes : (s : ℕ) → ChangeGoes k w (DeviceLeft s)
    unfolding world_changed_by known_changed_by ring_placed
    device_goes s = goes_to (DeviceLeft s) _ tt refl (search rules) refl

    types_goes : (s : ℕ) (which isochronous : ℕ → Bool) → ChangeGoes k w (Types s which isochronous)
    unfolding world_changed_by known_changed_by ring_placed world_typed known_typed
    types_goes s which isochronous = goes_to (Types s which isochronous) _ tt refl (search rules) refl

    reset_goes : (s i : ℕ) → ChangeGoes k w (Resets s i)
    unfolding world_changed_by known_changed_by ring_placed world_in_state known_in_state
    reset_goes s i = goes_to (Resets s i) _ tt refl (search rules) refl

    -- ---- endpoints are disabled

    module _ (s : ℕ) (which : ℕ → Bool) where
      -- a ring that an endpoint still has isn't that of one that is disabled
      not_let_go : (z j r : ℕ) → (z == s && which j) ≡ false → k.ring_of z j ≡ Some r → has_one_of w s which r ≡ false
      unfolding has_one_of
      not_let_go z j r stays has =
          none_in_range (λ i. which i && is_ring r (w.ring_of s i)) 1 31
          (λ i low high. false_from_ne_true (which i && is_ring r (w.ring_of s i)) (λ both.
          let parts = and_parts (which i) (is_ring r (w.ring_of s i)) both in
          let same = m.one_endpoint s i z j r (sym (m.ring_of s i) ∙ ring_is r (w.ring_of s i) parts.1) has in
          false≢true (sym stays ∙ and_from (z == s) (which j) (eq-eqb z s (sym same.0)) (ap which (sym same.1) ∙ parts.0))))

      disable_goes : ChangeGoes k w (Disables s which)
      unfolding world_changed_by known_changed_by ring_placed world_disabled known_disabled
      disable_goes = goes_to (Disables s which) _ tt refl (search (rules, cond_is, none-some, and_from, not_from_false, not_let_go)) refl

    -- ---- an endpoint is stopped

    none_stops : (s i : ℕ) → LeavesRings k (known_in_state h k s i Stopped) w (world_in_state w s i Stopped)
    unfolding world_in_state known_in_state
    none_stops s i = record { had = λ z j r has. has; floor = λ r. refl; pointer = refl; cycle = refl; events = refl; active = λ z j r has was opened. was opened }

    stop_goes : (s i : ℕ) → ChangeGoes k w (Stops s i)
    unfolding world_changed_by known_changed_by ring_placed inactive held_at_ceiling world_in_state known_in_state on_ring is_open
    stop_goes s i = goes_to (Stops s i) _ tt refl (search (rules, false≢true, is_open, ring_here, put_off, ring_elsewhere, none_stops, m.ring_of)) refl

    pub change_goes : (change : Change) → IsNoPlacing change → ChangeGoes k w change
    change_goes (SlotGoesOn s) plain = search (rules, slot_goes)
    change_goes _ plain = search (rules, slot_goes, device_goes, types_goes, disable_goes, stop_goes, reset_goes)

  pub changes_go : (list : List Change) → AreNoPlacings list → (k : Known) (w : World) → StatesMatch h k w → AtFloors h k w → ListGoes k w list
  changes_go [] plain k w m at = no_change_goes k w m at
  changes_go (change ∷ rest) plain k w m at =
      let one : ChangeGoes k w change = change_goes k w m at change plain.0 in
      change_then_goes k w change rest one (changes_go rest plain.1 (known_changed_by h c k change) one.world one.keeps.states one.goes.at_floors)

-- a search among what has one that passes finds one
finds_one : {X : Type 0} (p : X → Bool) (xs : List X) (x : X) → IsIn x xs → p x ≡ true → find p xs ≡ None → ⊥
finds_one p [] x at passes none = at
finds_one p (y ∷ ys) x at passes none = grind (arith, cond_is (p y) (Some y) (find p ys) None none, none-some, finds_one p ys x)

no_id : (o : Option Ring) → id_of o ≡ None → o ≡ None
no_id o none = grind (arith, none-some)

module _ (h : Header) (is : IsHeader h) where
  none_has : (p r : ℕ) (t : Spot) → IsTransferRing h r → IsSpot (shape_of h r) t → spot_address (shape_of h r) t ≡ p → ring_having h p ≡ None → ⊥
  unfolding ring_having
  none_has p r t transfer is_spot at none =
      let inside : is_inside transfer.ring.shape p ≡ true =
      ap (λ x. is_inside x p) (sym (shape_is h r transfer.ring transfer.found)) ∙ ap (λ a. is_inside (shape_of h r) a) (sym at) ∙ spot_inside (shape_of h r) (ring_shape h is r (transfer_driver h r transfer)).is t is_spot in
      finds_one (λ x. is_transfer_kind x.shape.kind && is_inside x.shape p) h.rings transfer.ring (found_in (λ x. x.id == r) h.rings transfer.ring transfer.found).0
      (and_from (is_transfer_kind transfer.ring.shape.kind) (is_inside transfer.ring.shape p) transfer.kind inside)
      (no_id (find (λ x. is_transfer_kind x.shape.kind && is_inside x.shape p) h.rings) none)

  -- the transfer ring that has an address is found by it
  having : (p r : ℕ) (t : Spot) → IsTransferRing h r → IsSpot (shape_of h r) t → spot_address (shape_of h r) t ≡ p → ring_having h p ≡ Some r
  having p r t transfer is_spot at = grind (arith, cases_option (ring_having h p), none_has p r t transfer is_spot at, moved_having h is p r)

  -- another endpoint has no ring that is one endpoint's alone
  unshared : (k : Known) (w : World) (s i r : ℕ) → StatesMatch h k w → ((z j : ℕ) → k.ring_of z j ≡ Some r → (z ≡ s) × (j ≡ i)) → is_had_by_another w s i r ≡ false
  unfolding is_had_by_another
  unshared k w s i r m only =
      none_in_range (λ t. list_any (λ j. not (t == s && j == i) && is_ring r (w.ring_of t j)) (range_with_len 1 31)) 1 255
      (λ t low high. none_in_range (λ j. not (t == s && j == i) && is_ring r (w.ring_of t j)) 1 31
      (λ j from to. false_from_ne_true (not (t == s && j == i) && is_ring r (w.ring_of t j)) (λ both.
      let parts = and_parts (not (t == s && j == i)) (is_ring r (w.ring_of t j)) both in
      let own = only t j (sym (m.ring_of t j) ∙ is_ring_is r (w.ring_of t j) parts.1) in
      false≢true (sym (not-true (t == s && j == i) parts.0) ∙ and_from (t == s) (j == i) (eq-eqb t s own.0) (eq-eqb j i own.1)))))

  module _ (c : Command) (k : Known) (w : World) (s i p : ℕ) (cycle : Bool) (state : EndpointState) (m : StatesMatch h k w) (at : AtFloors h k w) (r : ℕ) (t : Spot) (transfer : IsTransferRing h r)
      (is_spot : IsSpot (shape_of h r) t) (address : spot_address (shape_of h r) t ≡ p) (had : (q : ℕ) → k.ring_of s i ≡ Some q → q ≡ r)
      (only : (z j : ℕ) → k.ring_of z j ≡ Some r → (z ≡ s) × (j ≡ i)) (to : PlacedTo k (known_changed_by h c k (Places s i p cycle state)) s i r t state)
      (ring_is : ring_placed h k (Places s i p cycle state) ≡ Some r)
      (keep : (v : World) → world_changed_by h c w (Places s i p cycle state) ≡ Some v → ChangeKeeps h k (known_changed_by h c k (Places s i p cycle state)) w v) where
    l : Known
    l = known_changed_by h c k (Places s i p cycle state)

    active : ℕ → Bool
    active = rest_active w (w.ring_of s i)

    v : World
    v = placed_world w s i r p cycle state active

    other_than : r ≢ command_id h
    other_than same = transfer_not_command h is r transfer same

    made : world_changed_by h c w (Places s i p cycle state) ≡ Some v
    unfolding world_changed_by placed_on v active
    made =
        ap (λ o. placed_on w s i p cycle state o) (having p r t transfer is_spot address)
        ∙ cond-false (is_had_by_another w s i r) None (Some (placed w s i r p cycle state)) (unshared k w s i r m only)
        ∙ ap (λ x. Some x) (placed_world_is w s i r p cycle state (w.ring_of s i) refl)

    keeps : ChangeKeeps h k l w v
    unfolding l
    keeps = keep v made

    state_here : state_of v r ≡ placed_state (state_of w r) p (if cycle then 1 else 0)
    unfolding v
    state_here = placed_here w s i r p cycle state active

    state_elsewhere : (q : ℕ) → q ≢ r → state_of v q ≡ state_of w q
    unfolding v active
    state_elsewhere q other = search (rules, placed_elsewhere, rest_active, w.ring_of, rest_still, m.ring_of)

    floor_here : (l.ring r).floor ≡ t
    unfolding l
    floor_here = ap (λ (g : RingView). g.floor) to.here

    held_here : (l.ring r).held ≡ Some (number t)
    unfolding l
    held_here = ap (λ (g : RingView). g.held) to.here

    has_it : l.ring_of s i ≡ Some r
    unfolding l
    has_it = to.ring_of s i ∙ cond-true (s == s && i == i) (Some r) (k.ring_of s i) (and_from (s == s) (i == i) (eq-eqb s s refl) (eq-eqb i i refl))

    -- the ring stands at its floor: it is held there
    at_floor_by : BoundRing (shape_of h r) l.ring_of (l.ring r) (state_of v r) r → StandsAt h v r (l.ring r).floor
    at_floor_by b =
        let x = b.matches in
        let same : number b.spot ≡ number t = omega (arith, x.below, (ceiling_held (shape_of h r) (l.ring r) (number t) held_here), (subst (λ e. rank e ≤ rank b.spot) floor_here x.reached), rank_least t, rank_most b.spot) in
        let there : spot_address (shape_of h r) b.spot ≡ spot_address (shape_of h r) t = sym x.pointer ∙ ap (λ (g : RingState). g.pointer) state_here ∙ sym address in
        subst (λ e. StandsAt h v r e) ((one_spot (shape_of h r) (ring_shape h is r (transfer_driver h r transfer)).is b.spot t x.is_spot is_spot there same) ∙ sym floor_here) (record { is_spot = x.is_spot; pointer = x.pointer; cycle = x.cycle; next = x.next })

    at_floor : StandsAt h v r (l.ring r).floor
    at_floor = elim (keeps.states.rings r other_than) [ inl bound ↦ at_floor_by bound | inr free ↦ absurd (free.none s i has_it) ]

    -- another ring was had before
    had_before : (z j q : ℕ) → q ≢ r → l.ring_of z j ≡ Some q → k.ring_of z j ≡ Some q
    unfolding l
    had_before z j q other has = search (rules, l, cond_is, same_Some)

    view_elsewhere : (q : ℕ) → q ≢ r → l.ring q ≡ k.ring q
    unfolding l
    view_elsewhere q other = to.others q other

    floors : (z j q : ℕ) → l.ring_of z j ≡ Some q → StandsAt h v q (l.ring q).floor
    floors z j q has =
        elim (cases_eq q r) [
          | inl same ↦ subst (λ n. StandsAt h v n (l.ring n).floor) (sym same) at_floor
          | inr other ↦
              subst (λ (g : RingView). StandsAt h v q g.floor) (sym (view_elsewhere q other))
              (stands_same h w v q (k.ring q).floor (state_elsewhere q other) (at.floors z j q (had_before z j q other has)))
        ]

    still_active : (z j q : ℕ) → l.ring_of z j ≡ Some q → IsActiveIfOpen l v q
    unfolding is_open
    still_active z j q has opened =
        elim (cases_eq q r) [
          | inl same ↦ absurd (false≢true (sym (rw held_here refl) ∙ ap (λ n. is_open (l.ring n)) (sym same) ∙ opened))
          | inr other ↦
              ap (λ (g : RingState). g.active) (state_elsewhere q other)
              ∙ at.active z j q (had_before z j q other has) (ap (λ g. is_open g) (sym (view_elsewhere q other)) ∙ opened)
        ]

    placed_ring : (q : ℕ) → is_ring q (ring_placed h k (Places s i p cycle state)) ≡ false → q ≢ r
    placed_ring q none same = false≢true (sym none ∙ ap (is_ring q) ring_is ∙ eq-eqb r q (sym same))

    pub placed_goes : ChangeGoes h c k w (Places s i p cycle state)
    unfolding l
    placed_goes = record { world = v; made = made; keeps = keeps; goes = (search (rules, l, v, floors, still_active, placed_ring, had_before, view_elsewhere, ne_eqb, other_than)) }

  -- ---- a ring is bound, or moved

  module _ (c : Command) (k : Known) (w : World) (s i p : ℕ) (cycle : Bool) (state : EndpointState) (m : StatesMatch h k w) (at : AtFloors h k w) (numbered : (0 < s) × (s < 256) × (0 < i) × (i < 32)) where
    binds_ring : (r : ℕ) → is_off (k.endpoint_state s i) ≡ true → ring_having h p ≡ Some r → ring_placed h k (Places s i p cycle state) ≡ Some r
    unfolding ring_placed
    binds_ring r off named = cond-true (is_off (k.endpoint_state s i)) (ring_having h p) (k.ring_of s i) off ∙ named

    moves_ring : (r : ℕ) → is_off (k.endpoint_state s i) ≡ false → k.ring_of s i ≡ Some r → ring_placed h k (Places s i p cycle state) ≡ Some r
    unfolding ring_placed
    moves_ring r on has = cond-false (is_off (k.endpoint_state s i)) (ring_having h p) (k.ring_of s i) on ∙ has

    pub bind_goes : MayBind h k s i p cycle → ChangeGoes h c k w (Places s i p cycle state)
    bind_goes b =
        let e : Ready h k b.memory s i p cycle = b.ready in
        let r : ℕ = e.ring in
        let to : MoveSpot (shape_of h r) (k.ring r) p cycle (ceiling (shape_of h r) (k.ring r)) (floor_number (k.ring r)) = bound_spot h is k s i p cycle b in
        placed_goes c k w s i p cycle state m at r to.spot (transfer_ring h r (having_transfer h is p r e.named)) to.is_spot to.at (λ q had. absurd (none-some q (sym b.none ∙ had)))
        (λ z j had. absurd (e.free z j had)) (binds_placed h c k s i p cycle state is r to.spot e.off e.named to.named) (binds_ring r e.off e.named)
        (λ v made. bind_keeps h is c k w v s i p cycle state m numbered made b)

    pub move_goes : MayMove h k s i p cycle → ChangeGoes h c k w (Places s i p cycle state)
    move_goes x =
        let r : ℕ = x.ring in
        let allowed = (ring_shape h is r (transfer_driver h r x.transfer)).is in
        let to : MoveSpot (shape_of h r) (k.ring r) p cycle x.least x.most = move_spot (shape_of h r) allowed k.memory (k.ring r) x.keeps p cycle x.least x.most x.floor x.high x.moves in
        placed_goes c k w s i p cycle state m at r to.spot x.transfer to.is_spot to.at (λ q e. same_Some q r (sym e ∙ x.had)) (λ z j e. m.one_endpoint z j s i r e x.had)
        (moves_placed h c k s i p cycle state r to.spot x.on x.had to.named) (moves_ring r x.on x.had)
        (λ v made. move_keeps h is c k w v s i p cycle state m numbered made x)
