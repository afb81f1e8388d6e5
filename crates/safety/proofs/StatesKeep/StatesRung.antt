-- A doorbell keeps what is known of states
use Rattle.safety.proofs.MiddleLaws.{[], ◌≡◌, ◌≢◌, ◌==◌, ◌&&◌, ◌||◌, ◌∙◌, ℕ, nat_lt, true, false, Option, None, Some, refl, sym, ap, eq-eqb, rules, cond_both, or_parts, or_cases, or_left, and_from, not-false, false≢true, put_pair, Shape, RingView, Opens, changed, is_step_given, is_way_given, given_count_same, StopEndpoint, EndpointState, Running, changes, is_running, is_stopped, Header, Bell, IsHeader, shape_of, command_id, Known, on_ring, next_command, endpoint_rung, rung, learned, touches_endpoint, is_touched, is_bad_bell, lenient, StatesKeep, DriverKeeps, arith, command_not_transfer, ring_here, ring_elsewhere, at_pair, unfinished_fails, endpoints_of, BellFacts, bell_facts, EndpointsStand, StopsNext, SeenStand, endpoints_part, slots_part, seen_part, from_parts, slots_same, OneEndpoint, OneSeen, one_stands, one_seen, BellLeaves, bell_leaves}
use Rattle.safety.proofs.StatesKeep.EndpointHistories.{row_keeps}
use Rattle.segments.proofs.Named.{ceiling_open}
use Rattle.safety.proofs.RingsKeep.KeptRings.{next_unfinished}
use Rattle.safety.proofs.RingsKeep.KeptCommands.{view_of, open_now}
use Rattle.safety.proofs.StatesKeep.StatesDriver.{ViewGoesOn, view_same, stops_on}

pub running_is : (e : EndpointState) → is_running e ≡ true → e ≡ Running
running_is o is = grind (arith, false≢true)

-- an open ring that is opened
opens_open : (shape : Shape) (v : RingView) → v.held ≡ None → ViewGoesOn shape v (changed shape v Opens)
unfolding is_step_given is_way_given
opens_open shape v none = search (rules, ceiling_open, given_count_same)

module _ (h : Header) where
  -- ---- the command ring's doorbell

  opened : (k : Known) → (r : ℕ) → ((on_ring h k r Opens).ring_of ≡ k.ring_of) × ((on_ring h k r Opens).endpoint_state ≡ k.endpoint_state) × ((on_ring h k r Opens).slot_state ≡ k.slot_state)
      × ((on_ring h k r Opens).device ≡ k.device) × ((on_ring h k r Opens).stop_seen ≡ k.stop_seen)
  unfolding on_ring
  opened k r = (refl, refl, refl, refl, refl)

  module _ (is : IsHeader h) (k : Known) (d : DriverKeeps h k) where
    not_command : (s i r : ℕ) → k.ring_of s i ≡ Some r → r ≢ command_id h
    not_command s i r at same = command_not_transfer h is ((endpoints_of h k d.states).transfer s i (command_id h) (at ∙ ap (λ n. Some n) same))

    command_seen : SeenStand h (on_ring h k (command_id h) Opens)
    command_seen =
        let l : Known = on_ring h k (command_id h) Opens in
        let same = opened k (command_id h) in
        let seen : SeenStand h k = seen_part h k d.states in
        search (rules, stops_on, shape_of, command_id, ring_here, opens_open, open_now, view_of, ring_elsewhere, not_command)

    -- ---- the doorbell of an endpoint

    -- no Stopped event of it was read: its Stop Endpoint would be unfinished
    pub stop_touches : (s i : ℕ) → touches_endpoint h k s i (StopEndpoint s i) ≡ true
    unfolding touches_endpoint changes
    stop_touches s i = or_left (s == s && i == i) false (and_from (s == s) (i == i) (eq-eqb s s refl) (eq-eqb i i refl))

    no_stop : (s i : ℕ) → k.started ≡ true → is_touched h k s i ≡ false → k.stop_seen s i ≡ true → ⊥
    unfolding is_touched
    no_stop s i started none seen =
        let stops : StopsNext h k s i = (seen_part h k d.states).command s i seen in
        let u = next_unfinished h is k d started stops.below (StopEndpoint s i) stops.command in
        false≢true (sym (unfinished_fails h k (touches_endpoint h k s i) (next_command h k) (StopEndpoint s i) none u) ∙ stop_touches s i)

    rung_state : (s t r : ℕ) → (is_running (k.endpoint_state s t) || is_stopped (k.endpoint_state s t)) ≡ true → (endpoint_rung h k s t (Some r)).endpoint_state s t ≡ Running
    unfolding endpoint_rung
    rung_state s t r may = search (rules, at_pair, or_cases, running_is, false≢true)

    rung_others : (s t r q j : ℕ) → (q ≡ s → j ≡ t → ⊥) → (endpoint_rung h k s t (Some r)).endpoint_state q j ≡ k.endpoint_state q j
    unfolding endpoint_rung
    rung_others s t r q j other = search (rules, is_stopped, k.endpoint_state, put_pair, at_pair)

    rung_rest : (s t r : ℕ) → ((endpoint_rung h k s t (Some r)).ring_of ≡ k.ring_of) × ((endpoint_rung h k s t (Some r)).stop_seen ≡ k.stop_seen) × ((endpoint_rung h k s t (Some r)).ring ≡ (on_ring h k r Opens).ring)
    unfolding endpoint_rung on_ring
    rung_rest s t r = (refl, refl, refl)

    -- the endpoint may be rung
    record MayRing (s t : ℕ) : Type 0 where
      pub state : (is_running (k.endpoint_state s t) || is_stopped (k.endpoint_state s t)) ≡ true
      pub untouched : is_touched h k s t ≡ false

    endpoint_stands : (s t : ℕ) (o : Option ℕ) → k.started ≡ true → k.ring_of s t ≡ o → MayRing s t → EndpointsStand (endpoint_rung h k s t o) × SeenStand h (endpoint_rung h k s t o)
    unfolding endpoint_rung
    endpoint_stands s t None started at may = (endpoints_part h k d.states, seen_part h k d.states)
    endpoint_stands s t (Some r) started at may =
        let l : Known = endpoint_rung h k s t (Some r) in
        let rest = rung_rest s t r in
        let e : EndpointsStand k = endpoints_part h k d.states in
        let one : OneEndpoint k l s t r = (search (rules, rung_rest, rung_state, rung_others, ring_elsewhere)) in
        let command : l.ring (command_id h) ≡ k.ring (command_id h) =
        ap (λ f. f (command_id h)) rest.2 ∙ ring_elsewhere h k r (command_id h) Opens (λ same. not_command s t r at (sym same)) in
        let own : OneSeen h k l s t r =
        record { others = λ q j other. ap (λ f. f q j) rest.1; here = λ seen. absurd (no_stop s t started may.untouched (ap (λ f. f s t) (sym rest.1) ∙ seen)) } in (
          one_stands k l s t r e one,
          one_seen k l s t r e one h (seen_part h k d.states) own (stops_on h k l (view_same (shape_of h (command_id h)) (k.ring (command_id h)) (l.ring (command_id h)) command)),
        )

    -- the command ring is that of no endpoint
    command_stands : EndpointsStand (on_ring h k (command_id h) Opens)
    unfolding on_ring
    command_stands =
        let e = endpoints_part h k d.states in
        record {
          no_endpoint = e.no_endpoint;
          off = e.off;
          on = e.on;
          one_endpoint = e.one_endpoint;
          open_runs = λ q i r at held. e.open_runs q i r at (sym (ap (λ (v : RingView). v.held) (ring_elsewhere h k (command_id h) r Opens (not_command q i r at))) ∙ held);
        }

    both_stand : (s t : ℕ) → lenient h k (Bell s t) ≡ [] → EndpointsStand (learned h k (Bell s t)) × SeenStand h (learned h k (Bell s t))
    unfolding learned rung is_bad_bell
    both_stand s t clean =
        let facts : BellFacts h k s t = bell_facts h k s t clean in
        cond_both (s == 0) (on_ring h k (command_id h) Opens) (endpoint_rung h k s t (k.ring_of s t)) (λ l. EndpointsStand l × SeenStand h l)
        (λ first. (command_stands, command_seen))
        (λ other. endpoint_stands s t (k.ring_of s t) facts.started refl (search (rules, or_parts, nat_lt, not-false)))

    pub states_rung : (s t : ℕ) → lenient h k (Bell s t) ≡ [] → StatesKeep h (learned h k (Bell s t))
    states_rung s t clean =
        let l : Known = learned h k (Bell s t) in
        let same : BellLeaves k l = bell_leaves h k s t in
        let both = both_stand s t clean in
        from_parts h l (row_keeps h is k (Bell s t) (endpoints_of h k d.states)) both.0
        (slots_same k l same.slots.slot_state same.slots.ring_of same.memory.device (slots_part h k d.states)) both.1
