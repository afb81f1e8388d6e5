-- What the success of an unfinished command changes fits the endpoints
use Rattle.safety.proofs.MiddleLaws.{typed, [], ◌≡◌, ◌≢◌, ◌≤◌, ◌∷◌, ◌∙◌, ℕ, nat_le, Bool, true, false, List, map, All, Some, is_some, arith, refl, sym, ap, get_or, leb-true, rules, list_any, and_parts, or_parts, false≢true, All-head, All-tail, Command, ConfigureEndpoint, ResetEndpoint, StopEndpoint, SetTrDequeue, SlotState, Disabled, EndpointState, Running, Halted, Change, changes, placed_by_context, named_slot, named_endpoint, slot_success, endpoint_success, slot_meant, endpoint_meant, is_slot_enabled, can_succeed, added_endpoints, Header, IsHeader, is_ring, Known, changed_by, is_among, has_repeats, binding_in, binds, ring_bound, RingsKeep, StillHolds, is_bad_command, names_disabled_slot, each_fails, any_of_map, added_above, ring_at, ReadyAt, ready_next, map_map, dropped, address_ready, all_ready, EndpointsStand, off_is, RestsThere, FitAll}

-- a command that can succeed
pub record Succeeds (slots : ℕ → SlotState) (endpoints : ℕ → ℕ → EndpointState) (config n : ℕ) (c : Command) : Type 0 where
  pub slot : is_some (slot_success c (slots (slot_meant n (named_slot c)))) ≡ true
  pub endpoint : is_some (endpoint_success c (endpoint_meant endpoints (named_endpoint c))) ≡ true
  pub enabled : is_slot_enabled config n c ≡ true

pub succeeds_is : (slots : ℕ → SlotState) (endpoints : ℕ → ℕ → EndpointState) (config n : ℕ) (c : Command) → can_succeed slots endpoints config n c ≡ true → Succeeds slots endpoints config n c
unfolding can_succeed
succeeds_is slots endpoints config n c can =
    search (rules, and_parts, is_slot_enabled, is_some, slot_success, slot_meant, named_slot, endpoint_success, endpoint_meant, named_endpoint)

stopping_runs : (s i : ℕ) (e : EndpointState) → is_some (endpoint_success (StopEndpoint s i) e) ≡ true → e ≡ Running
stopping_runs s i o is = grind (arith, false≢true)

resetting_halted : (s i : ℕ) (e : EndpointState) → is_some (endpoint_success (ResetEndpoint s i) e) ≡ true → e ≡ Halted
resetting_halted s i o is = grind (arith, false≢true)

pub moving_rests : (s i p : ℕ) (cycle : Bool) (e : EndpointState) → is_some (endpoint_success (SetTrDequeue s i p cycle) e) ≡ true → RestsThere e
moving_rests s i p cycle o is = grind (arith, false≢true)

module _ (h : Header) (is : IsHeader h) where
  -- a command that names a slot names none that is Disabled
  pub slot_there : (k : Known) (c : Command) (s : ℕ) → is_bad_command h k c ≡ false → named_slot c ≡ Some s → k.slot_state s ≢ Disabled
  unfolding is_bad_command names_disabled_slot
  slot_there k c s good named disabled = search (rules, or_parts, false≢true)

  pub no_slot_zero : (k : Known) (s : ℕ) → k.slot_state 0 ≡ Disabled → k.slot_state s ≢ Disabled → s ≢ 0
  no_slot_zero k s zero there same = there (ap k.slot_state same ∙ zero)

  -- ---- Address Device

  -- ---- Configure Endpoint

  each_fits : (c : Command) (memory : ℕ → ℕ) (s a : ℕ) (indices : List ℕ) (l : Known) → s ≢ 0 → All (λ i. nat_le 2 i ≡ true) indices → All (ReadyAt h is l memory s a) indices →
      has_repeats (map (ring_at h is memory a) indices) ≡ false → FitAll h c l (map (placed_by_context h.context_size memory s a) indices)
  unfolding has_repeats is_among
  each_fits c memory s a [] l slot above ready apart = tt
  each_fits c memory s a (i ∷ rest) l slot above ready apart =
      let here : ReadyAt h is l memory s a i = All-head (ReadyAt h is l memory s a) i rest ready in
      let later : All (ReadyAt h is l memory s a) rest = All-tail (ReadyAt h is l memory s a) i rest ready in
      let r : ℕ = here.ring in
      let parts = or_parts (is_among (map (ring_at h is memory a) rest) (ring_at h is memory a i)) (has_repeats (map (ring_at h is memory a) rest)) apart in
      let none : list_any (is_ring r) (map (ring_at h is memory a) rest) ≡ false = sym (ap (is_among (map (ring_at h is memory a) rest)) here.named) ∙ parts.0 in
      let others : All (λ j. is_ring r (ring_at h is memory a j) ≡ false) rest =
      each_fails (λ j. is_ring r (ring_at h is memory a j)) rest (sym (any_of_map (is_ring r) (ring_at h is memory a) rest) ∙ none) in
      let low : 2 ≤ i = leb-true 2 i (All-head (λ j. nat_le 2 j ≡ true) i rest above) in
      let change : Change = placed_by_context h.context_size memory s a i in (
        record { slot = slot; index = λ same. omega arith; on = λ off. cc; binds = λ off. record { ring = r; named = here.named; free = here.free }; starts = λ off. refl; runs = λ q at opened. refl },
        each_fits c memory s a rest (changed_by h c l change) slot (All-tail (λ j. nat_le 2 j ≡ true) i rest above)
            (λ x d inside. ready_next h is c l memory s a i r (get_or rest x d) here.off here.named (later x d inside) (others x d inside)) parts.1,
      )

  configure_fits : (k : Known) → RingsKeep h k → (s a : ℕ) → StillHolds h k (ConfigureEndpoint s false a) → s ≢ 0 →
      FitAll h (ConfigureEndpoint s false a) (dropped h is (ConfigureEndpoint s false a) k s a) (map (placed_by_context h.context_size k.memory s a) (added_endpoints k.memory a))
  unfolding binds binding_in ring_bound
  configure_fits k rings s a still slot =
      let c : Command = ConfigureEndpoint s false a in
      each_fits c k.memory s a (added_endpoints k.memory a) (dropped h is c k s a) slot (added_above k.memory a) (all_ready h is k rings s a still)
      (ap has_repeats (sym (map_map h is (ring_bound h) (binding_in h k a) (added_endpoints k.memory a))) ∙ still.repeats)

  -- ---- Set TR Dequeue

  -- ---- any command

  pub success_fits : (k : Known) (config n : ℕ) (c : Command) → k.slot_state 0 ≡ Disabled → RingsKeep h k → EndpointsStand k → is_bad_command h k c ≡ false → StillHolds h k c →
      Succeeds k.slot_state k.endpoint_state config n c → FitAll h c k (changes h.context_size k.memory n c)
  unfolding changes changed_by typed
  success_fits k config n z zero rings e good still may =
      grind (arith, address_ready, configure_fits, no_slot_zero, slot_there, resetting_halted, stopping_runs, off_is, moving_rests)
