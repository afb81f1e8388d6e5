-- The record follows what is known where one slot, one endpoint or nothing of these is kept anew
use Rattle.trace_record.proofs.LowerLaws.{rules, ◌≡◌, ◌∙◌, ℕ, Option, Bool, false, ap, sym, slice_index_or, SlotState, EndpointState, put, put_pair, Known, Slot, Endpoint, DeviceRecord, FollowsDevices, IsWithSlot, IsWithEndpoint, slot_at, endpoint_at, endpoint_put, endpoint_kept, slot_put, slot_kept}

-- what the record doesn't speak of is that of another k'
abbrev pub beside : Known → Known → Known
beside k k' = record k {
  started = k'.started;
  stopped = k'.stopped;
  halt = k'.halt;
  register = k'.register;
  memory = k'.memory;
  ring = k'.ring;
  soiled = k'.soiled;
  reads = k'.reads;
  dequeue = k'.dequeue;
}

pub follows_beside : (k k' : Known) (d : DeviceRecord) → FollowsDevices k d → FollowsDevices (beside k k') d
follows_beside k k' d f = search rules

module _ (k : Known) (old new : DeviceRecord) (f : FollowsDevices k old) where
  pub states_same : new.slots.items ≡ old.slots.items → (s : ℕ) → k.slot_state s ≡ (slot_at new.slots.items s).state
  states_same same s = f.slot_state s ∙ sym (ap (λ xs. (slot_at xs s).state) same)

  pub devices_same : new.slots.items ≡ old.slots.items → (s : ℕ) → k.device s ≡ (slot_at new.slots.items s).device
  devices_same same s = f.device s ∙ sym (ap (λ xs. (slot_at xs s).device) same)

  pub bound_same : new.bound.items ≡ old.bound.items → (r : ℕ) → k.was_bound r ≡ slice_index_or new.bound.items r false
  bound_same same r = f.was_bound r ∙ sym (ap (λ xs. slice_index_or xs r false) same)

  -- one endpoint's state is kept anew, and all else of it stays
  pub follows_state : (s i : ℕ) (x : Endpoint) (state : EndpointState) → IsWithEndpoint old new s i x →
      x ≡ record (endpoint_at old.endpoints.items s i) { state = state } →
      FollowsDevices (record k { endpoint_state = put_pair k.endpoint_state s i state }) new
  follows_state s i x state w is = search (rules, states_same, devices_same, endpoint_put, endpoint_kept, bound_same)

  -- its state, and that it must be moved
  pub follows_halt : (s i : ℕ) (x : Endpoint) (state : EndpointState) (must : Bool) → IsWithEndpoint old new s i x →
      x ≡ record (endpoint_at old.endpoints.items s i) { state = state; must_move = must } →
      FollowsDevices (record k { endpoint_state = put_pair k.endpoint_state s i state; must_move = put_pair k.must_move s i must }) new
  follows_halt s i x state must w is = search (rules, states_same, devices_same, endpoint_put, endpoint_kept, bound_same)

  -- its state, its ring, and that it must be moved
  pub follows_placed : (s i : ℕ) (x : Endpoint) (state : EndpointState) (ring : Option ℕ) (must : Bool) → IsWithEndpoint old new s i x →
      x ≡ record (endpoint_at old.endpoints.items s i) { state = state; ring = ring; must_move = must } →
      FollowsDevices (record k {
        endpoint_state = put_pair k.endpoint_state s i state;
        ring_of = put_pair k.ring_of s i ring;
        must_move = put_pair k.must_move s i must;
      }) new
  follows_placed s i x state ring must w is = search (rules, states_same, devices_same, endpoint_put, endpoint_kept, bound_same)

  -- the mark of a stop
  pub follows_stop_seen : (s i : ℕ) (x : Endpoint) (seen : Bool) → IsWithEndpoint old new s i x →
      x ≡ record (endpoint_at old.endpoints.items s i) { stop_seen = seen } →
      FollowsDevices (record k { stop_seen = put_pair k.stop_seen s i seen }) new
  follows_stop_seen s i x seen w is = search (rules, states_same, devices_same, endpoint_kept, endpoint_put, bound_same)

  -- its type
  pub follows_type : (s i : ℕ) (x : Endpoint) (isochronous : Bool) → IsWithEndpoint old new s i x →
      x ≡ record (endpoint_at old.endpoints.items s i) { isochronous = isochronous } →
      FollowsDevices (record k { isochronous = put_pair k.isochronous s i isochronous }) new
  follows_type s i x isochronous w is = search (rules, states_same, devices_same, endpoint_kept, endpoint_put, bound_same)

  -- nothing of it
  pub follows_still : (s i : ℕ) (x : Endpoint) → IsWithEndpoint old new s i x → x ≡ endpoint_at old.endpoints.items s i → FollowsDevices k new
  follows_still s i x w is = search (rules, states_same, devices_same, endpoint_kept, bound_same)

  pub endpoints_same : {A : Type 0} (get : Endpoint → A) (g : ℕ → ℕ → A) → new.endpoints.items ≡ old.endpoints.items →
      ((t j : ℕ) → g t j ≡ get (endpoint_at old.endpoints.items t j)) → (t j : ℕ) → g t j ≡ get (endpoint_at new.endpoints.items t j)
  endpoints_same get g same from t j = from t j ∙ sym (ap (λ xs. get (endpoint_at xs t j)) same)

  -- a slot's state is kept anew
  pub follows_slot_state : (s : ℕ) (x : Slot) (state : SlotState) → IsWithSlot old new s x → state ≡ x.state → (slot_at old.slots.items s).device ≡ x.device →
      FollowsDevices (record k { slot_state = put k.slot_state s state }) new
  follows_slot_state s x state w is kept = search (rules, slot_put, slot_kept, endpoints_same, bound_same)

  -- its device context
  pub follows_device : (s : ℕ) (x : Slot) → IsWithSlot old new s x → (slot_at old.slots.items s).state ≡ x.state →
      FollowsDevices (record k { device = put k.device s x.device }) new
  follows_device s x w kept = search (rules, slot_kept, slot_put, endpoints_same, bound_same)
