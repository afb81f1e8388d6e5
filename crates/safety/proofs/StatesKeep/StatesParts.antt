-- What is kept of states, in three parts: endpoints and their rings, slots, and Stopped events that were read
use Rattle.safety.proofs.Words.{◌≡◌, ◌≢◌, ◌<◌, ◌⊎◌, ℕ, nat_lt, true, Option, None, Some, ltb-true, lt-ltb, eqb-true, eq-eqb, and_parts, and_from, false≢true, ceiling, Command, StopEndpoint, SlotState, Disabled, Enabled, Configured, Off, Running, is_stop_of, Header, shape_of, command_id, Known, command_at, next_command, may_be_taken, is_stopping_now, StatesKeep, EndpointsKeep, rules}
use Rattle.safety.proofs.DriverRings.{transfer_ring}

pub record EndpointsStand (k : Known) : Type 0 where
  pub no_endpoint : (s i : ℕ) → (s ≡ 0) ⊎ (i ≡ 0) → k.ring_of s i ≡ None
  pub off : (s i : ℕ) → k.ring_of s i ≡ None → k.endpoint_state s i ≡ Off
  pub on : (s i r : ℕ) → k.ring_of s i ≡ Some r → k.endpoint_state s i ≢ Off
  pub one_endpoint : (s i t j r : ℕ) → k.ring_of s i ≡ Some r → k.ring_of t j ≡ Some r → (s ≡ t) × (i ≡ j)
  pub open_runs : (s i r : ℕ) → k.ring_of s i ≡ Some r → (k.ring r).held ≡ None → k.endpoint_state s i ≡ Running

-- one slot: its state, the rings of its endpoints, and its device context under lease
pub record SlotStands (state : SlotState) (rings : ℕ → Option ℕ) (device : Option ℕ) : Type 0 where
  pub slots : (i r : ℕ) → rings i ≡ Some r → (state ≢ Disabled) × (state ≢ Enabled) × ((i ≡ 1) ⊎ (state ≡ Configured))
  pub first : (state ≡ Disabled) ⊎ (state ≡ Enabled) ⊎ (rings 1 ≢ None)
  pub no_device : state ≡ Disabled → device ≡ None

pub record SlotsStand (k : Known) : Type 0 where
  pub no_slot : k.slot_state 0 ≡ Disabled
  pub each : (s : ℕ) → SlotStands (k.slot_state s) (k.ring_of s) (k.device s)

-- the next command is a Stop Endpoint, and may be finished
pub record StopsNext (h : Header) (k : Known) (s i : ℕ) : Type 0 where
  pub below : next_command h k < ceiling (shape_of h (command_id h)) (k.ring (command_id h))
  pub command : command_at h k (next_command h k) ≡ Some (StopEndpoint s i)

pub record SeenStand (h : Header) (k : Known) : Type 0 where
  pub command : (s i : ℕ) → k.stop_seen s i ≡ true → StopsNext h k s i
  pub runs : (s i : ℕ) → k.stop_seen s i ≡ true → k.endpoint_state s i ≡ Running
  pub held : (s i r : ℕ) → k.stop_seen s i ≡ true → k.ring_of s i ≡ Some r → (k.ring r).held ≢ None

pub stop_is : (s i : ℕ) (o : Option Command) → is_stop_of s i o ≡ true → o ≡ Some (StopEndpoint s i)
stop_is s i (Some (StopEndpoint t j)) is = search (rules, and_parts, eqb-true, false≢true)
stop_is s i _ is = absurd (false≢true is)

module _ (h : Header) where
  pub stops_is : (k : Known) (s i : ℕ) → is_stopping_now h k s i ≡ true → StopsNext h k s i
  unfolding is_stopping_now may_be_taken
  stops_is k s i is = search (rules, and_parts, is_stop_of, command_at, next_command, ltb-true, stop_is)

  pub stops_from : (k : Known) (s i : ℕ) → StopsNext h k s i → is_stopping_now h k s i ≡ true
  unfolding is_stopping_now may_be_taken
  stops_from k s i stops =
      search (rules, and_from, nat_lt, next_command, ceiling, shape_of, command_id, k.ring, is_stop_of, command_at, lt-ltb, eq-eqb)

  pub endpoints_part : (k : Known) → StatesKeep h k → EndpointsStand k
  endpoints_part k s = record { no_endpoint = s.no_endpoint; off = s.off; on = s.on; one_endpoint = s.one_endpoint; open_runs = s.open_runs }

  pub slots_part : (k : Known) → StatesKeep h k → SlotsStand k
  slots_part k s = record { no_slot = s.no_slot; each = λ t. record { slots = s.slots t; first = s.first t; no_device = s.no_device t } }

  pub seen_part : (k : Known) → StatesKeep h k → SeenStand h k
  seen_part k s = record { command = λ t i seen. stops_is k t i (s.seen_command t i seen); runs = s.seen_runs; held = s.seen_held }

  pub from_parts : (k : Known) → EndpointsKeep h k → EndpointsStand k → SlotsStand k → SeenStand h k → StatesKeep h k
  from_parts k bound endpoints slots seen = search (rules, transfer_ring, stops_from)

-- ---- where all these are as they were

pub endpoints_same : (k l : Known) → l.ring_of ≡ k.ring_of → l.endpoint_state ≡ k.endpoint_state → ((r : ℕ) → (l.ring r).held ≡ (k.ring r).held) → EndpointsStand k → EndpointsStand l
endpoints_same k l rings states held e = search rules

pub slots_same : (k l : Known) → l.slot_state ≡ k.slot_state → l.ring_of ≡ k.ring_of → l.device ≡ k.device → SlotsStand k → SlotsStand l
slots_same k l slots rings device e = search rules

pub seen_same : (h : Header) (k l : Known) → l.stop_seen ≡ k.stop_seen → l.endpoint_state ≡ k.endpoint_state → l.ring_of ≡ k.ring_of → ((r : ℕ) → (l.ring r).held ≡ (k.ring r).held) →
    ((s i : ℕ) → StopsNext h k s i → StopsNext h l s i) → SeenStand h k → SeenStand h l
seen_same h k l seen states rings held stops e = search rules
