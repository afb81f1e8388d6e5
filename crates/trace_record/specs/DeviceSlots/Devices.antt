-- What a record of slots, endpoints and bindings holds, in terms of what is known
use Rattle.std.specs.Prelude.{◌≡◌, ℕ, ◌+◌, ◌*◌, ◌<◌, ◌==◌, ◌&&◌, if◌then◌else◌, Bool, true, false, List, Option, Some, None, nat_lt, slice_index_or, slice_set}
use Rattle.guest_memory.specs.Memory.{put, put_pair}
use Rattle.commands.specs.declared.state.SlotState.TheVariants.{Disabled}
use Rattle.commands.specs.declared.state.EndpointState.TheVariants.{Disabled as Off}
use Rattle.ring_knowledge.specs.Known.{Known}
use Rattle.trace_record.specs.declared.device_record.kept.Slot.{Slot}
use Rattle.trace_record.specs.declared.device_record.kept.Endpoint.{Endpoint}
use Rattle.trace_record.specs.declared.device_record.kept.DeviceRecord.{DeviceRecord}
use Rattle.trace_record.specs.DeviceSlots.Endpoints.{turned_off}

-- a slot, and an endpoint, of which nothing is known
abbrev pub fresh_slot : Slot
fresh_slot = record { state = Disabled; device = None }

abbrev pub fresh_endpoint : Endpoint
fresh_endpoint = record { state = Off; ring = None; must_move = false; stop_seen = false; isochronous = false }

-- what is kept of a slot
abbrev pub slot_at : List Slot → ℕ → Slot
slot_at slots s = slice_index_or slots s fresh_slot

-- what is kept of an endpoint: of each slot there are 32
abbrev pub endpoint_at : List Endpoint → ℕ → ℕ → Endpoint
endpoint_at endpoints s i = if nat_lt i 32 then slice_index_or endpoints (s * 32 + i) fresh_endpoint else fresh_endpoint

-- the record holds what is known of each slot and each endpoint, and which rings were bound; of slots above 255, indices above 31 and ring
-- IDs above 255 nothing is known
pub record FollowsDevices (k : Known) (d : DeviceRecord) : Type 0 where
  pub slot_state : (s : ℕ) → k.slot_state s ≡ (slot_at d.slots.items s).state
  pub device : (s : ℕ) → k.device s ≡ (slot_at d.slots.items s).device
  pub endpoint_state : (s i : ℕ) → k.endpoint_state s i ≡ (endpoint_at d.endpoints.items s i).state
  pub ring_of : (s i : ℕ) → k.ring_of s i ≡ (endpoint_at d.endpoints.items s i).ring
  pub must_move : (s i : ℕ) → k.must_move s i ≡ (endpoint_at d.endpoints.items s i).must_move
  pub stop_seen : (s i : ℕ) → k.stop_seen s i ≡ (endpoint_at d.endpoints.items s i).stop_seen
  pub isochronous : (s i : ℕ) → k.isochronous s i ≡ (endpoint_at d.endpoints.items s i).isochronous
  pub was_bound : (r : ℕ) → k.was_bound r ≡ slice_index_or d.bound.items r false

-- one slot is kept as x, and all else as before
pub record IsWithSlot (old new : DeviceRecord) (s : ℕ) (x : Slot) : Type 0 where
  pub slots : (t : ℕ) → slot_at new.slots.items t ≡ put (slot_at old.slots.items) s x t
  pub endpoints : new.endpoints.items ≡ old.endpoints.items
  pub bound : new.bound.items ≡ old.bound.items

-- one endpoint is kept as x, and all else as before
pub record IsWithEndpoint (old new : DeviceRecord) (s i : ℕ) (x : Endpoint) : Type 0 where
  pub endpoints : (t j : ℕ) → endpoint_at new.endpoints.items t j ≡ put_pair (endpoint_at old.endpoints.items) s i x t j
  pub slots : new.slots.items ≡ old.slots.items
  pub bound : new.bound.items ≡ old.bound.items

-- the rings that were bound, with one more, if there is one
abbrev pub with_bound : List Bool → Option ℕ → List Bool
with_bound bound None = bound
with_bound bound (Some r) = slice_set bound r true

abbrev pub IsRingId : Option ℕ → Type 0
IsRingId None = Unit {0}
IsRingId (Some r) = r < 256

pub record IsWithBound (old new : DeviceRecord) (ring : Option ℕ) : Type 0 where
  pub below : IsRingId ring
  pub bound : new.bound.items ≡ with_bound old.bound.items ring
  pub slots : new.slots.items ≡ old.slots.items
  pub endpoints : new.endpoints.items ≡ old.endpoints.items

-- the endpoints of slot s that a test names are Disabled and have no ring, and all else is as before
pub record IsDisabled (old new : DeviceRecord) (s : ℕ) (which : ℕ → Bool) : Type 0 where
  pub endpoints : (t j : ℕ) → endpoint_at new.endpoints.items t j ≡ turned_off (t == s && which j) (endpoint_at old.endpoints.items t j)
  pub slots : new.slots.items ≡ old.slots.items
  pub bound : new.bound.items ≡ old.bound.items
