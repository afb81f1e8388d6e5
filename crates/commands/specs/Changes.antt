-- What the success of a command does to slots, endpoints and their rings: xHCI 4.5.3, 4.6, 4.8.3
use Rattle.std.specs.Prelude.{ℕ, ◌==◌, ◌&&◌, Bool, true, false, List, [], ◌∷◌, map, nat_le, unwrap_or}
use Rattle.guest_memory.specs.Memory.{put}
use Rattle.contexts.specs.declared.size.ContextSize.{ContextSize}
use Rattle.contexts.specs.Contexts.{added_endpoints, is_dropped, context_pointer, context_cycle, has_isochronous, input_add_flag}
use Rattle.commands.specs.declared.command.Command.{Command}
use Rattle.commands.specs.declared.command.Command.TheVariants.{NoOp, EnableSlot, DisableSlot, AddressDevice, ConfigureEndpoint, EvaluateContext, ResetEndpoint, StopEndpoint, SetTrDequeue, ResetDevice}
use Rattle.commands.specs.declared.state.SlotState.{SlotState}
use Rattle.commands.specs.declared.state.EndpointState.{EndpointState}
use Rattle.commands.specs.declared.state.EndpointState.TheVariants.{Running, Stopped}
use Rattle.commands.specs.States.{slot_success}

pub data Change : Type 0 where
  -- the slot's state goes on by the command's table
  SlotGoesOn : (slot : ℕ) → Change
  -- the controller lets go of the slot's device context
  DeviceLeft : (slot : ℕ) → Change
  -- of the endpoints of the slot that the first test names those are isochronous that the second one names
  Types : (slot : ℕ) (which isochronous : ℕ → Bool) → Change
  -- the endpoints of the slot that the test names are disabled, and have no ring
  Disables : (slot : ℕ) (which : ℕ → Bool) → Change
  -- the endpoint is in this state, and its ring is the one at the pointer, from there on and with this cycle state
  Places : (slot index pointer : ℕ) (cycle : Bool) (state : EndpointState) → Change
  -- the endpoint is Stopped, and its ring too
  Stops : (slot index : ℕ) → Change
  -- the endpoint is Stopped: a halt is over
  Resets : (slot index : ℕ) → Change

-- the endpoint gets the ring that its context in the input context at address c names
abbrev pub placed_by_context : ContextSize → (ℕ → ℕ) → ℕ → ℕ → ℕ → Change
placed_by_context size memory s c i =
    Places s i (context_pointer size memory c i) (context_cycle size memory c i) Running

-- all endpoints but the default control endpoint
abbrev pub is_above_control : ℕ → Bool
is_above_control i = nat_le 2 i

-- the endpoints that a context adds have the types that it says
abbrev pub typed_by_context : ContextSize → (ℕ → ℕ) → ℕ → ℕ → Change
typed_by_context size memory s c = Types s (input_add_flag memory c) (has_isochronous size memory c)

-- what the success of a command does, in order; n is the slot of its completion. Endpoints are dropped before any is added
unfoldable pub changes : ContextSize → (ℕ → ℕ) → ℕ → Command → List Change
changes size memory n NoOp = []
changes size memory n EnableSlot = SlotGoesOn n ∷ []
changes size memory n (DisableSlot s) = SlotGoesOn s ∷ DeviceLeft s ∷ Disables s (λ i. true) ∷ []
changes size memory n (AddressDevice s bsr c) = SlotGoesOn s ∷ placed_by_context size memory s c 1 ∷ []
changes size memory n (ConfigureEndpoint s false c) =
    SlotGoesOn s ∷ typed_by_context size memory s c ∷ Disables s (is_dropped memory c) ∷ map (placed_by_context size memory s c) (added_endpoints memory c)
changes size memory n (ConfigureEndpoint s true c) = SlotGoesOn s ∷ Disables s is_above_control ∷ []
changes size memory n (EvaluateContext s c) = []
changes size memory n (ResetEndpoint s i) = Resets s i ∷ []
changes size memory n (StopEndpoint s i) = Stops s i ∷ []
changes size memory n (SetTrDequeue s i p cycle) = Places s i p cycle Stopped ∷ []
changes size memory n (ResetDevice s) = SlotGoesOn s ∷ Disables s is_above_control ∷ []

-- the states of slots behind a success that concerns slot s
abbrev pub slot_gone_on : Command → (ℕ → SlotState) → ℕ → ℕ → SlotState
slot_gone_on c states s = put states s (unwrap_or (slot_success c (states s)) (states s))

-- the change concerns the endpoint of slot s with index i
abbrev pub touches : ℕ → ℕ → Change → Bool
touches s i (SlotGoesOn t) = false
touches s i (DeviceLeft t) = false
touches s i (Types t which isochronous) = false
touches s i (Disables t which) = s == t && which i
touches s i (Places t j p cycle state) = s == t && i == j
touches s i (Stops t j) = s == t && i == j
touches s i (Resets t j) = s == t && i == j
