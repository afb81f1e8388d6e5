-- The state tables of slots and endpoints: xHCI 4.5.3, 4.8.3, in this project's profile
use Rattle.std.specs.Prelude.{ℕ, ◌==◌, ◌&&◌, if◌then◌else◌, Bool, true, false, nat_lt, nat_le, ◌%◌, ◌^◌, Option, Some, None, is_some}
use Rattle.commands.specs.declared.command.Command.{Command}
use Rattle.commands.specs.declared.command.Command.TheVariants.{NoOp, EnableSlot, DisableSlot, AddressDevice, ConfigureEndpoint, EvaluateContext, ResetEndpoint, StopEndpoint, SetTrDequeue, ResetDevice}
use Rattle.commands.specs.Command.{named_slot, named_endpoint}
use Rattle.commands.specs.declared.state.SlotState.{SlotState}
use Rattle.commands.specs.declared.state.SlotState.TheVariants.{Disabled, Enabled, Default, Addressed, Configured}
use Rattle.commands.specs.declared.state.EndpointState.{EndpointState}
use Rattle.commands.specs.declared.state.EndpointState.TheVariants.{Disabled as Off, Running, Halted, Stopped, Error}

-- The success of a command that concerns slots, from a state of the slot: the state after it; None where it can't succeed
abbrev pub slot_success : Command → SlotState → Option SlotState
slot_success EnableSlot Disabled = Some Enabled
slot_success EnableSlot _ = None
slot_success (DisableSlot s) Disabled = None
slot_success (DisableSlot s) _ = Some Disabled
slot_success (AddressDevice s true c) Enabled = Some Default
slot_success (AddressDevice s true c) _ = None
slot_success (AddressDevice s false c) Enabled = Some Addressed
slot_success (AddressDevice s false c) Default = Some Addressed
slot_success (AddressDevice s false c) _ = None
slot_success (ConfigureEndpoint s false c) Addressed = Some Configured
slot_success (ConfigureEndpoint s false c) Configured = Some Configured
slot_success (ConfigureEndpoint s false c) _ = None
slot_success (ConfigureEndpoint s true c) Configured = Some Addressed
slot_success (ConfigureEndpoint s true c) Addressed = Some Addressed
slot_success (ConfigureEndpoint s true c) _ = None
slot_success (EvaluateContext s c) Default = Some Default
slot_success (EvaluateContext s c) Addressed = Some Addressed
slot_success (EvaluateContext s c) Configured = Some Configured
slot_success (EvaluateContext s c) _ = None
slot_success (ResetDevice s) Addressed = Some Default
slot_success (ResetDevice s) Configured = Some Default
slot_success (ResetDevice s) Default = Some Default
slot_success (ResetDevice s) _ = None
slot_success NoOp state = Some state
slot_success (ResetEndpoint s i) state = Some state
slot_success (StopEndpoint s i) state = Some state
slot_success (SetTrDequeue s i p c) state = Some state

-- The success of a command that concerns one endpoint, from a state of the endpoint
abbrev pub endpoint_success : Command → EndpointState → Option EndpointState
endpoint_success (StopEndpoint s i) Running = Some Stopped
endpoint_success (StopEndpoint s i) _ = None
endpoint_success (ResetEndpoint s i) Halted = Some Stopped
endpoint_success (ResetEndpoint s i) _ = None
endpoint_success (SetTrDequeue s i p c) Stopped = Some Stopped
endpoint_success (SetTrDequeue s i p c) Error = Some Stopped
endpoint_success (SetTrDequeue s i p c) _ = None
endpoint_success _ state = Some state

-- what a completion with this code leaves: code 0 is none, code 1 is success, any other changes nothing
abbrev pub with_code : {A : Type 0} → ℕ → Option A → A → Option A
with_code code success state = if code == 0 then None else if code == 1 then success else Some state

abbrev pub slot_after : SlotState → Command → ℕ → Option SlotState
slot_after state c code = with_code code (slot_success c state) state

abbrev pub endpoint_after : EndpointState → Command → ℕ → Option EndpointState
endpoint_after state c code = with_code code (endpoint_success c state) state

abbrev pub is_disabled : SlotState → Bool
is_disabled Disabled = true
is_disabled _ = false

abbrev pub is_off : EndpointState → Bool
is_off Off = true
is_off _ = false

abbrev pub is_running : EndpointState → Bool
is_running Running = true
is_running _ = false

abbrev pub is_stopped : EndpointState → Bool
is_stopped Stopped = true
is_stopped _ = false

-- a state from which a ring may be moved: the endpoint does nothing on it
abbrev pub is_at_rest : EndpointState → Bool
is_at_rest Stopped = true
is_at_rest Error = true
is_at_rest _ = false

-- the slot whose state success depends on: that of the event where the command names none
abbrev pub slot_meant : ℕ → Option ℕ → ℕ
slot_meant n None = n
slot_meant n (Some s) = s

abbrev pub endpoint_meant : (ℕ → ℕ → EndpointState) → Option (ℕ × ℕ) → EndpointState
endpoint_meant states None = Off
endpoint_meant states (Some e) = states e.0 e.1

-- Enable Slot answers a slot from 1 to MaxSlotsEn (CONFIG bits 7:0)
abbrev pub is_slot_enabled : ℕ → ℕ → Command → Bool
is_slot_enabled config n EnableSlot = nat_lt 0 n && nat_le n (config % 2 ^ 8)
is_slot_enabled config n _ = true

-- the command can succeed, with slot n in its completion, from these states of slots and endpoints and this value of CONFIG
unfoldable pub can_succeed : (ℕ → SlotState) → (ℕ → ℕ → EndpointState) → ℕ → ℕ → Command → Bool
can_succeed slots endpoints config n c =
    is_some (slot_success c (slots (slot_meant n (named_slot c)))) && is_some (endpoint_success c (endpoint_meant endpoints (named_endpoint c)))
    && is_slot_enabled config n c
