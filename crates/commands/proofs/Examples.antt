-- Worked examples: the state tables at every pair of command and state, other codes, and what a block says
use Rattle.std.proofs.Common.{◌≡◌, ◌==◌, if◌then◌else◌, ℕ, true, false, List, [], ◌∷◌, map, Option, Some, None, refl}
use Rattle.trb.specs.declared.block.Block.{Block}
use Rattle.commands.specs.declared.command.Command.{Command}
use Rattle.commands.specs.declared.command.Command.TheVariants.{NoOp, EnableSlot, DisableSlot, AddressDevice, ConfigureEndpoint, EvaluateContext, ResetEndpoint, StopEndpoint, SetTrDequeue, ResetDevice}
use Rattle.commands.specs.declared.state.SlotState.{SlotState}
use Rattle.commands.specs.declared.state.SlotState.TheVariants.{Disabled, Enabled, Default, Addressed, Configured}
use Rattle.commands.specs.declared.state.EndpointState.{EndpointState}
use Rattle.commands.specs.declared.state.EndpointState.TheVariants.{Disabled as Off, Running, Halted, Stopped, Error}
use Rattle.commands.specs.Command.{command_of, may_answer_slot, named_slot, named_endpoint, named_context}
use Rattle.commands.specs.SideBySide.{exclude}
use Rattle.commands.specs.States.{slot_after, endpoint_after}

-- ---- a success, from each state of a slot

abbrev same_slots : List (Option SlotState)
same_slots = Some Disabled ∷ Some Enabled ∷ Some Default ∷ Some Addressed ∷ Some Configured ∷ []

abbrev slots : Command → List (Option SlotState)
slots c = map (λ state. slot_after state c 1) (Disabled ∷ Enabled ∷ Default ∷ Addressed ∷ Configured ∷ [])

pub no_op : slots NoOp ≡ same_slots
no_op = refl

pub enable_slot : slots EnableSlot ≡ Some Enabled ∷ None ∷ None ∷ None ∷ None ∷ []
enable_slot = refl

pub disable_slot : slots (DisableSlot 1) ≡ None ∷ Some Disabled ∷ Some Disabled ∷ Some Disabled ∷ Some Disabled ∷ []
disable_slot = refl

pub address_device_that_blocks_the_request : slots (AddressDevice 1 true 0x1000) ≡ None ∷ Some Default ∷ None ∷ None ∷ None ∷ []
address_device_that_blocks_the_request = refl

pub address_device : slots (AddressDevice 1 false 0x1000) ≡ None ∷ Some Addressed ∷ Some Addressed ∷ None ∷ None ∷ []
address_device = refl

pub configure_endpoint : slots (ConfigureEndpoint 1 false 0x1000) ≡ None ∷ None ∷ None ∷ Some Configured ∷ Some Configured ∷ []
configure_endpoint = refl

pub deconfigure : slots (ConfigureEndpoint 1 true 0) ≡ None ∷ None ∷ None ∷ Some Addressed ∷ Some Addressed ∷ []
deconfigure = refl

pub evaluate_context : slots (EvaluateContext 1 0x1000) ≡ None ∷ None ∷ Some Default ∷ Some Addressed ∷ Some Configured ∷ []
evaluate_context = refl

pub reset_device : slots (ResetDevice 1) ≡ None ∷ None ∷ Some Default ∷ Some Default ∷ Some Default ∷ []
reset_device = refl

pub stop_endpoint : slots (StopEndpoint 1 1) ≡ same_slots
stop_endpoint = refl

pub reset_endpoint : slots (ResetEndpoint 1 1) ≡ same_slots
reset_endpoint = refl

pub set_tr_dequeue : slots (SetTrDequeue 1 1 0x30000 true) ≡ same_slots
set_tr_dequeue = refl

-- ---- a success, from each state of an endpoint

abbrev same_endpoints : List (Option EndpointState)
same_endpoints = Some Off ∷ Some Running ∷ Some Halted ∷ Some Stopped ∷ Some Error ∷ []

abbrev endpoints : Command → List (Option EndpointState)
endpoints c = map (λ state. endpoint_after state c 1) (Off ∷ Running ∷ Halted ∷ Stopped ∷ Error ∷ [])

pub no_op_over_endpoints : endpoints NoOp ≡ same_endpoints
no_op_over_endpoints = refl

pub enable_slot_over_endpoints : endpoints EnableSlot ≡ same_endpoints
enable_slot_over_endpoints = refl

pub disable_slot_over_endpoints : endpoints (DisableSlot 1) ≡ same_endpoints
disable_slot_over_endpoints = refl

pub address_device_that_blocks_the_request_over_endpoints : endpoints (AddressDevice 1 true 0x1000) ≡ same_endpoints
address_device_that_blocks_the_request_over_endpoints = refl

pub address_device_over_endpoints : endpoints (AddressDevice 1 false 0x1000) ≡ same_endpoints
address_device_over_endpoints = refl

pub configure_endpoint_over_endpoints : endpoints (ConfigureEndpoint 1 false 0x1000) ≡ same_endpoints
configure_endpoint_over_endpoints = refl

pub deconfigure_over_endpoints : endpoints (ConfigureEndpoint 1 true 0) ≡ same_endpoints
deconfigure_over_endpoints = refl

pub evaluate_context_over_endpoints : endpoints (EvaluateContext 1 0x1000) ≡ same_endpoints
evaluate_context_over_endpoints = refl

pub reset_device_over_endpoints : endpoints (ResetDevice 1) ≡ same_endpoints
reset_device_over_endpoints = refl

pub stop_endpoint_over_endpoints : endpoints (StopEndpoint 1 1) ≡ None ∷ Some Stopped ∷ None ∷ None ∷ None ∷ []
stop_endpoint_over_endpoints = refl

pub reset_endpoint_over_endpoints : endpoints (ResetEndpoint 1 1) ≡ None ∷ None ∷ Some Stopped ∷ None ∷ None ∷ []
reset_endpoint_over_endpoints = refl

pub set_tr_dequeue_over_endpoints : endpoints (SetTrDequeue 1 1 0x30000 true) ≡ None ∷ None ∷ None ∷ Some Stopped ∷ Some Stopped ∷ []
set_tr_dequeue_over_endpoints = refl

-- ---- other codes

pub stopped_by_success : endpoint_after Running (StopEndpoint 1 2) 1 ≡ Some Stopped
stopped_by_success = refl

pub no_success_of_stop_when_halted : endpoint_after Halted (StopEndpoint 1 2) 1 ≡ None
no_success_of_stop_when_halted = refl

pub context_state_error_when_halted : endpoint_after Halted (StopEndpoint 1 2) 19 ≡ Some Halted
context_state_error_when_halted = refl

pub no_completion_with_code_0 : endpoint_after Running (StopEndpoint 1 2) 0 ≡ None
no_completion_with_code_0 = refl

pub no_completion_of_a_slot_with_code_0 : slot_after Disabled EnableSlot 0 ≡ None
no_completion_of_a_slot_with_code_0 = refl

pub no_slots_available : slot_after Disabled EnableSlot 9 ≡ Some Disabled
no_slots_available = refl

-- ---- what a block says

abbrev block : ℕ → ℕ → ℕ → Block
block low high control = record { w = low ∷ high ∷ 0 ∷ control ∷ [] }

pub reads_no_op : command_of (block 0 0 0x5c00) ≡ Some NoOp
reads_no_op = refl

pub reads_whatever_the_cycle_bit : command_of (block 0 0 0x5c01) ≡ Some NoOp
reads_whatever_the_cycle_bit = refl

pub reads_address_device : command_of (block 0x1000 0x2 0x1002c00) ≡ Some (AddressDevice 1 false 0x200001000)
reads_address_device = refl

pub reads_address_device_that_blocks_the_request : command_of (block 0x100f 0 0x1002e00) ≡ Some (AddressDevice 1 true 0x1000)
reads_address_device_that_blocks_the_request = refl

pub reads_stop_endpoint : command_of (block 0 0 0x2033c00) ≡ Some (StopEndpoint 2 3)
reads_stop_endpoint = refl

pub reads_set_tr_dequeue : command_of (block 0x30011 0 0x1024000) ≡ Some (SetTrDequeue 1 2 0x30010 true)
reads_set_tr_dequeue = refl

pub reads_no_command_of_a_normal_block : command_of (block 0 0 0x400) ≡ None
reads_no_command_of_a_normal_block = refl

pub no_slot_of_enable_slot : named_slot EnableSlot ≡ None
no_slot_of_enable_slot = refl

pub slot_of_reset_device : named_slot (ResetDevice 3) ≡ Some 3
slot_of_reset_device = refl

pub endpoint_of_stop_endpoint : named_endpoint (StopEndpoint 2 3) ≡ Some (2, 3)
endpoint_of_stop_endpoint = refl

pub context_of_configure_endpoint : named_context (ConfigureEndpoint 1 false 0x1000) ≡ Some 0x1000
context_of_configure_endpoint = refl

pub no_context_of_deconfigure : named_context (ConfigureEndpoint 1 true 0x1000) ≡ None
no_context_of_deconfigure = refl

-- a Set TR Dequeue of a stream (SCT 1) and a Reset Endpoint that keeps its state (TSP) are outside the profile: they name no slot, so
-- their completions may carry any
pub reads_no_move_of_a_stream : command_of (block 0x30013 0 0x1024000) ≡ None
reads_no_move_of_a_stream = refl

pub answered_for_any_slot : may_answer_slot (command_of (block 0x30013 0 0x1024000)) 7 ≡ true
answered_for_any_slot = refl

pub reset_that_keeps_its_state : may_answer_slot (command_of (block 0 0 0x1023a00)) 7 ≡ true
reset_that_keeps_its_state = refl

pub answered_for_its_slot : (may_answer_slot (command_of (block 0x30011 0 0x1024000)) 1 ≡ true) × (may_answer_slot (command_of (block 0x30011 0 0x1024000)) 7 ≡ false)
answered_for_its_slot = (refl, refl)

-- ---- which commands may not be unfinished side by side

-- an input context at 0x1000 drops endpoint 2 and adds endpoint 3
abbrev flags : ℕ → ℕ
flags a = if a == 0x1000 then 4 else if a == 0x1004 then 9 else 0

pub endpoints_of_one_slot : exclude flags (StopEndpoint 1 1) (StopEndpoint 1 2) ≡ false
endpoints_of_one_slot = refl

pub a_move_beside_a_stop : exclude flags (SetTrDequeue 1 3 0x30000 true) (StopEndpoint 1 2) ≡ false
a_move_beside_a_stop = refl

pub one_endpoint : exclude flags (StopEndpoint 1 2) (SetTrDequeue 1 2 0x30000 true) ≡ true
one_endpoint = refl

pub an_endpoint_that_is_dropped : exclude flags (ResetEndpoint 1 2) (ConfigureEndpoint 1 false 0x1000) ≡ true
an_endpoint_that_is_dropped = refl

pub an_endpoint_that_is_added : exclude flags (ConfigureEndpoint 1 false 0x1000) (StopEndpoint 1 3) ≡ true
an_endpoint_that_is_added = refl

pub an_endpoint_that_is_left_alone : exclude flags (ConfigureEndpoint 1 false 0x1000) (StopEndpoint 1 4) ≡ false
an_endpoint_that_is_left_alone = refl

pub a_configuration_that_goes : (exclude flags (StopEndpoint 1 1) (ConfigureEndpoint 1 true 0) ≡ false) × (exclude flags (StopEndpoint 1 4) (ConfigureEndpoint 1 true 0) ≡ true)
a_configuration_that_goes = (refl, refl)

pub an_endpoint_that_is_evaluated : (exclude flags (StopEndpoint 1 3) (EvaluateContext 1 0x1000) ≡ true) × (exclude flags (StopEndpoint 1 2) (EvaluateContext 1 0x1000) ≡ false)
an_endpoint_that_is_evaluated = (refl, refl)

pub two_of_the_slot : exclude flags (EvaluateContext 1 0x1000) (ConfigureEndpoint 1 false 0x2000) ≡ true
two_of_the_slot = refl

pub a_slot_beside_its_endpoint : exclude flags (DisableSlot 1) (StopEndpoint 1 2) ≡ true
a_slot_beside_its_endpoint = refl

pub one_slot : exclude flags (DisableSlot 1) (ResetDevice 1) ≡ true
one_slot = refl

pub two_slots : exclude flags (StopEndpoint 1 2) (StopEndpoint 2 2) ≡ false
two_slots = refl

pub none_named : exclude flags EnableSlot EnableSlot ≡ false
none_named = refl
