-- Worked examples of descriptors: each allowed form, and each way to be wrong
use Rattle.trb.proofs.Words.{◌≡◌, ℕ, ◌+◌, ◌*◌, List, [], ◌∷◌, ◌++◌, map, replicate, Option, Some, None, refl, Block, Fault, BadDescriptor, NotInProfile, Cmd, Evt, Xfer, fault_of}

-- a block of a type, by word 2, its control bits (word 3 but for the type) and its type
abbrev block : ℕ → ℕ → ℕ → Block
block status control number = record { w = 0 ∷ 0 ∷ status ∷ (control + 1024 * number) ∷ [] }

abbrev plain : ℕ → Block
plain number = block 0 0 number

-- with its Chain bit
abbrev chained : ℕ → Block
chained number = block 0 0x10 number

-- a Setup Stage: eight bytes in the block itself (IDT), no data stage
abbrev setup : Block
setup = block 8 0x40 2

-- what is wrong with a command of each of these types
abbrev faults_of_commands : List ℕ → List (Option Fault)
faults_of_commands numbers = map (λ number. fault_of Cmd (plain number ∷ [])) numbers

-- ---- transfer rings: the allowed forms

pub one_normal_block : fault_of Xfer (plain 1 ∷ []) ≡ None
one_normal_block = refl

pub three_normal_blocks : fault_of Xfer (chained 1 ∷ chained 1 ∷ plain 1 ∷ []) ≡ None
three_normal_blocks = refl

pub interrupt_on_completion : fault_of Xfer (chained 1 ∷ block 0 0x20 1 ∷ []) ≡ None
interrupt_on_completion = refl

pub setup_stage : fault_of Xfer (setup ∷ []) ≡ None
setup_stage = refl

pub setup_stage_with_data_out : fault_of Xfer (block 8 0x20040 2 ∷ []) ≡ None
setup_stage_with_data_out = refl

pub setup_stage_with_data_in : fault_of Xfer (block 8 0x30040 2 ∷ []) ≡ None
setup_stage_with_data_in = refl

pub data_stage : fault_of Xfer (plain 3 ∷ []) ≡ None
data_stage = refl

pub data_stage_and_normal_blocks : fault_of Xfer (chained 3 ∷ chained 1 ∷ plain 1 ∷ []) ≡ None
data_stage_and_normal_blocks = refl

pub status_stage : fault_of Xfer (plain 4 ∷ []) ≡ None
status_stage = refl

pub no_op_block : fault_of Xfer (plain 8 ∷ []) ≡ None
no_op_block = refl

pub longest : fault_of Xfer (replicate 4095 (chained 1) ++ plain 1 ∷ []) ≡ None
longest = refl

-- ---- transfer rings: each way to be wrong

pub no_block : fault_of Xfer [] ≡ Some BadDescriptor
no_block = refl

pub too_long : fault_of Xfer (replicate 4096 (chained 1) ++ plain 1 ∷ []) ≡ Some BadDescriptor
too_long = refl

pub cycle_bit : fault_of Xfer (block 0 1 1 ∷ []) ≡ Some BadDescriptor
cycle_bit = refl

pub cycle_bit_of_the_last : fault_of Xfer (chained 1 ∷ block 0 1 1 ∷ []) ≡ Some BadDescriptor
cycle_bit_of_the_last = refl

pub chain_bit_missing : fault_of Xfer (plain 1 ∷ plain 1 ∷ []) ≡ Some BadDescriptor
chain_bit_missing = refl

pub chain_bit_missing_in_the_middle : fault_of Xfer (chained 1 ∷ plain 1 ∷ plain 1 ∷ []) ≡ Some BadDescriptor
chain_bit_missing_in_the_middle = refl

pub chain_bit_of_the_last : fault_of Xfer (chained 1 ∷ []) ≡ Some BadDescriptor
chain_bit_of_the_last = refl

pub setup_data_of_seven_bytes : fault_of Xfer (block 7 0x40 2 ∷ []) ≡ Some BadDescriptor
setup_data_of_seven_bytes = refl

pub setup_data_elsewhere : fault_of Xfer (block 8 0 2 ∷ []) ≡ Some BadDescriptor
setup_data_elsewhere = refl

pub setup_stage_of_a_reserved_transfer_type : fault_of Xfer (block 8 0x10040 2 ∷ []) ≡ Some BadDescriptor
setup_stage_of_a_reserved_transfer_type = refl

pub setup_stage_and_a_block : fault_of Xfer (block 8 0x50 2 ∷ plain 1 ∷ []) ≡ Some BadDescriptor
setup_stage_and_a_block = refl

pub status_stage_after_data : fault_of Xfer (chained 3 ∷ chained 1 ∷ plain 4 ∷ []) ≡ Some BadDescriptor
status_stage_after_data = refl

pub data_stage_after_a_normal_block : fault_of Xfer (chained 1 ∷ plain 3 ∷ []) ≡ Some BadDescriptor
data_stage_after_a_normal_block = refl

pub status_stage_of_two_blocks : fault_of Xfer (chained 4 ∷ plain 1 ∷ []) ≡ Some BadDescriptor
status_stage_of_two_blocks = refl

pub no_op_of_two_blocks : fault_of Xfer (chained 8 ∷ plain 8 ∷ []) ≡ Some BadDescriptor
no_op_of_two_blocks = refl

pub link_block : fault_of Xfer (plain 6 ∷ []) ≡ Some BadDescriptor
link_block = refl

pub link_block_in_the_middle : fault_of Xfer (chained 1 ∷ chained 6 ∷ plain 1 ∷ []) ≡ Some BadDescriptor
link_block_in_the_middle = refl

pub event_block : fault_of Xfer (plain 32 ∷ []) ≡ Some BadDescriptor
event_block = refl

pub command_block : fault_of Xfer (plain 23 ∷ []) ≡ Some BadDescriptor
command_block = refl

pub type_0 : fault_of Xfer (plain 0 ∷ []) ≡ Some BadDescriptor
type_0 = refl

pub isochronous : fault_of Xfer (plain 5 ∷ []) ≡ Some NotInProfile
isochronous = refl

pub event_data : fault_of Xfer (chained 1 ∷ plain 7 ∷ []) ≡ Some NotInProfile
event_data = refl

pub isochronous_with_a_chain_bit : fault_of Xfer (chained 5 ∷ []) ≡ Some BadDescriptor
isochronous_with_a_chain_bit = refl

pub other_interrupter : fault_of Xfer (block 0x400000 0 1 ∷ []) ≡ Some NotInProfile
other_interrupter = refl

pub other_interrupter_of_the_last : fault_of Xfer (chained 1 ∷ block 0xffc00000 0 1 ∷ []) ≡ Some NotInProfile
other_interrupter_of_the_last = refl

pub other_interrupter_and_a_cycle_bit : fault_of Xfer (block 0x400000 1 1 ∷ []) ≡ Some BadDescriptor
other_interrupter_and_a_cycle_bit = refl

-- ---- command rings

pub commands_of_the_profile : faults_of_commands (9 ∷ 10 ∷ 11 ∷ 12 ∷ 13 ∷ 14 ∷ 15 ∷ 16 ∷ 17 ∷ 23 ∷ []) ≡ replicate 10 None
commands_of_the_profile = refl

pub commands_left_out : faults_of_commands (18 ∷ 19 ∷ 20 ∷ 21 ∷ 22 ∷ 24 ∷ 25 ∷ 48 ∷ 63 ∷ []) ≡ replicate 9 (Some NotInProfile)
commands_left_out = refl

pub stream_dequeue : fault_of Cmd (record { w = 2 ∷ 0 ∷ 0 ∷ 0x4000 ∷ [] } ∷ []) ≡ Some NotInProfile
stream_dequeue = refl

pub dequeue_with_its_cycle_bit : fault_of Cmd (record { w = 0x30001 ∷ 0 ∷ 0 ∷ 0x1014000 ∷ [] } ∷ []) ≡ None
dequeue_with_its_cycle_bit = refl

pub reset_that_keeps_the_transfer_state : fault_of Cmd (block 0 0x200 14 ∷ []) ≡ Some NotInProfile
reset_that_keeps_the_transfer_state = refl

pub address_device_that_blocks_the_request : fault_of Cmd (block 0 0x200 11 ∷ []) ≡ None
address_device_that_blocks_the_request = refl

pub no_command : fault_of Cmd [] ≡ Some BadDescriptor
no_command = refl

pub two_commands : fault_of Cmd (chained 23 ∷ plain 23 ∷ []) ≡ Some BadDescriptor
two_commands = refl

pub two_commands_unchained : fault_of Cmd (plain 23 ∷ plain 23 ∷ []) ≡ Some BadDescriptor
two_commands_unchained = refl

pub command_with_a_cycle_bit : fault_of Cmd (block 0 1 23 ∷ []) ≡ Some BadDescriptor
command_with_a_cycle_bit = refl

pub command_with_a_chain_bit : fault_of Cmd (chained 23 ∷ []) ≡ Some BadDescriptor
command_with_a_chain_bit = refl

pub left_out_command_with_a_cycle_bit : fault_of Cmd (block 0 1 18 ∷ []) ≡ Some BadDescriptor
left_out_command_with_a_cycle_bit = refl

pub normal_block_on_a_command_ring : fault_of Cmd (plain 1 ∷ []) ≡ Some BadDescriptor
normal_block_on_a_command_ring = refl

pub link_on_a_command_ring : fault_of Cmd (plain 6 ∷ []) ≡ Some BadDescriptor
link_on_a_command_ring = refl

pub event_on_a_command_ring : fault_of Cmd (plain 33 ∷ []) ≡ Some BadDescriptor
event_on_a_command_ring = refl

pub reserved_type : fault_of Cmd (plain 26 ∷ []) ≡ Some BadDescriptor
reserved_type = refl

pub last_reserved_type : fault_of Cmd (plain 47 ∷ []) ≡ Some BadDescriptor
last_reserved_type = refl

-- ---- event rings take no descriptor

pub no_block_on_an_event_ring : fault_of Evt [] ≡ Some BadDescriptor
no_block_on_an_event_ring = refl

pub event_on_an_event_ring : fault_of Evt (plain 32 ∷ []) ≡ Some BadDescriptor
event_on_an_event_ring = refl

pub left_out_block_on_an_event_ring : fault_of Evt (plain 5 ∷ []) ≡ Some BadDescriptor
left_out_block_on_an_event_ring = refl
