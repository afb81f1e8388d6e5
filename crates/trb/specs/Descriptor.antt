-- The forms of descriptors (TDs) on a command and on a transfer ring, by which transfers there are: xHCI 3.2.8 to 3.2.11, 4.11.2, 6.4.1, 6.4.3
use Rattle.std.specs.Prelude.{ℕ, ◌==◌, ◌&&◌, ◌||◌, if◌then◌else◌, Bool, true, false, not, List, [], ◌∷◌, length, nat_lt, codes, Option, Some, None}
use Rattle.std.specs.List.{list_all, list_any}
use Rattle.trb.specs.declared.block.Block.{Block}
use Rattle.trb.specs.declared.kind.BlockKind.{BlockKind}
use Rattle.trb.specs.declared.kind.BlockKind.TheVariants.{Normal, SetupStage, DataStage, StatusStage, Isoch, NoOp, SetTrDequeue, ResetEndpoint}
use Rattle.trb.specs.declared.fault.Fault.{Fault}
use Rattle.trb.specs.declared.fault.Fault.TheVariants.{BadDescriptor, NotInProfile}
use Rattle.trb.specs.declared.profile.Profile.{Profile}
use Rattle.trb.specs.declared.profile.Profile.TheVariants.{Basic}
use Rattle.trb.specs.declared.ring_kind.RingKind.{RingKind}
use Rattle.trb.specs.declared.ring_kind.RingKind.TheVariants.{Cmd, Evt, Xfer}
use Rattle.trb.specs.Bits.{bits, is_set}
use Rattle.trb.specs.Block.{word, cycle, kind, is_chained}
use Rattle.trb.specs.Kind.{is_event_data, carries_on, is_transfer, is_left_out_transfer, is_command, is_left_out_command}

abbrev pub fault_number : Fault → ℕ
fault_number BadDescriptor = 16
fault_number NotInProfile = 23

-- the name that is printed
abbrev pub fault_name : Fault → List ℕ
fault_name BadDescriptor = codes "BadDescriptor"
fault_name NotInProfile = codes "NotInProfile"

-- the Chain bit is 1 in all blocks but the last, and 0 there
abbrev pub is_chain : List Block → Bool
is_chain [] = false
is_chain (b ∷ []) = not (is_chained b)
is_chain (b ∷ c ∷ rest) = is_chained b && is_chain (c ∷ rest)

-- how many blocks a descriptor has at most: this project's limit
abbrev pub most_blocks : ℕ
most_blocks = 4096

-- an empty list, one of too many blocks, a Cycle bit of 1, a wrong Chain bit
abbrev pub is_badly_formed : List Block → Bool
is_badly_formed blocks = nat_lt most_blocks (length blocks) || list_any (λ b. cycle b == 1) blocks || not (is_chain blocks)

-- eight bytes of setup data in the block itself (IDT), and no reserved transfer type (TRT)
abbrev pub has_setup_data : Block → Bool
has_setup_data b = bits (word b 2) 0 17 == 8 && is_set (word b 3) 6 && not (bits (word b 3) 16 2 == 1)

-- each goes on with the descriptor: Normal and Event Data blocks, in any order (xHCI 4.11.5.2)
abbrev pub carry_on : List Block → Bool
carry_on blocks = list_all (λ b. carries_on (kind b)) blocks

-- behind a Status Stage: nothing, or one Event Data block (xHCI 4.11.2.2)
abbrev pub ends_status : List Block → Bool
ends_status [] = true
ends_status (b ∷ []) = is_event_data (kind b)
ends_status _ = false

-- which blocks may follow a first one of this type
abbrev pub may_begin : BlockKind → Block → List Block → Bool
may_begin Normal b rest = carry_on rest
may_begin SetupStage b rest = has_setup_data b && length rest == 0
may_begin DataStage b rest = carry_on rest
may_begin StatusStage b rest = ends_status rest
may_begin Isoch b rest = carry_on rest
may_begin NoOp b rest = length rest == 0
may_begin _ b rest = false

-- a Setup Stage or a No Op alone; a Status Stage; a Normal block, a Data Stage or an Isoch, and those with which it goes on
abbrev pub is_transfer_arrangement : List Block → Bool
is_transfer_arrangement [] = false
is_transfer_arrangement (b ∷ rest) = may_begin (kind b) b rest

abbrev pub has_left_out_type : Profile → List Block → Bool
has_left_out_type profile blocks = list_any (λ b. is_left_out_transfer profile (kind b)) blocks

-- an interrupter target, word 2 bits 31:22, other than 0
abbrev pub has_other_target : Block → Bool
has_other_target b = not (bits (word b 2) 22 10 == 0)

-- a block whose type is no transfer type
abbrev pub has_other_type : List Block → Bool
has_other_type blocks = list_any (λ b. not (is_transfer (kind b))) blocks

-- beside a block that is left out the arrangement isn't looked at, the types are
abbrev pub is_bad_transfer : Profile → List Block → Bool
is_bad_transfer profile blocks =
    is_badly_formed blocks || has_other_type blocks || (not (is_transfer_arrangement blocks) && not (has_left_out_type profile blocks))

abbrev pub is_transfer_left_out : Profile → List Block → Bool
is_transfer_left_out profile blocks = has_left_out_type profile blocks || list_any has_other_target blocks

-- Set TR Dequeue of a stream (SCT above 0); Reset Endpoint that keeps the transfer state (TSP)
abbrev pub has_left_out_field : BlockKind → Block → Bool
has_left_out_field SetTrDequeue b = not (bits (word b 0) 1 3 == 0)
has_left_out_field ResetEndpoint b = is_set (word b 3) 9
has_left_out_field _ b = false

abbrev pub is_command_left_out : Block → Bool
is_command_left_out b = is_left_out_command (kind b) || has_left_out_field (kind b) b

abbrev pub is_no_command : Block → Bool
is_no_command b = not (is_command (kind b)) && not (is_left_out_command (kind b))

-- a command is one block
abbrev pub is_bad_command : List Block → Bool
is_bad_command blocks = is_badly_formed blocks || not (length blocks == 1) || list_any is_no_command blocks

-- no form of a descriptor of such a ring
abbrev pub is_bad_descriptor : Profile → RingKind → List Block → Bool
is_bad_descriptor profile Cmd blocks = is_bad_command blocks
is_bad_descriptor profile Xfer blocks = is_bad_transfer profile blocks
is_bad_descriptor profile Evt blocks = true

-- outside the profile
abbrev pub is_left_out : Profile → RingKind → List Block → Bool
is_left_out profile Cmd blocks = list_any is_command_left_out blocks
is_left_out profile Xfer blocks = is_transfer_left_out profile blocks
is_left_out profile Evt blocks = false

-- what is wrong with these blocks as a descriptor of such a ring; where both hold, no form comes first
abbrev pub fault_in : Profile → RingKind → List Block → Option Fault
fault_in profile r blocks =
    if is_bad_descriptor profile r blocks then Some BadDescriptor else
    if is_left_out profile r blocks then Some NotInProfile else None

-- the same by the basic profile
abbrev pub fault_of : RingKind → List Block → Option Fault
fault_of r blocks = fault_in Basic r blocks
