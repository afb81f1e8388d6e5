-- The types of blocks: xHCI 6.4.6, table 6-91
use Rattle.std.specs.Prelude.{ℕ, Bool, true, false, List, [], ◌∷◌, codes, ◌||◌, ◌&&◌, ◌==◌, nat_le, slice_index_or}
use Rattle.trb.specs.declared.kind.BlockKind.{BlockKind}
use Rattle.trb.specs.declared.profile.Profile.{Profile}
use Rattle.trb.specs.declared.profile.Profile.TheVariants.{Basic}
use Rattle.trb.specs.declared.kind.BlockKind.TheVariants.{Normal, SetupStage, DataStage, StatusStage, Isoch, Link, EventData, NoOp, EnableSlot, DisableSlot, AddressDevice, ConfigureEndpoint, EvaluateContext, ResetEndpoint, StopEndpoint, SetTrDequeue, ResetDevice, NoOpCommand, TransferEvent, CommandCompletion, PortStatusChange, BandwidthRequest, Doorbell, HostController, DeviceNotification, MfindexWrap, Unknown}

-- the types by their numbers, from 0 on
abbrev pub kinds : List BlockKind
kinds =
    Unknown 0 ∷ Normal ∷ SetupStage ∷ DataStage ∷ StatusStage ∷ Isoch ∷ Link ∷ EventData ∷ NoOp
    ∷ EnableSlot ∷ DisableSlot ∷ AddressDevice ∷ ConfigureEndpoint ∷ EvaluateContext ∷ ResetEndpoint ∷ StopEndpoint ∷ SetTrDequeue ∷ ResetDevice
    ∷ Unknown 18 ∷ Unknown 19 ∷ Unknown 20 ∷ Unknown 21 ∷ Unknown 22 ∷ NoOpCommand
    ∷ Unknown 24 ∷ Unknown 25 ∷ Unknown 26 ∷ Unknown 27 ∷ Unknown 28 ∷ Unknown 29 ∷ Unknown 30 ∷ Unknown 31
    ∷ TransferEvent ∷ CommandCompletion ∷ PortStatusChange ∷ BandwidthRequest ∷ Doorbell ∷ HostController ∷ DeviceNotification ∷ MfindexWrap ∷ []

-- the type with this number
abbrev pub kind_numbered : ℕ → BlockKind
kind_numbered n = slice_index_or kinds n (Unknown n)

-- the number of a type
abbrev pub number_of : BlockKind → ℕ
number_of Normal = 1
number_of SetupStage = 2
number_of DataStage = 3
number_of StatusStage = 4
number_of Isoch = 5
number_of Link = 6
number_of EventData = 7
number_of NoOp = 8
number_of EnableSlot = 9
number_of DisableSlot = 10
number_of AddressDevice = 11
number_of ConfigureEndpoint = 12
number_of EvaluateContext = 13
number_of ResetEndpoint = 14
number_of StopEndpoint = 15
number_of SetTrDequeue = 16
number_of ResetDevice = 17
number_of NoOpCommand = 23
number_of TransferEvent = 32
number_of CommandCompletion = 33
number_of PortStatusChange = 34
number_of BandwidthRequest = 35
number_of Doorbell = 36
number_of HostController = 37
number_of DeviceNotification = 38
number_of MfindexWrap = 39
number_of (Unknown n) = n

-- the name that is printed
abbrev pub kind_name : BlockKind → List ℕ
kind_name Normal = codes "Normal"
kind_name SetupStage = codes "SetupStage"
kind_name DataStage = codes "DataStage"
kind_name StatusStage = codes "StatusStage"
kind_name Isoch = codes "Isoch"
kind_name Link = codes "Link"
kind_name EventData = codes "EventData"
kind_name NoOp = codes "NoOp"
kind_name EnableSlot = codes "EnableSlot"
kind_name DisableSlot = codes "DisableSlot"
kind_name AddressDevice = codes "AddressDevice"
kind_name ConfigureEndpoint = codes "ConfigureEndpoint"
kind_name EvaluateContext = codes "EvaluateContext"
kind_name ResetEndpoint = codes "ResetEndpoint"
kind_name StopEndpoint = codes "StopEndpoint"
kind_name SetTrDequeue = codes "SetTRDequeue"
kind_name ResetDevice = codes "ResetDevice"
kind_name NoOpCommand = codes "NoOpCommand"
kind_name TransferEvent = codes "TransferEvent"
kind_name CommandCompletion = codes "CommandCompletion"
kind_name PortStatusChange = codes "PortStatusChange"
kind_name BandwidthRequest = codes "BandwidthRequest"
kind_name Doorbell = codes "Doorbell"
kind_name HostController = codes "HostController"
kind_name DeviceNotification = codes "DeviceNotification"
kind_name MfindexWrap = codes "MFINDEXWrap"
kind_name (Unknown n) = codes "Unknown"

abbrev pub is_normal : BlockKind → Bool
is_normal Normal = true
is_normal _ = false

abbrev pub is_link : BlockKind → Bool
is_link Link = true
is_link _ = false

-- Event Data: the value that an event tells instead of the address of a block (xHCI 4.11.5.2, 6.4.4.2)
abbrev pub is_event_data : BlockKind → Bool
is_event_data EventData = true
is_event_data _ = false

-- the types with which a descriptor goes on behind its first block
abbrev pub carries_on : BlockKind → Bool
carries_on Normal = true
carries_on EventData = true
carries_on _ = false

-- the types that a transfer descriptor may have, in the profile or not; a Link belongs to no descriptor
abbrev pub is_transfer : BlockKind → Bool
is_transfer Normal = true
is_transfer SetupStage = true
is_transfer DataStage = true
is_transfer StatusStage = true
is_transfer Isoch = true
is_transfer EventData = true
is_transfer NoOp = true
is_transfer _ = false

-- blocks of transfers that a profile leaves out: isochronous ones, and Event Data
abbrev pub is_left_out_transfer : Profile → BlockKind → Bool
is_left_out_transfer Basic Isoch = true
is_left_out_transfer Basic EventData = true
is_left_out_transfer _ _ = false

abbrev pub is_command : BlockKind → Bool
is_command EnableSlot = true
is_command DisableSlot = true
is_command AddressDevice = true
is_command ConfigureEndpoint = true
is_command EvaluateContext = true
is_command ResetEndpoint = true
is_command StopEndpoint = true
is_command SetTrDequeue = true
is_command ResetDevice = true
is_command NoOpCommand = true
is_command _ = false

-- commands of virtual functions, bandwidth, latency and extended properties, and vendors' own: not in the profile
abbrev pub is_left_out_command : BlockKind → Bool
is_left_out_command (Unknown n) = (nat_le 18 n && nat_le n 22) || n == 24 || n == 25 || nat_le 48 n
is_left_out_command _ = false

abbrev pub is_transfer_event : BlockKind → Bool
is_transfer_event TransferEvent = true
is_transfer_event _ = false

abbrev pub is_command_completion : BlockKind → Bool
is_command_completion CommandCompletion = true
is_command_completion _ = false

-- events of the controller itself: nothing of a ring rests on them
abbrev pub is_other_event : BlockKind → Bool
is_other_event PortStatusChange = true
is_other_event BandwidthRequest = true
is_other_event Doorbell = true
is_other_event HostController = true
is_other_event DeviceNotification = true
is_other_event MfindexWrap = true
is_other_event _ = false

abbrev pub is_event : BlockKind → Bool
is_event k = is_transfer_event k || is_command_completion k || is_other_event k
