-- What a command block says: xHCI 4.6, 6.4.3
use Rattle.std.specs.Prelude.{◌≡◌, ℕ, ◌==◌, ◌&&◌, Bool, true, false, not, if◌then◌else◌, Option, Some, None}
use Rattle.trb.specs.declared.block.Block.{Block}
use Rattle.trb.specs.declared.kind.BlockKind.{BlockKind}
use Rattle.trb.specs.declared.kind.BlockKind.TheVariants as kinds
use Rattle.trb.specs.Bits.{is_set}
use Rattle.trb.specs.Descriptor.{is_command_left_out}
use Rattle.trb.specs.Block.{aligned, word, kind, pointer, slot, endpoint}
use Rattle.commands.specs.declared.command.Command.{Command}
use Rattle.commands.specs.declared.command.Command.TheVariants.{NoOp, EnableSlot, DisableSlot, AddressDevice, ConfigureEndpoint, EvaluateContext, ResetEndpoint, StopEndpoint, SetTrDequeue, ResetDevice}

-- word 3 bit 9: BSR of Address Device, DC of Configure Endpoint
abbrev pub option_bit : Block → Bool
option_bit b = is_set (word b 3) 9

abbrev pub command_by_kind : BlockKind → Block → Option Command
command_by_kind kinds.NoOpCommand b = Some NoOp
command_by_kind kinds.EnableSlot b = Some EnableSlot
command_by_kind kinds.DisableSlot b = Some (DisableSlot (slot b))
command_by_kind kinds.AddressDevice b = Some (AddressDevice (slot b) (option_bit b) (aligned (pointer b)))
command_by_kind kinds.ConfigureEndpoint b = Some (ConfigureEndpoint (slot b) (option_bit b) (aligned (pointer b)))
command_by_kind kinds.EvaluateContext b = Some (EvaluateContext (slot b) (aligned (pointer b)))
command_by_kind kinds.ResetEndpoint b = Some (ResetEndpoint (slot b) (endpoint b))
command_by_kind kinds.StopEndpoint b = Some (StopEndpoint (slot b) (endpoint b))
command_by_kind kinds.SetTrDequeue b = Some (SetTrDequeue (slot b) (endpoint b) (aligned (pointer b)) (is_set (word b 0) 0))
command_by_kind kinds.ResetDevice b = Some (ResetDevice (slot b))
command_by_kind _ b = None

-- the command of a block, where it is one of the profile by its type and its fields
abbrev pub command_of : Block → Option Command
command_of b = if is_command_left_out b then None else command_by_kind (kind b) b

-- some block says the command
abbrev pub IsSaid : Command → Type 0
IsSaid c = (b : Block) × (command_of b ≡ Some c)

-- the slot that a command names
abbrev pub named_slot : Command → Option ℕ
named_slot NoOp = None
named_slot EnableSlot = None
named_slot (DisableSlot s) = Some s
named_slot (AddressDevice s bsr c) = Some s
named_slot (ConfigureEndpoint s dc c) = Some s
named_slot (EvaluateContext s c) = Some s
named_slot (ResetEndpoint s i) = Some s
named_slot (StopEndpoint s i) = Some s
named_slot (SetTrDequeue s i p c) = Some s
named_slot (ResetDevice s) = Some s

-- the endpoint that a command names, by slot and index
abbrev pub named_endpoint : Command → Option (ℕ × ℕ)
named_endpoint (ResetEndpoint s i) = Some (s, i)
named_endpoint (StopEndpoint s i) = Some (s, i)
named_endpoint (SetTrDequeue s i p c) = Some (s, i)
named_endpoint _ = None

-- the input context that a command reads; with DC 1 Configure Endpoint reads none
abbrev pub named_context : Command → Option ℕ
named_context (AddressDevice s bsr c) = Some c
named_context (ConfigureEndpoint s dc c) = if dc then None else Some c
named_context (EvaluateContext s c) = Some c
named_context _ = None

abbrev pub same_slot : Option ℕ → Option ℕ → Bool
same_slot (Some s) (Some t) = s == t
same_slot (Some s) None = false
same_slot None _ = false

-- both name a slot, and the same one
abbrev pub name_one_slot : Command → Command → Bool
name_one_slot c d = same_slot (named_slot c) (named_slot d)

abbrev pub other_endpoint : Option (ℕ × ℕ) → Option (ℕ × ℕ) → Bool
other_endpoint (Some e) (Some f) = not (e.0 == f.0 && e.1 == f.1)
other_endpoint (Some e) None = false
other_endpoint None _ = false

-- each is a Reset Endpoint, a Stop Endpoint or a Set TR Dequeue Pointer, and they name different endpoints: xHCI 4.6.8 to 4.6.10
abbrev pub name_two_endpoints : Command → Command → Bool
name_two_endpoints c d = other_endpoint (named_endpoint c) (named_endpoint d)

-- of one slot, and not of two endpoints
abbrev pub exclude_by_slot : Command → Command → Bool
exclude_by_slot c d = name_one_slot c d && not (name_two_endpoints c d)

abbrev pub is_slot_or_any : Option ℕ → ℕ → Bool
is_slot_or_any None n = true
is_slot_or_any (Some s) n = s == n

-- the slot of its completion may be n: the one that it names, or any where it names none
abbrev pub may_answer_slot : Option Command → ℕ → Bool
may_answer_slot None n = true
may_answer_slot (Some c) n = is_slot_or_any (named_slot c) n

-- a Stop Endpoint for the endpoint of slot s with index i
abbrev pub is_stop_of : ℕ → ℕ → Option Command → Bool
is_stop_of s i (Some (StopEndpoint t j)) = s == t && i == j
is_stop_of s i _ = false
