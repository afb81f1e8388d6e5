-- The ranges that a command takes: its input context, and of a slot that takes a device context the entry and that context: xHCI 4.6.5, 6.1
use Rattle.std.specs.Prelude.{◌≡◌, ℕ, ◌+◌, ◌^◌, ◌≤◌, true, List, [], ◌∷◌, ◌++◌, Option, Some, None}
use Rattle.contexts.specs.Contexts.{device_context_bytes}
use Rattle.commands.specs.declared.command.Command.{Command}
use Rattle.traces.specs.declared.header.Header.{Header}
use Rattle.ring_knowledge.specs.Known.{Known}
use Rattle.ring_knowledge.specs.Writes.{entry_of, taken_device}
use Rattle.ownership_rules.specs.OpenLeases.{Leased, Range, SlotEntry, DeviceContext, range_of_command}
use Rattle.leases.specs.LeaseBooks.Lents.{Lent}
use Rattle.leases.specs.LeaseBooks.Ranges.{is_use_free}

-- the entry and the device context, in the order of leases that begin at one row
abbrev pub slot_taken : Header → Known → Option (ℕ × ℕ) → List Leased
slot_taken h k None = []
slot_taken h k (Some e) = Range 8 (entry_of k e.0) (SlotEntry e.0) ∷ Range (device_context_bytes h.context_size) e.1 (DeviceContext e.0) ∷ []

-- with the input context of the command at a position
abbrev pub command_taken : Header → Known → ℕ → Command → List Leased
command_taken h k p c = slot_taken h k (taken_device k c) ++ range_of_command h p (Some c)

-- the entry of a slot that takes a device context ends within the address space
abbrev pub EntryFits : Known → Option (ℕ × ℕ) → Type 0
EntryFits k None = Unit {0}
EntryFits k (Some e) = entry_of k e.0 + 8 ≤ 2 ^ 64

-- none of these ranges is lent
abbrev pub SlotIsFree : Header → List Lent → Option (ℕ × ℕ) → Type 0
SlotIsFree h ts None = Unit {0}
SlotIsFree h ts (Some e) = (is_use_free h ts (SlotEntry e.0) ≡ true) × (is_use_free h ts (DeviceContext e.0) ≡ true)
