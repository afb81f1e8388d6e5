-- Which ranges the completion of a command lets go: xHCI 4.6, 4.6.4
use Rattle.std.specs.Prelude.{ℕ, ◌==◌, if◌then◌else◌, Bool, List, [], ◌++◌, Option, Some, None}
use Rattle.commands.specs.declared.command.Command.{Command}
use Rattle.commands.specs.declared.command.Command.TheVariants.{DisableSlot}
use Rattle.traces.specs.declared.header.Header.{Header}
use Rattle.ring_knowledge.specs.Known.{Known}
use Rattle.ring_knowledge.specs.Rings.{command_at, next_command}
use Rattle.ownership_rules.specs.OpenLeases.{Leased, range_of_command, range_of_device, range_of_entry}

-- the slot that a command disables, if its completion tells success
abbrev pub slot_disabled : Command → Option ℕ
slot_disabled (DisableSlot s) = Some s
slot_disabled _ = None

abbrev pub slot_left : Bool → Option Command → Option ℕ
slot_left success None = None
slot_left success (Some c) = if success then slot_disabled c else None

-- the device contexts, without that of a slot
abbrev pub devices_without : (ℕ → Option ℕ) → Option ℕ → ℕ → Option ℕ
devices_without devices None t = devices t
devices_without devices (Some s) t = if t == s then None else devices t

-- the ranges of a slot: its entry in the DCBAA, and its device context
abbrev pub slot_ranges : Header → Known → Option ℕ → List Leased
slot_ranges h k None = []
slot_ranges h k (Some s) = range_of_entry k s (k.device s) ++ range_of_device h s (k.device s)

-- the input context of the command that is finished next, with the ranges of the slot that it disables
abbrev pub let_go : Header → Known → Option ℕ → List Leased
let_go h k left = range_of_command h (next_command h k) (command_at h k (next_command h k)) ++ slot_ranges h k left
