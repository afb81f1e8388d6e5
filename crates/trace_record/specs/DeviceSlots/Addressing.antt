-- The Address Device commands among those that are kept of slots: xHCI 4.6.5
use Rattle.std.specs.Prelude.{ℕ, Bool, true, false, if◌then◌else◌, Option, Some, None}
use Rattle.commands.specs.declared.command.Command.{Command}
use Rattle.commands.specs.declared.command.Command.TheVariants.{AddressDevice}
use Rattle.trace_record.specs.declared.device_record.unfinished.KeptCommand.{KeptCommand}

abbrev pub is_address_device : Command → Bool
is_address_device (AddressDevice s bsr c) = true
is_address_device _ = false

abbrev pub is_addressing : Option Command → Bool
is_addressing None = false
is_addressing (Some c) = is_address_device c

-- one for an Address Device, else none
abbrev pub addressing_count : KeptCommand → ℕ
addressing_count kept = if is_addressing kept.command then 1 else 0
