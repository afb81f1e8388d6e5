-- What a record of the unfinished commands holds: of each slot the one that is about the slot as a whole, and the one of each endpoint
use Rattle.std.specs.Prelude.{◌≡◌, ℕ, ◌==◌, if◌then◌else◌, List, [], ◌∷◌, Option, Some, None, filter, slice_index_or}
use Rattle.std.specs.List.{All}
use Rattle.commands.specs.declared.command.Command.{Command}
use Rattle.trace_record.specs.declared.device_record.unfinished.UnfinishedCommands.{UnfinishedCommands}
use Rattle.trace_record.specs.DeviceSlots.Counts.{kept_at, no_command}
use Rattle.trace_record.specs.DeviceSlots.Indices.{NamesEndpoint, is_about}

abbrev pub as_list : Option Command → List Command
as_list None = []
as_list (Some c) = c ∷ []

-- the command that is kept of an index of a slot; index 0 is that of the slot as a whole
abbrev pub kept_of : UnfinishedCommands → ℕ → ℕ → Option Command
kept_of u s i = if i == 0 then (slice_index_or u.by_slot.items s no_command).command else (kept_at u.by_endpoint.items s i).command

-- of these commands at most one is about each slot as a whole, and about each endpoint at most one, and that one is kept; slots above 255
-- are named by none
pub record FollowsUnfinished (commands : List Command) (u : UnfinishedCommands) : Type 0 where
  pub each : (s i : ℕ) → filter (is_about s i) commands ≡ as_list (kept_of u s i)
  pub endpoints : All NamesEndpoint commands
