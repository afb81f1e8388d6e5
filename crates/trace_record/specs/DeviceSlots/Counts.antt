-- How many endpoints of a slot have a command
use Rattle.std.specs.Prelude.{ℕ, ◌+◌, ◌*◌, if◌then◌else◌, List, None, is_some, nat_lt, slice_index_or}
use Rattle.std.specs.List.{range_with_len, sum_by}
use Rattle.trace_record.specs.declared.device_record.unfinished.KeptCommand.{KeptCommand}

abbrev pub no_command : KeptCommand
no_command = record { command = None }

-- what is kept of an endpoint: of each slot there are 32
abbrev pub kept_at : List KeptCommand → ℕ → ℕ → KeptCommand
kept_at kept s i = if nat_lt i 32 then slice_index_or kept (s * 32 + i) no_command else no_command

-- one for a command, else none
abbrev pub kept_count : KeptCommand → ℕ
kept_count kept = if is_some kept.command then 1 else 0

-- of the endpoints of slot s, those with the indices 1 to 31
unfoldable pub endpoint_count : List KeptCommand → ℕ → ℕ
endpoint_count kept s = sum_by (λ i. kept_count (kept_at kept s i)) (range_with_len 1 31)
