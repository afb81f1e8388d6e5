-- Commands by the slots that they name
use Rattle.std.specs.Prelude.{ℕ, ◌&&◌, Bool, false, nat_lt, Option, Some, None}
use Rattle.commands.specs.declared.command.Command.{Command}
use Rattle.commands.specs.Command.{named_slot}

abbrev pub is_below : ℕ → Option ℕ → Bool
is_below n None = false
is_below n (Some s) = nat_lt s n

-- the command names a slot below n, and passes the test
abbrev pub names_below : (Command → Bool) → ℕ → Command → Bool
names_below p n c = is_below n (named_slot c) && p c
