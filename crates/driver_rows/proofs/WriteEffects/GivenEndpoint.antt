-- The endpoint that a given command names
use Rattle.driver_rows.proofs.Words.{rules, ◌≡◌, ℕ, ◌<◌, false, Option, Some, None, option_and_then, slice_get, or_parts, Block, BlockKind, Command, command_by_kind, command_of, named_endpoint, Header, command_id, Known, command_at, command_given, NamesEndpoint}
use Rattle.ownership_rules.specs.Commands as commands

-- ---- its index is below 32

abbrev IsBelow : Option (ℕ × ℕ) → Type 0
IsBelow None = Unit {0}
IsBelow (Some e) = e.1 < 32

abbrev AllBelow : Option Command → Type 0
AllBelow None = Unit {0}
AllBelow (Some c) = IsBelow (named_endpoint c)

of_kind : (n : BlockKind) (b : Block) → AllBelow (command_by_kind n b)
of_kind n b = search rules

of_declared : (o : Option Block) → AllBelow (option_and_then command_of o)
of_declared o = search (rules, of_kind)

at_position : (h : Header) (k : Known) (p : ℕ) → AllBelow (command_at h k p)
unfolding command_at
at_position h k p = of_declared (slice_get (k.ring (command_id h)).queue p)

-- ---- and isn't 0, where the command is good

pub given_endpoint : (h : Header) (k : Known) (a w : ℕ) (c : Command) → command_given h k a w ≡ Some c → commands.is_bad_command h k c ≡ false → NamesEndpoint c
unfolding commands.is_bad_command command_given commands.names_disabled_endpoint
given_endpoint h k a w c at good = search (rules, at_position, or_parts)
