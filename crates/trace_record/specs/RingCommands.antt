-- The commands that one ring declares: xHCI 4.6
use Rattle.std.specs.Prelude.{ℕ, List, Option, option_and_then, slice_get}
use Rattle.trb.specs.declared.block.Block.{Block}
use Rattle.segments.specs.RingView.{RingView}
use Rattle.commands.specs.declared.command.Command.{Command}
use Rattle.commands.specs.Command.{command_of}

-- the command that is declared at a position
abbrev pub command_in : List Block → ℕ → Option Command
command_in queue p = option_and_then command_of (slice_get queue p)

-- the command that a write gives which gives these positions of the command ring
abbrev pub command_on : RingView → List ℕ → Option Command
command_on v ps = option_and_then (command_in v.queue) (slice_get ps 0)
