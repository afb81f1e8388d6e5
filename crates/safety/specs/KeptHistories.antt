-- Rows of which it is said what they keep of each ring
use Rattle.std.specs.Prelude.{◌≡◌, true, Some}
use Rattle.trb.specs.Block.{kind, code}
use Rattle.trb.specs.Kind.{is_command_completion}
use Rattle.commands.specs.declared.command.Command.{Command}
use Rattle.traces.specs.declared.header.Header.{Header}
use Rattle.traces.specs.declared.row.Row.{Row}
use Rattle.traces.specs.declared.row.Row.TheVariants.{Sub, Write, Reg, Bell, Read, RegRead}
use Rattle.ring_knowledge.specs.Known.{Known}
use Rattle.ring_knowledge.specs.Rings.{command_at, next_command}
use Rattle.safety.specs.Placings.{MayFinish, StillHolds}

-- the row declares a descriptor, writes a word, a register or a doorbell, or reads a register
abbrev pub IsDriverRow : Row → Type 0
IsDriverRow (Sub r blocks) = Unit {0}
IsDriverRow (Write a w) = Unit {0}
IsDriverRow (Reg r v) = Unit {0}
IsDriverRow (Bell s t) = Unit {0}
IsDriverRow (RegRead r v) = Unit {0}
IsDriverRow _ = ⊥

module _ (h : Header) where
  -- a completion places endpoints where it may
  abbrev pub MayRead : Known → Row → Type 0
  MayRead k (Read b) = is_command_completion (kind b) ≡ true → MayFinish h k b
  MayRead k _ = Unit {0}

  -- of a command that succeeds holds still what was tested when it was given
  abbrev pub StillReads : Known → Row → Type 0
  StillReads k (Read b) =
      is_command_completion (kind b) ≡ true → (c : Command) → command_at h k (next_command h k) ≡ Some c → code b ≡ 1 → StillHolds h k c
  StillReads k _ = Unit {0}
