-- What the trace's version refuses of a word that is written, and of a command that is given
use Rattle.std.specs.Prelude.{ℕ, ◌&&◌, ◌||◌, Bool, not}
use Rattle.commands.specs.declared.command.Command.{Command}
use Rattle.traces.specs.declared.header.Header.{Header}
use Rattle.traces.specs.declared.row.Row.TheVariants.{Write}
use Rattle.traces.specs.Versions.{is_lenient}
use Rattle.ring_knowledge.specs.Known.{Known}
use Rattle.ownership_rules.specs.declared.refusal.Refusal.TheVariants.{WriteToOwned}
use Rattle.ownership_rules.specs.Commands as commands
use Rattle.ownership_rules.specs.Moves as moves
use Rattle.ownership_rules.specs.Writes as writes
use Rattle.ownership_rules.specs.Older.{is_busy_before, stricter}

module _ (h : Header) where
  -- the write breaks WriteToOwned, by the trace's version
  unfoldable pub writes_to_owned : Known → ℕ → ℕ → Bool
  writes_to_owned k a w = stricter h k (Write a w) WriteToOwned || writes.changes_owned h k a w

  -- of a command that is given: an unfinished command of its slot excludes it, or merely shares the slot where the version refuses that
  unfoldable pub has_busy_slot : Known → Command → Bool
  has_busy_slot k c = is_busy_before h k c || commands.is_busy h k c

  -- of a command that is given: an endpoint that is added has streams, or is isochronous where the version refuses that
  unfoldable pub has_left_out_endpoint : Known → Command → Bool
  has_left_out_endpoint k c = (commands.adds_isochronous h k c && not (is_lenient h.version)) || commands.adds_streams h k c

  -- of a command that is given: it binds or moves a ring where the version refuses that
  unfoldable pub places_badly : Known → Command → Bool
  places_badly k c = (moves.binds_again h k c && not (is_lenient h.version)) || moves.is_bad_binding h k c || moves.is_bad_move h k c
