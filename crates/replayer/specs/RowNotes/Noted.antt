-- The notes of a row, before where rings stand is noted
use Rattle.std.specs.Prelude.{◌≡◌, ℕ, ◌++◌, true, List, [], is_some, map, All}
use Rattle.trb.specs.CompletionCode.{is_stopping}
use Rattle.traces.specs.declared.header.Header.{Header}
use Rattle.traces.specs.Header.{command_ring}
use Rattle.traces.specs.declared.row.Row.{Row}
use Rattle.traces.specs.declared.row.Row.TheVariants.{Read}
use Rattle.ring_knowledge.specs.Known.{Known}
use Rattle.ring_knowledge.specs.Histories.{known_after}
use Rattle.ownership_rules.specs.LenientRules.{lenient}
use Rattle.safety.specs.Keeps.{IsTransferRing}
use Rattle.replayer.specs.declared.lazy_steps.note.Note.{Note}
use Rattle.replayer.specs.LazySteps.Notes.{floor_note, row_notes}

-- with where these rings stand behind the row, all notes of the row are added
pub record AreNoted (h : Header) (k : Known) (row : Row) (old new : List Note) (placed : List ℕ) : Type 0 where
  pub notes : new ++ map (floor_note (known_after h k row)) placed ≡ old ++ row_notes h k row
  pub rings : All (IsTransferRing h) placed

-- an event that is read breaks no rule
abbrev pub MayBeRead : Header → Known → Row → Type 0
MayBeRead h k (Read b) = lenient h k (Read b) ≡ []
MayBeRead h k _ = Unit {0}

-- an event with this code tells of a stop only while a command ring is there
abbrev pub StopsByCommand : Header → ℕ → Type 0
StopsByCommand h code = is_stopping code ≡ true → is_some (command_ring h) ≡ true
