-- What a row is about: where the word lies that it writes, the command that it gives or ends, and whether the controller owns what it writes
use Rattle.std.specs.Prelude.{◌≡◌, ℕ, ◌%◌, true, Bool, Option, None, Some, if◌then◌else◌, is_some, option_and_then, position, slice_get}
use Rattle.trb.specs.Block.{kind}
use Rattle.trb.specs.declared.kind.BlockKind.TheVariants.{CommandCompletion}
use Rattle.segments.specs.Places.{touches}
use Rattle.segments.specs.RingView.{positions_given, crossings_given}
use Rattle.commands.specs.declared.command.Command.{Command}
use Rattle.traces.specs.declared.ring.Ring.{Ring}
use Rattle.traces.specs.declared.header.Header.{Header}
use Rattle.traces.specs.declared.row.Row.{Row}
use Rattle.traces.specs.declared.row.Row.TheVariants.{Write, Read}
use Rattle.traces.specs.Header.{command_ring, is_command_kind, is_driver_kind, is_event_kind}
use Rattle.ring_knowledge.specs.declared.ring_record.RingGiving.{RingGiving}
use Rattle.ring_knowledge.specs.Known.{Known}
use Rattle.ring_knowledge.specs.RingRecords.{positions_of, crossings_of}
use Rattle.ring_knowledge.specs.Rings.{command_at, next_command}
use Rattle.ring_knowledge.specs.Writes.{command_given}
use Rattle.ownership_rules.specs.ByVersion.{writes_to_owned}
use Rattle.trace_record.specs.declared.row_place.RowPlace.{RowPlace}
use Rattle.trace_record.specs.Owned.{rings_have}
use Rattle.trace_record.specs.RingCommands.{command_on}

-- the write of a word gives this of a ring: of the event ring nothing
pub record IsGivenOn (k : Known) (at word : ℕ) (ring : Ring) (giving : Option RingGiving) : Type 0 where
  pub positions : is_driver_kind ring.shape.kind ≡ true → positions_given ring.shape (k.ring ring.id) at word ≡ positions_of giving
  pub crossings : is_driver_kind ring.shape.kind ≡ true → crossings_given ring.shape (k.ring ring.id) at word ≡ crossings_of giving
  pub events : is_event_kind ring.shape.kind ≡ true → giving ≡ None

-- of the ring with this number in the header, if one has the word
abbrev pub IsGivenBy : Header → Known → ℕ → ℕ → Option ℕ → Option RingGiving → Type 0
IsGivenBy h k at word None giving = giving ≡ None
IsGivenBy h k at word (Some n) giving = (ring : Ring) → slice_get h.rings n ≡ Some ring → IsGivenOn k at word ring giving

-- the place of a word: its ring, whether a lease of the ring has it, what its write gives of the ring, and which command
pub record IsPlacedSo (h : Header) (k : Known) (at word : ℕ) (p : RowPlace) : Type 0 where
  pub aligned : at % 4 ≡ 0
  pub ring : p.ring ≡ position (λ ring. touches ring.shape at 4) h.rings
  pub lent : p.is_lent ≡ rings_have h k at
  pub given : IsGivenBy h k at word p.ring p.giving
  pub command : p.command ≡ command_given h k at word

-- the command that this giving of a ring gives, if it is the command ring
abbrev pub command_by : Known → Option RingGiving → Ring → Option Command
command_by k giving ring = if is_command_kind ring.shape.kind then command_on (k.ring ring.id) (positions_of giving) else None

-- the command that a write gives which has this place
abbrev pub command_of_place : Header → Known → RowPlace → Option Command
command_of_place h k p = option_and_then (command_by k p.giving) (option_and_then (slice_get h.rings) p.ring)

-- the same place, with this command
abbrev pub with_command : RowPlace → Option Command → RowPlace
with_command p command = record { ring = p.ring; is_lent = p.is_lent; giving = p.giving; command = command }

-- the command that is finished next, where there is a command ring
abbrev pub IsNext : Header → Known → Option Command → Type 0
IsNext h k command = is_some (command_ring h) ≡ true → command ≡ command_at h k (next_command h k)

-- of a row that writes memory, or that reads the completion of a command
abbrev pub IsPlaced : Header → Known → Row → RowPlace → Type 0
IsPlaced h k (Write at word) p = IsPlacedSo h k at word p
IsPlaced h k (Read event) p = kind event ≡ CommandCompletion → IsNext h k p.command
IsPlaced h k _ p = Unit {0}

-- whether a row writes to what the controller owns
abbrev pub IsOwnedSo : Header → Known → Row → Bool → Type 0
IsOwnedSo h k (Write at word) owned = owned ≡ writes_to_owned h k at word
IsOwnedSo h k _ owned = Unit {0}
