-- What the rows of a trace ask of its lazy schedule
use Rattle.std.specs.Prelude.{ℕ, ◌+◌, ◌==◌, if◌then◌else◌, List, [], ◌∷◌, ◌++◌, map, Option, Some, None}
use Rattle.trb.specs.declared.block.Block.{Block}
use Rattle.trb.specs.declared.kind.BlockKind.{BlockKind}
use Rattle.trb.specs.declared.kind.BlockKind.TheVariants.{TransferEvent, CommandCompletion}
use Rattle.trb.specs.Block.{kind, code, slot}
use Rattle.trb.specs.CompletionCode.{is_success, is_stopping}
use Rattle.segments.specs.Spots.{number}
use Rattle.segments.specs.declared.spot.Spot.TheVariants.{Data}
use Rattle.segments.specs.Ceiling.{is_open}
use Rattle.commands.specs.declared.command.Command.{Command}
use Rattle.commands.specs.declared.command.Command.TheVariants.{StopEndpoint}
use Rattle.commands.specs.Changes.{Change, changes}
use Rattle.traces.specs.declared.header.Header.{Header}
use Rattle.traces.specs.declared.register.Register.{Register}
use Rattle.traces.specs.declared.row.Row.{Row}
use Rattle.traces.specs.declared.row.Row.TheVariants.{Bell, Read, Ring as RingRow, Free as FreeRow, RegRead}
use Rattle.traces.specs.declared.step.Step.TheVariants.{Halt}
use Rattle.traces.specs.Header.{command_id}
use Rattle.ring_knowledge.specs.Known.{Known}
use Rattle.ring_knowledge.specs.Learned.{learned}
use Rattle.ring_knowledge.specs.Rings.{RingSpot, code_told, event_at, command_at, next_command}
use Rattle.ring_knowledge.specs.Completions.{changed_by}
use Rattle.traces.specs.LivingRings.{header_after}
use Rattle.ring_knowledge.specs.Histories.{known_after}
use Rattle.safety.specs.LazyRuns.Needs.{ring_placed}
use Rattle.safety.specs.LazyRuns.Lazy.{is_first_halt, post_of}
use Rattle.replayer.specs.declared.lazy_steps.note.Note.{Note}
use Rattle.replayer.specs.declared.lazy_steps.note.Note.TheVariants.{Begun, Succeeded, Taken, StoppedAt, StoppedOpen, Made, Next, Placed}

abbrev pub listed : Option ℕ → List ℕ
listed None = []
listed (Some r) = r ∷ []

-- the ring, if it is open
unfoldable pub if_open : Known → Option ℕ → Option ℕ
if_open k None = None
if_open k (Some r) = if is_open (k.ring r) then Some r else None

-- the open ring that a command with this completion code stops
unfoldable pub open_stopped : Known → ℕ → Option Command → Option ℕ
open_stopped k completion (Some (StopEndpoint s i)) = if completion == 1 then if_open k (k.ring_of s i) else None
open_stopped k completion _ = None

-- a ring stands at its floor
unfoldable pub floor_note : Known → ℕ → Note
floor_note k r = Placed r (k.ring r).floor

module _ (h : Header) where
  -- the rings that changes bind or move, in their order
  unfoldable pub placed_by_all : Command → Known → List Change → List ℕ
  placed_by_all c k [] = []
  placed_by_all c k (change ∷ rest) = listed (ring_placed h k change) ++ placed_by_all c (changed_by h c k change) rest

  unfoldable pub placed_by : Known → ℕ → Option Command → List ℕ
  placed_by k n None = []
  placed_by k n (Some c) = placed_by_all c k (changes h.context_size k.memory n c)

  -- the rings that the command of a Command Completion Event binds or moves
  unfoldable pub placed : Known → Block → List ℕ
  placed k b = if code b == 1 then placed_by k (slot b) (command_at h k (next_command h k)) else []

  unfoldable pub reporting_look : Known → Block → RingSpot → Note
  reporting_look k b at =
      if is_stopping (code_told h k b) then StoppedAt (command_id h) (next_command h k + 1) at.ring at.spot 0
      else Taken at.ring (number at.spot + 1)

  -- a Transfer Event, by the spot that it names
  unfoldable pub transfer_notes : Known → Block → Option RingSpot → List Note
  transfer_notes k b None = []
  transfer_notes k b (Some at) =
      if is_success (code_told h k b) then Succeeded at.ring (number at.spot + 1) ∷ reporting_look k b at ∷ []
      else reporting_look k b at ∷ []

  -- the look for a command, which may stop an open ring
  unfoldable pub completing_look : Known → Option ℕ → Note
  completing_look k None = Taken (command_id h) (next_command h k + 1)
  completing_look k (Some r) = StoppedOpen (command_id h) (next_command h k + 1) r 0

  -- the notes of an event, by its kind: the rings that it binds or moves stand at their floors behind it
  unfoldable pub event_notes : Known → BlockKind → Block → List Note
  event_notes k TransferEvent b = transfer_notes k b (event_at h k b) ++ Made (post_of h TransferEvent b) ∷ []
  event_notes k CommandCompletion b =
      map Begun (placed k b)
      ++ (completing_look k (open_stopped k (code b) (command_at h k (next_command h k)))
      ∷ Made (post_of h CommandCompletion b) ∷ map (floor_note (learned h k (Read b))) (placed k b))
  event_notes k other b = Made (post_of h other b) ∷ []

  -- the notes of a register that is read: where it tells of it first, the controller halts
  unfoldable pub read_notes : Known → Register → ℕ → List Note
  read_notes k r v = if is_first_halt h k r v then Made Halt ∷ [] else []

  -- the notes of a row, before the step to the row
  unfoldable pub row_notes : Known → Row → List Note
  row_notes k (Bell s t) = if s == 0 then [] else map Begun (listed (k.ring_of s t))
  row_notes k (Read b) = event_notes k (kind b) b
  row_notes k (RegRead r v) = read_notes k r v
  row_notes k _ = []

  -- the notes of a row of any kind: a ring that comes stands at its beginning, and of one that goes nothing more is needed
  unfoldable pub any_notes : Known → Row → List Note
  any_notes k (RingRow ring) = Placed ring.id (Data 0) ∷ []
  any_notes k (FreeRow id) = Begun id ∷ Placed id (Data 0) ∷ []
  any_notes k row = row_notes k row

-- the notes of the rows, from the rings that are there and what is known
unfoldable pub notes : Header → Known → List Row → List Note
notes h k [] = []
notes h k (row ∷ rows) = any_notes h k row ++ (Next ∷ notes (header_after h row) (known_after h k row) rows)
