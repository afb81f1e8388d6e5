-- The lazy schedule: directly before an event the looks that it needs, and its post: xHCI 4.6.9, 4.9.2, 4.9.4
use Rattle.std.specs.Prelude.{ℕ, ◌+◌, ◌-◌, ◌*◌, ◌==◌, ◌&&◌, if◌then◌else◌, Bool, false, not, List, [], ◌∷◌, ◌++◌, nat_lt, filter, map, reverse, Option, Some, None}
use Rattle.std.specs.List.{flat_map}
use Rattle.guest_memory.specs.Memory.{put}
use Rattle.trb.specs.declared.block.Block.{Block}
use Rattle.trb.specs.declared.kind.BlockKind.{BlockKind}
use Rattle.trb.specs.declared.kind.BlockKind.TheVariants.{TransferEvent, CommandCompletion}
use Rattle.trb.specs.Block.{kind, code}
use Rattle.trb.specs.CompletionCode.{is_stopping}
use Rattle.segments.specs.ShapeValue.{Shape}
use Rattle.segments.specs.declared.spot.Spot.{Spot}
use Rattle.segments.specs.declared.spot.Spot.TheVariants.{Data}
use Rattle.segments.specs.Spots.{number, rank, spots_from}
use Rattle.segments.specs.Ceiling.{is_open}
use Rattle.commands.specs.declared.command.Command.{Command}
use Rattle.commands.specs.declared.command.Command.TheVariants.{StopEndpoint}
use Rattle.traces.specs.declared.header.Header.{Header}
use Rattle.traces.specs.declared.row.Row.{Row}
use Rattle.traces.specs.declared.row.Row.TheVariants.{Read, RegRead, Ring as RingRow, Free as FreeRow}
use Rattle.traces.specs.declared.step.Step.{Step}
use Rattle.traces.specs.declared.register.Register.{Register}
use Rattle.traces.specs.declared.register.Register.TheVariants.{Usbsts}
use Rattle.traces.specs.Halts.{is_asked, is_done}
use Rattle.traces.specs.Register.{halted_bit}
use Rattle.traces.specs.declared.step.Step.TheVariants.{NextRow, Look, Report, Finish, Other, Halt}
use Rattle.traces.specs.Header.{shape_of, command_id}
use Rattle.ring_knowledge.specs.Known.{Known}
use Rattle.ring_knowledge.specs.Learned.{learned}
use Rattle.ring_knowledge.specs.Resets.{behind_blocks}
use Rattle.ring_knowledge.specs.Rings.{RingSpot, code_told, event_at, command_at, next_command}
use Rattle.ring_knowledge.specs.Histories.{header_now, known_now, restored}
use Rattle.safety.specs.LazyRuns.Needs.{need, is_placed}

-- the spots from s on before t: where the controller looks to come from s to t
unfoldable pub spots_before : Shape → Spot → Spot → List Spot
spots_before shape s t = filter (λ u. nat_lt (rank u) (rank t)) (spots_from shape s (2 * (number t - number s) + 2))

unfoldable pub further : Spot → Spot → Spot
further s t = if nat_lt (rank s) (rank t) then t else s

module _ (h : Header) where
  -- ring r is looked at until its first n blocks are taken
  unfoldable pub taken_up_to : ℕ → ℕ → RingSpot
  taken_up_to r n = record { ring = r; spot = behind_blocks (shape_of h r) n }

  -- the next command is taken
  unfoldable pub command_taken : Known → RingSpot
  command_taken k = taken_up_to (command_id h) (next_command h k + 1)

  -- where a ring stops: at the spot that is named, or behind its block where the success of that one is read later
  unfoldable pub stop_goal : RingSpot → ℕ → RingSpot
  stop_goal at n = if n == number at.spot + 1 then taken_up_to at.ring n else at

  -- the spots to which the controller has to come on its rings for a Transfer Event: its block is taken, or, where it stopped, so is the
  -- Stop Endpoint
  unfoldable pub report_goals : Known → List Row → Block → Option RingSpot → List RingSpot
  report_goals k later b None = []
  report_goals k later b (Some at) =
      if is_stopping (code_told h k b) then command_taken k ∷ stop_goal at (need h (learned h k (Read b)) at.ring later) ∷ []
      else taken_up_to at.ring (number at.spot + 1) ∷ []

  -- an open ring that is stopped now: what is reported later has to be taken
  unfoldable pub open_goals : Known → List Row → Block → Option ℕ → List RingSpot
  open_goals k later b None = []
  open_goals k later b (Some r) = if is_open (k.ring r) then taken_up_to r (need h (learned h k (Read b)) r later) ∷ [] else []

  unfoldable pub stopped_goals : Known → List Row → Block → Option Command → List RingSpot
  stopped_goals k later b (Some (StopEndpoint s i)) = if code b == 1 then open_goals k later b (k.ring_of s i) else []
  stopped_goals k later b _ = []

  unfoldable pub goals : Known → List Row → BlockKind → Block → List RingSpot
  goals k later TransferEvent b = report_goals k later b (event_at h k b)
  goals k later CommandCompletion b = command_taken k ∷ stopped_goals k later b (command_at h k (next_command h k))
  goals k later _ b = []

  -- how an event is posted, by its kind
  unfoldable pub post_of : BlockKind → Block → Step
  post_of TransferEvent b = Report b
  post_of CommandCompletion b = Finish b
  post_of _ b = Other b

  -- the looks that bring a ring from where its pointer stands to a spot
  unfoldable pub looks_to : (ℕ → Spot) → RingSpot → List Step
  looks_to pointers goal = map (λ t. Look goal.ring) (spots_before (shape_of h goal.ring) (pointers goal.ring) goal.spot)

  -- the controller is seen to have halted, and wasn't before
  unfoldable pub is_first_halt : Known → Register → ℕ → Bool
  is_first_halt k Usbsts v = halted_bit v && is_asked k.halt && not (is_done k.halt)
  is_first_halt k r v = false

  -- the controller's steps directly before a row, with these rows to come after it
  unfoldable pub steps_before : Known → (ℕ → Spot) → Row → List Row → List Step
  steps_before k pointers (Read b) later = flat_map (looks_to pointers) (goals k later (kind b) b) ++ post_of (kind b) b ∷ []
  steps_before k pointers (RegRead r v) later = if is_first_halt k r v then Halt ∷ [] else []
  steps_before k pointers _ later = []

  unfoldable pub brought : (ℕ → Spot) → List RingSpot → ℕ → Spot
  brought pointers [] = pointers
  brought pointers (goal ∷ rest) = brought (put pointers goal.ring (further (pointers goal.ring) goal.spot)) rest

  -- by ring ID, where the pointers stand behind the row: the rings that it binds or moves stand at their floors
  unfoldable pub pointers_after : Known → (ℕ → Spot) → Row → List Row → ℕ → Spot
  pointers_after k pointers (Read b) later r =
      if is_placed h k r b then ((learned h k (Read b)).ring r).floor else brought pointers (goals k later (kind b) b) r
  pointers_after k pointers _ later r = pointers r

  -- the controller's steps directly before a row, which is read where what it starts or moves is restored
  unfoldable pub steps_for : Known → (ℕ → Spot) → Row → List Row → List Step
  steps_for k pointers row later = steps_before (restored h k row) pointers row later

  -- a ring that comes stands at its beginning, and one that is gone too
  unfoldable pub pointers_for : Known → (ℕ → Spot) → Row → List Row → ℕ → Spot
  pointers_for k pointers (RingRow ring) later = put pointers ring.id (Data 0)
  pointers_for k pointers (FreeRow id) later = put pointers id (Data 0)
  pointers_for k pointers row later = pointers_after (restored h k row) pointers row later

module _ (h : Header) where
  -- by ring ID, where the pointers stand behind the rows so far, the newest first, with the others to come
  unfoldable pub pointers_at : List Row → List Row → ℕ → Spot
  pointers_at [] later r = Data 0
  pointers_at (row ∷ past) later r = pointers_for (header_now h past) (known_now h past) (pointers_at past (row ∷ later)) row later r

  -- the run up to here: the rows so far and the steps between them, the newest first
  unfoldable pub lazy_run : List Row → List Row → List Step
  lazy_run [] later = []
  lazy_run (row ∷ past) later =
      NextRow ∷ reverse (steps_for (header_now h past) (known_now h past) (pointers_at past (row ∷ later)) row later) ++ lazy_run past (row ∷ later)

  -- all steps in their order
  unfoldable pub lazy_steps : List Row → List Step
  lazy_steps rows = reverse (lazy_run (reverse rows) [])
