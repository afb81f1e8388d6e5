-- What the passes over the notes give: how much of its rings the controller needs, and its steps
use Rattle.std.specs.Prelude.{ℕ, ◌==◌, if◌then◌else◌, List, [], ◌∷◌, ◌++◌, drop, max}
use Rattle.std.specs.List.{flat_map}
use Rattle.guest_memory.specs.Memory.{put}
use Rattle.segments.specs.declared.spot.Spot.{Spot}
use Rattle.traces.specs.declared.header.Header.{Header}
use Rattle.traces.specs.declared.step.Step.{Step}
use Rattle.traces.specs.declared.step.Step.TheVariants.{NextRow}
use Rattle.traces.specs.declared.row.Row.{Row}
use Rattle.ring_knowledge.specs.Rings.{RingSpot}
use Rattle.traces.specs.LivingRings.{header_after}
use Rattle.safety.specs.LazyRuns.Lazy.{taken_up_to, stop_goal, looks_to, brought}
use Rattle.replayer.specs.declared.lazy_steps.note.Note.{Note}
use Rattle.replayer.specs.declared.lazy_steps.note.Note.TheVariants.{Begun, Succeeded, Taken, StoppedAt, StoppedOpen, Made, Next, Placed}

-- how many blocks of ring r a note needs, where those behind it need n
unfoldable pub need_before : Note → ℕ → ℕ → ℕ
need_before (Begun q) r n = if q == r then 0 else n
need_before (Succeeded q behind) r n = if q == r then max behind n else n
need_before _ r n = n

-- how many blocks of ring r the notes need
unfoldable pub need_in : List Note → ℕ → ℕ
need_in [] r = 0
need_in (note ∷ rest) r = need_before note r (need_in rest r)

-- the note, with the needs of the notes behind it
unfoldable pub with_need : (ℕ → ℕ) → Note → Note
with_need needs (StoppedAt commands behind r spot n) = StoppedAt commands behind r spot (needs r)
with_need needs (StoppedOpen commands behind r n) = StoppedOpen commands behind r (needs r)
with_need needs note = note

-- the notes, each with the needs of those behind it
unfoldable pub filled : List Note → List Note
filled [] = []
filled (note ∷ rest) = with_need (need_in rest) note ∷ filled rest

module _ (h : Header) where
  -- the spots to which the controller has to come for a note
  unfoldable pub note_goals : Note → List RingSpot
  note_goals (Taken r behind) = taken_up_to h r behind ∷ []
  note_goals (StoppedAt commands behind r spot n) = taken_up_to h commands behind ∷ stop_goal h (record { ring = r; spot = spot }) n ∷ []
  note_goals (StoppedOpen commands behind r n) = taken_up_to h commands behind ∷ taken_up_to h r n ∷ []
  note_goals _ = []

  -- the steps of a note, from where the pointers stand
  unfoldable pub note_steps : (ℕ → Spot) → Note → List Step
  note_steps pointers (Made step) = step ∷ []
  note_steps pointers Next = NextRow ∷ []
  note_steps pointers note = flat_map (looks_to h pointers) (note_goals note)

  -- where the pointers stand behind a note
  unfoldable pub pointers_behind : (ℕ → Spot) → Note → ℕ → Spot
  pointers_behind pointers (Placed r spot) = put pointers r spot
  pointers_behind pointers note = brought h pointers (note_goals note)

-- the rings that are there behind the next of these rows, if there is one
abbrev pub header_next : Header → List Row → Header
header_next h [] = h
header_next h (row ∷ rows) = header_after h row

-- those behind a note, and the rows that are still to come
unfoldable pub header_behind : Header → List Row → Note → Header
header_behind h rows Next = header_next h rows
header_behind h rows note = h

unfoldable pub rows_behind : List Row → Note → List Row
rows_behind rows Next = drop 1 rows
rows_behind rows note = rows

-- the steps of the notes, from where the pointers stand, with the rings that are there and these rows to come
unfoldable pub steps_of : Header → List Row → (ℕ → Spot) → List Note → List Step
steps_of h rows pointers [] = []
steps_of h rows pointers (note ∷ rest) =
    note_steps h pointers note ++ steps_of (header_behind h rows note) (rows_behind rows note) (pointers_behind h pointers note) rest
