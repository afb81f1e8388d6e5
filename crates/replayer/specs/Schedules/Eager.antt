-- The eager schedule, in which one ring may be late, and the schedules of a wide search
use Rattle.std.specs.Prelude.{ℕ, ◌-◌, ◌==◌, ◌++◌, Bool, true, false, not, if◌then◌else◌, List, [], ◌∷◌, filter, length, nat_le, Option, Some, None, option_and_then, option_map, option_to_list}
use Rattle.traces.specs.declared.header.Header.{Header}
use Rattle.traces.specs.declared.ring.Ring.{Ring}
use Rattle.traces.specs.Header.{is_event_kind}
use Rattle.traces.specs.declared.row.Row.{Row}
use Rattle.traces.specs.declared.row.Row.TheVariants.{Bell, Reg}
use Rattle.traces.specs.declared.register.Register.TheVariants.{Usbcmd}
use Rattle.traces.specs.declared.step.Step.{Step}
use Rattle.traces.specs.declared.step.Step.TheVariants.{NextRow}
use Rattle.traces.specs.LivingRings.{header_after}
use Rattle.world_state.specs.Scenes.{scene_before}
use Rattle.replayer.specs.Schedules.Making.{Making, looked_at_each, made_before, made_step}

abbrev pub is_late : Option Ring → Ring → Bool
is_late None r = false
is_late (Some late) r = r.id == late.id

-- the rings of a header without one that is late
abbrev pub without_late : Header → Option Ring → Header
without_late h late = record h { rings = filter (λ r. not (is_late late r)) h.rings }

-- a controller may look at rings behind the row at which it didn't look before: a doorbell makes one active, and R/S lets those go on that were
abbrev pub wakes : Row → Bool
wakes (Bell s t) = true
wakes (Reg Usbcmd v) = true
wakes _ = false

-- the rings at which a controller looks behind a row
unfoldable pub rings_looked_at : Header → List Ring → Row → List Ring
rings_looked_at h active row = if wakes row then h.rings else active

-- the eager steps of rows, of which the first is posted for, made, and followed by looks; h has the rings that are there and aren't late
unfoldable pub eager_row : Option Ring → Header → List Ring → Row → Making → Option (List Ring × Making)
eager_row late h active row m =
    option_and_then (λ posted. option_and_then (λ made. looked_at_each [] made (rings_looked_at h active row)) (made_step posted NextRow)) (made_before m row late)

unfoldable pub eager_rows : Option Ring → Header → List Ring → List Row → Making → Option (Header × Making)
eager_rows late h active [] m = Some (h, m)
eager_rows late h active (row ∷ rows) m = option_and_then (λ p. eager_rows late (header_after h row) p.0 rows p.1) (eager_row late h active row m)

-- no steps yet
abbrev pub nothing_made : Header → List Row → Making
nothing_made h rows = record { steps = []; scene = scene_before h rows }

abbrev pub looked_at_last : Option Ring → Header → Making → Option (List Step)
looked_at_last late h m = option_map (λ p. p.1.steps) (looked_at_each [] m (h.rings ++ option_to_list late))

-- how many lines a schedule has; where there is none, as many as is said
abbrev pub lines_of : Option (List Step) → ℕ → ℕ
lines_of None otherwise = otherwise
lines_of (Some steps) otherwise = length steps

module _ (h : Header) (rows : List Row) where
  -- the eager schedule of the first rows: directly before each event that is read its post, before HCHalted is read the halt, behind each row
  -- looks at each active ring until it waits, and at the end looks at each ring that is there; one ring may be late
  unfoldable pub eager_schedule : List Row → Option Ring → Option (List Step)
  eager_schedule first late =
      option_and_then (λ p. looked_at_last late p.0 p.1) (eager_rows late (without_late h late) [] first (nothing_made h rows))

  -- the eager schedules of the first rows in which one of these rings is late, ring by ring, until they have so many lines
  unfoldable pub late_schedules : List Row → ℕ → ℕ → List Ring → List (List Step)
  late_schedules first lines left [] = []
  late_schedules first lines left (ring ∷ rings) =
      if is_event_kind ring.shape.kind then late_schedules first lines left rings
      else option_to_list (eager_schedule first (Some ring))
      ++ (if nat_le left (lines_of (eager_schedule first (Some ring)) lines) then []
      else late_schedules first lines (left - lines_of (eager_schedule first (Some ring)) lines) rings)
