-- Schedules that are made step by step, as the controller's model shows what each step does: xHCI 4.9.2, 6.4.2
use Rattle.std.specs.Prelude.{ℕ, suc, zero, ◌+◌, if◌then◌else◌, Bool, true, false, List, [], ◌∷◌, ◌++◌, length, nat_le, map, Option, Some, None, option_and_then, option_map, Result, Ok, Err}
use Rattle.std.specs.Borrow.{Bor}
use Rattle.trb.specs.declared.block.Block.{Block}
use Rattle.trb.specs.Block.{kind}
use Rattle.trb.specs.declared.kind.BlockKind.{BlockKind}
use Rattle.trb.specs.declared.kind.BlockKind.TheVariants.{TransferEvent, CommandCompletion}
use Rattle.segments.specs.Places.{links, place_count}
use Rattle.traces.specs.declared.ring.Ring.{Ring}
use Rattle.traces.specs.Header.{is_command_kind}
use Rattle.traces.specs.declared.row.Row.{Row}
use Rattle.traces.specs.declared.row.Row.TheVariants.{Read, RegRead}
use Rattle.traces.specs.declared.register.Register.TheVariants.{Usbsts}
use Rattle.traces.specs.Register.{halted_bit}
use Rattle.traces.specs.declared.step.Step.{Step}
use Rattle.traces.specs.declared.step.Step.TheVariants.{Finish, Halt, Look, Other, Report}
use Rattle.traces.specs.Limits.{most_schedule_lines}
use Rattle.world_state.specs.Scenes.{Scene, step_made}
use Rattle.controller_model.specs.declared.seen.Seen.{Seen}
use Rattle.controller_model.specs.declared.seen.Seen.TheVariants.{Waited}
use Rattle.controller_model.specs.Showing.{shows}
use Rattle.replayer.specs.declared.scheduler.attempt.Unmade.{Unmade}
use Rattle.replayer.specs.declared.scheduler.attempt.Unmade.TheVariants.{Dropped, Memory}

-- the steps so far, and the scene behind them
pub record Making : Type 0 where
  pub steps : List Step
  pub scene : Scene

-- what references point to
abbrev pub rings_at : List (Bor Ring) → List Ring
rings_at rings = map (λ r. r.now) rings

-- an answer where this is made, or none is: what is made is told by P; want of memory may come at any step, and tells nothing
abbrev pub IsMade : {X Y : Type 0} → Result X Unmade → Option Y → (X → Y → Type 0) → Type 0
IsMade (Ok x) None P = ⊥
IsMade (Ok x) (Some y) P = P x y
IsMade (Err Dropped) None P = Unit {0}
IsMade (Err Dropped) (Some y) P = ⊥
IsMade (Err Memory) o P = Unit {0}

-- a schedule has no room for one more step
abbrev pub is_full : Making → Bool
is_full m = nat_le most_schedule_lines (length m.steps + 1)

abbrev pub behind_step : Making → Step → Option Scene → Option Seen × Making
behind_step m s None = (None, m)
behind_step m s (Some x) = (Some (shows m.scene.header m.scene.world s), record { steps = m.steps ++ s ∷ []; scene = x })

-- one more step is tried, where there is room for it: what it shows if it is possible, and what is made then
unfoldable pub tried_step : Making → Step → Option (Option Seen × Making)
tried_step m s = if is_full m then None else Some (behind_step m s (step_made m.scene s))

abbrev pub if_possible : Option Seen × Making → Option Making
if_possible (None, m) = None
if_possible (Some seen, m) = Some m

-- one more step
unfoldable pub made_step : Making → Step → Option Making
made_step m s = option_and_then if_possible (tried_step m s)

unfoldable pub made_steps : Making → List Step → Option Making
made_steps m [] = Some m
made_steps m (s ∷ steps) = option_and_then (λ n. made_steps n steps) (made_step m s)

abbrev pub unless_possible : Option Making → Option Seen × Making → Option Making
unless_possible other (None, m) = other
unless_possible other (Some seen, m) = Some m

-- one more step, as soon as at most n looks at ring r make it possible
unfoldable pub made_behind_looks : ℕ → Making → Step → ℕ → Option Making
made_behind_looks zero m s r = made_step m s
made_behind_looks (suc n) m s r = option_and_then (λ p. unless_possible (option_and_then (λ k. made_behind_looks n k s r) (made_step p.1 (Look r))) p) (tried_step m s)

abbrev pub is_waited : Seen → Bool
is_waited Waited = true
is_waited _ = false

abbrev pub behind_look : Bool → Option (Bool × Making) → Option Seen × Making → Option (Bool × Making)
behind_look b other (None, m) = Some (b, m)
behind_look b other (Some seen, m) = if is_waited seen then Some (true, m) else other

-- at most n looks at ring r, until it waits or a look isn't possible; with whether the ring may be active: b where no look was possible
unfoldable pub made_looks : ℕ → Bool → Making → ℕ → Option (Bool × Making)
made_looks zero b m r = Some (true, m)
made_looks (suc n) b m r = option_and_then (λ p. behind_look b (made_looks n true p.1 r) p) (tried_step m (Look r))

-- how many blocks a ring has
abbrev pub blocks_of_ring : Ring → ℕ
blocks_of_ring ring = place_count ring.shape + length (links ring.shape)

-- looks at a ring, at most so often as it has blocks
unfoldable pub looked_at : Making → Ring → Option (Bool × Making)
looked_at m ring = made_looks (blocks_of_ring ring) (is_command_kind ring.shape.kind) m ring.id

abbrev pub with_active : List Ring → Ring → Bool → List Ring
with_active active ring b = if b then active ++ ring ∷ [] else active

-- looks at each of these rings; those that may be active, behind others
unfoldable pub looked_at_each : List Ring → Making → List Ring → Option (List Ring × Making)
looked_at_each active m [] = Some (active, m)
looked_at_each active m (ring ∷ rings) = option_and_then (λ p. looked_at_each (with_active active ring p.0) p.1 rings) (looked_at m ring)

abbrev pub post_by_kind : BlockKind → Block → Step
post_by_kind TransferEvent b = Report b
post_by_kind CommandCompletion b = Finish b
post_by_kind other b = Other b

-- an event is posted; behind looks at a ring that is late, as soon as they make it possible
unfoldable pub made_post : Making → Step → Option Ring → Option Making
made_post m s None = made_step m s
made_post m s (Some late) = made_behind_looks (blocks_of_ring late) m s late.id

-- the controller halts, if it may
unfoldable pub made_halt : Making → Option Making
made_halt m = option_map (λ p. p.1) (tried_step m Halt)

-- the row tells that the controller has halted, or wasn't started
abbrev pub tells_halt : Row → Bool
tells_halt (RegRead Usbsts value) = halted_bit value
tells_halt row = false

-- directly before a row the post of the event that it reads, if it reads one, and the halt that it tells of
unfoldable pub made_before : Making → Row → Option Ring → Option Making
made_before m (Read b) late = made_post m (post_by_kind (kind b) b) late
made_before m row late = if tells_halt row then made_halt m else Some m
