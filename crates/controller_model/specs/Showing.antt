-- What steps show, and what the replay of a schedule answers
use Rattle.std.specs.Prelude.{ℕ, ◌==◌, if◌then◌else◌, not, List, [], ◌++◌, ◌∷◌, Option, Some, None, is_some, option_map, option_to_list}
use Rattle.trb.specs.declared.block.Block.{Block}
use Rattle.trb.specs.Block.{block_at, cycle, kind}
use Rattle.trb.specs.Kind.{is_link}
use Rattle.segments.specs.Places.{address_of}
use Rattle.traces.specs.declared.header.Header.{Header}
use Rattle.traces.specs.declared.row.Row.{Row}
use Rattle.traces.specs.declared.step.Step.{Step}
use Rattle.traces.specs.declared.step.Step.TheVariants.{NextRow, Look, Report, Finish, Other, Scribble, Halt}
use Rattle.traces.specs.Header.{event_shape}
use Rattle.world_state.specs.World.{World}
use Rattle.world_state.specs.Harms.{harm_of}
use Rattle.controller_model.specs.declared.seen.Seen.{Seen}
use Rattle.controller_model.specs.declared.seen.Seen.TheVariants as seen
use Rattle.world_state.specs.Replays.{Ending, scene_ending}
use Rattle.world_state.specs.Scenes.{Scene, scene_before, step_made}

-- a look at a block: it waits where the Cycle bit isn't the ring's cycle state, else it follows a Link or takes the block
unfoldable pub look_shows : World → ℕ → Block → Seen
look_shows w r b =
    if not (cycle b == w.cycle_state r) then seen.Waited
    else if is_link (kind b) then seen.Crossed
    else seen.Took r (w.pointer_of r) b

-- what the replay of a schedule answers
pub record Replay : Type 0 where
  pub seen : List Seen
  pub ending : Ending

module _ (h : Header) where
  -- what a step shows
  unfoldable pub shows : World → Step → Seen
  shows w NextRow = seen.Row
  shows w (Look r) = look_shows w r (block_at w.memory (w.pointer_of r))
  shows w (Report b) = seen.Posted (address_of (event_shape h) w.posted)
  shows w (Finish b) = seen.Posted (address_of (event_shape h) w.posted)
  shows w (Other b) = seen.Posted (address_of (event_shape h) w.posted)
  shows w (Scribble a x) = seen.Scribbled
  shows w Halt = seen.Halted

-- what a step shows beside rows between which rings come and go, where it is possible
unfoldable pub scene_seen_by : Scene → Step → Option Seen
scene_seen_by x s = option_map (λ y. shows x.header x.world s) (step_made x s)

-- what the steps show up to the first that isn't possible, or with the first after which there is harm
unfoldable pub scene_seen_from : Option Scene → List Step → List Seen
scene_seen_from None steps = []
scene_seen_from (Some x) [] = []
scene_seen_from (Some x) (s ∷ steps) =
    if is_some (harm_of x.header x.world) then [] else option_to_list (scene_seen_by x s) ++ scene_seen_from (step_made x s) steps

-- what the replay of a schedule beside these rows answers
unfoldable pub scene_replayed : Header → List Row → List Step → Replay
scene_replayed h rows steps = record { seen = scene_seen_from (Some (scene_before h rows)) steps; ending = scene_ending h rows steps }
