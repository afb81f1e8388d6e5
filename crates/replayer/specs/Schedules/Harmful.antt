-- What a schedule that does harm shows
use Rattle.std.specs.Prelude.{◌≡◌, ◌≤◌, ℕ, Bool, true, false, List, length, filter, reverse, Some}
use Rattle.traces.specs.declared.header.Header.{Header}
use Rattle.traces.specs.declared.row.Row.{Row}
use Rattle.traces.specs.declared.step.Step.{Step}
use Rattle.traces.specs.declared.step.Step.TheVariants.{NextRow}
use Rattle.world_state.specs.declared.harm.Harm.{Harm}
use Rattle.world_state.specs.Harms.{harm_of}
use Rattle.world_state.specs.Scenes.{Scene, scene_reached}
use Rattle.controller_model.specs.Showing.{scene_replayed}
use Rattle.world_state.specs.Replays.{Harmful}

abbrev pub makes_row : Step → Bool
makes_row NextRow = true
makes_row _ = false

-- how many rows of the trace are made
abbrev pub rows_made : List Step → ℕ
rows_made steps = length (filter makes_row steps)

-- these steps are a run beside the rows, of which it makes no more than the first n, and the world after the last step isn't safe, with this as
-- the least harm of the rings that were declared by then; before that step it was safe, so the replay ends there
pub record DoesHarm (h : Header) (rows : List Row) (n : ℕ) (steps : List Step) (harm : Harm) : Type 0 where
  pub scene : Scene
  pub run : scene_reached h rows (reverse steps) ≡ Some scene
  pub few : rows_made steps ≤ n
  pub harmful : harm_of scene.header scene.world ≡ Some harm
  pub replay : (scene_replayed h rows steps).ending ≡ Harmful (length steps) harm
