-- Replays of a schedule: the world behind a step, and how they end
use Rattle.std.specs.Prelude.{ℕ, Option, Some, None, option_map, ◌+◌, List, [], ◌∷◌}
use Rattle.traces.specs.declared.header.Header.{Header}
use Rattle.traces.specs.declared.step.Step.{Step}
use Rattle.world_state.specs.declared.harm.Harm.{Harm}
use Rattle.world_state.specs.World.{World}
use Rattle.world_state.specs.Steps.{counted, made}
use Rattle.traces.specs.declared.row.Row.{Row}
use Rattle.world_state.specs.Harms.{harm_of}
use Rattle.world_state.specs.Scenes.{Scene, scene_before, step_made}

-- how the replay of a schedule ends: without harm, at a step that isn't possible, or at the first harm, told after its step
pub data Ending : Type 0 where
  NoHarm : Ending
  NotPossible : (step : ℕ) → Ending
  Harmful : (step : ℕ) (harm : Harm) → Ending

unfoldable pub judged : ℕ → Option Harm → Ending → Ending
judged n None later = later
judged n (Some kind) later = Harmful n kind

-- beside the rings that were declared and those of them that live
module _ (h live : Header) where
  -- the world after a step; None where the step isn't possible
  unfoldable pub stepped : World → Step → Option World
  stepped w s = option_map (counted h) (made h live w s)

unfoldable pub scene_ending_from : ℕ → Option Scene → List Step → Ending
scene_ending_from n None steps = NotPossible n
scene_ending_from n (Some x) [] = judged n (harm_of x.header x.world) NoHarm
scene_ending_from n (Some x) (s ∷ steps) = judged n (harm_of x.header x.world) (scene_ending_from (n + 1) (step_made x s) steps)

abbrev pub scene_ending : Header → List Row → List Step → Ending
scene_ending h rows steps = scene_ending_from 0 (Some (scene_before h rows)) steps
