-- Where a schedule has brought the rings behind each row
use Rattle.std.specs.Prelude.{◌≡◌, List, ◌++◌, Some, reverse}
use Rattle.traces.specs.declared.header.Header.{Header}
use Rattle.traces.specs.declared.step.Step.{Step}
use Rattle.traces.specs.declared.row.Row.{Row}
use Rattle.world_state.specs.Scenes.{Scene, scene_reached}
use Rattle.ring_knowledge.specs.Histories.{header_now, known_now}
use Rattle.safety.specs.LazyRuns.Law.{AreAtFloors}

-- the steps begin with a run of the rows so far, the newest first, that leaves the others to come, and in its world the dequeue pointer of each ring
-- that an endpoint has is the ring's floor
pub record StandsBehind (h : Header) (past later : List Row) (steps : List Step) : Type 0 where
  -- the newest first
  pub made : List Step
  pub rest : List Step
  pub parts : steps ≡ reverse made ++ rest
  pub scene : Scene
  pub run : scene_reached h (reverse past ++ later) made ≡ Some scene
  pub live : scene.live ≡ header_now h past
  pub left : scene.rows ≡ later
  pub floors : AreAtFloors (header_now h past) (known_now h past) scene.world

-- so it is behind each row
abbrev pub StandsAtFloors : Header → List Row → List Step → Type 0
StandsAtFloors h rows steps = (past later : List Row) → rows ≡ reverse past ++ later → StandsBehind h past later steps
