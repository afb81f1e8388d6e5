-- What it is that rows do no harm: no run of the controller's model beside them does
use Rattle.std.specs.Prelude.{◌≡◌, List, All, Some}
use Rattle.traces.specs.declared.header.Header.{Header}
use Rattle.traces.specs.declared.step.Step.{Step}
use Rattle.traces.specs.declared.row.Row.{Row}
use Rattle.traces.specs.Steps.{IsStep}
use Rattle.world_state.specs.Harms.{IsSafe}
use Rattle.world_state.specs.Scenes.{Scene, scene_reached}

-- behind each step of each run of the model beside the rows, in their order, with controller steps anywhere between them, the world is safe: no
-- ring that was declared shows harm, whether it lives or went
abbrev pub DoNoHarm : Header → List Row → Type 0
DoNoHarm h rows = (steps : List Step) (x : Scene) → All IsStep steps → scene_reached h rows steps ≡ Some x → IsSafe x.header x.world
