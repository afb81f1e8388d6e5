-- Which scenes of the definitions a controller beside rows stands for
use Rattle.std.specs.Prelude.{◌≡◌, ℕ, true, false}
use Rattle.controller_model.specs.declared.controller.Controller.{Controller}
use Rattle.controller_model.specs.RingHarms.{IsFollowed}
use Rattle.world_state.specs.Scenes.{Scene}

-- the controller stands for this scene, whatever rows are to come there; words tells the words of its memory
pub record IsBeside {M : Type 0} (words : M → ℕ → ℕ) (c : Controller M) (x : Scene) : Type 0 where
  pub unspent : c.is_spent ≡ false
  pub followed : IsFollowed c.lists x.rows (words c.memory) c.kept c.rings x

-- memory was refused in a step: the controller stands for no scene
abbrev pub IsOver : {M : Type 0} → Controller M → Type 0
IsOver c = c.is_spent ≡ true
