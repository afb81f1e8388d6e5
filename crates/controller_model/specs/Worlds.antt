-- Which scene of the definitions a value stands for
use Rattle.std.specs.Prelude.{◌≡◌, ℕ}
use Rattle.controller_model.specs.declared.world.World.{World as Value}
use Rattle.controller_model.specs.Controllers.{IsBeside, IsOver}
use Rattle.world_state.specs.Scenes.{Scene}

-- the value stands for this scene; words tells the words of its memory
pub record StandsFor {M : Type 0} (words : M → ℕ → ℕ) (v : Value M) (x : Scene) : Type 0 where
  pub controller : IsBeside words v.controller x
  pub left : v.left ≡ x.rows

-- memory was refused in a step: the value stands for no scene
abbrev pub IsSpent : {M : Type 0} → Value M → Type 0
IsSpent v = IsOver v.controller
