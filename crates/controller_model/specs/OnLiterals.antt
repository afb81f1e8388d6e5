-- What a fact on literals unfolds to compute: name it on an `unfolding` line
use Rattle.std.specs.Prelude.{⊤}
use Rattle.controller_model.specs.Showing as of_showing
use Rattle.world_state.specs.OnLiterals.{world_on_literals}

unfoldable pub model_on_literals : ⊤
unfolding of_showing.look_shows of_showing.shows of_showing.scene_seen_by of_showing.scene_seen_from of_showing.scene_replayed world_on_literals
model_on_literals = tt
