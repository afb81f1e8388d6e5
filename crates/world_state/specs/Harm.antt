-- The harms by their numbers
use Rattle.std.specs.Prelude.{ℕ}
use Rattle.world_state.specs.declared.harm.Harm.{Harm}
use Rattle.world_state.specs.declared.harm.Harm.TheVariants.{TakenOutOfOrder, TakenOtherWords, WaitsInsideDescriptor, LooksOutside, PostsOverUnread, InputContextChanged}

abbrev pub number_of : Harm → ℕ
number_of TakenOutOfOrder = 1
number_of TakenOtherWords = 2
number_of WaitsInsideDescriptor = 3
number_of LooksOutside = 4
number_of PostsOverUnread = 5
number_of InputContextChanged = 6
