-- What a fact on literals unfolds to compute: name it on an `unfolding` line
use Rattle.std.specs.Prelude.{⊤}
use Rattle.commands.specs.Changes as of_changes
use Rattle.commands.specs.States as of_states
use Rattle.contexts.specs.OnLiterals.{contexts_on_literals}

unfoldable pub commands_on_literals : ⊤
unfolding of_changes.changes of_states.can_succeed contexts_on_literals
commands_on_literals = tt
