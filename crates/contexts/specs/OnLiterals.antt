-- What a fact on literals unfolds to compute: name it on an `unfolding` line
use Rattle.std.specs.Prelude.{⊤}
use Rattle.contexts.specs.Contexts as of_contexts

unfoldable pub contexts_on_literals : ⊤
unfolding of_contexts.added_endpoints
contexts_on_literals = tt
