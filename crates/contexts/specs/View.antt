-- What contracts see of a view of an input context
use Rattle.std.specs.Prelude.{ℕ}
use Rattle.contexts.specs.declared.size.ContextSize.{ContextSize}

-- the memory that is lent to the view, the address of the input context in it, and the size of each context
pub record View (M : Type 0) : Type 0 where
  pub memory : M
  pub address : ℕ
  pub size : ContextSize
