-- What the inputs of a run hold, where their bytes are known
use Rattle.std.specs.Prelude.{ℕ, List, Option, None, Result, Ok, Err}

-- the bytes of an input that could be opened, where they are known
abbrev pub opened : {S E : Type 0} → (S → Option (List ℕ)) → Result S E → Option (List ℕ)
opened bytes (Ok input) = bytes input
opened bytes (Err error) = None
