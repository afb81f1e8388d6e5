-- How far a line's fields are counted
use Rattle.line_text.proofs.Words.{◌≡◌, ◌+◌, ◌||◌, ℕ, Bool, List, length, has_empty_field}

pub record AreCounted (fields rest : List (List ℕ)) (n : ℕ) (found : Bool) : Type 0 where
  pub count : length fields ≡ n + length rest
  pub empty : has_empty_field fields ≡ found || has_empty_field rest
