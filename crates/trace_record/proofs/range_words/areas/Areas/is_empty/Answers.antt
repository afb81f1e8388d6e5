use Rattle.trace_record.proofs.BaseWords.{◌≡◌, ℕ, List, [], ◌∷◌, arith, length, refl, eqb-true, length_permutation}
use Rattle.trace_record.proofs.range_words.areas.Areas.is_empty.Goals as goal

none : (xs : List ℕ) → length xs ≡ 0 → xs ≡ []
none [] e = refl
none (x ∷ xs) e = absurd (omega (arith, e))

pub returns : goal.returns
returns c = grind (arith, eqb-true, none, length_permutation)
