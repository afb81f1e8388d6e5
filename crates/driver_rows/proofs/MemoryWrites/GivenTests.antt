-- The first rule that is broken among those of what is given
use Rattle.driver_rows.proofs.Words.{◌≡◌, List, [], ◌∷◌, ◌++◌, true, false, Some, None, refl, sym, Refusal, Test, first_broken}

some_none : {X : Type 0} (c : Refusal) → Some c ≡ None → X
some_none c e = cc

-- one of the first tests fails, or none of them
pub first_fails : (xs ys : List Test) (c : Refusal) → Some c ≡ first_broken xs → Some c ≡ first_broken (xs ++ ys)
first_fails [] ys c e = some_none c e
first_fails ((rule, true) ∷ xs) ys c e = e
first_fails ((rule, false) ∷ xs) ys c e = first_fails xs ys c e

pub none_fails : (xs ys : List Test) → None ≡ first_broken xs → first_broken ys ≡ first_broken (xs ++ ys)
none_fails [] ys e = refl
none_fails ((rule, true) ∷ xs) ys e = some_none rule (sym e)
none_fails ((rule, false) ∷ xs) ys e = none_fails xs ys e
