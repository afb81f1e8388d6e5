-- What holds of the bytes of an input that could be opened
use Rattle.answers.proofs.Words.{◌≡◌, ℕ, List, Option, Result, Ok, Err, subst, sym, opened}

pub opened_holds : {S E : Type 0} (P : Option (List ℕ) → Type 0) (bytes : S → Option (List ℕ)) (r : Result S E) (s : S) → r ≡ Ok s → P (bytes s) → P (opened bytes r)
opened_holds {S} {E} P bytes (Ok x) s same right =
    let known : bytes s ≡ opened {E = E} bytes (Ok x) = λ i. opened {E = E} bytes (sym same i) in
    subst P known right
opened_holds P bytes (Err e) s same right = absurd (cc)
