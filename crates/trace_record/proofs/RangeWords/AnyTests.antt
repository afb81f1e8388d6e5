-- No element of a list passes a test
use Rattle.trace_record.proofs.BaseWords.{◌≡◌, ℕ, ◌<◌, List, [], ◌∷◌, Bool, false, refl, arith, length, get_or, suc, list_any}

pub any_none : (p : ℕ → Bool) (xs : List ℕ) → ((k d : ℕ) → k < length xs → p (get_or xs k d) ≡ false) → list_any p xs ≡ false
any_none p [] none = refl
any_none p (x ∷ xs) none = rw (none 0 x (omega arith)) (any_none p xs (λ k d l. none (suc k) d (omega arith)))
