-- Lists with an element that is read, or set
use Rattle.driver_rows.proofs.Words.{rules, ◌≡◌, ◌≢◌, ◌⊎◌, ℕ, zero, suc, List, [], ◌∷◌, Some, get_or, set, slice_get, refl, inl, inr, arith, none-some, same_Some}

-- in a list with a new element at n
pub at_set : {X : Type 0} (xs : List X) (n i : ℕ) (y x : X) → slice_get (set xs n y) i ≡ Some x → ((i ≡ n) × (y ≡ x)) ⊎ ((i ≢ n) × (slice_get xs i ≡ Some x))
at_set [] n i y x e = absurd (none-some x e)
at_set (z ∷ xs) zero zero y x e = inl (refl, same_Some y x e)
at_set (z ∷ xs) zero (suc i) y x e = inr ((λ same. omega (arith, same)), e)
at_set (z ∷ xs) (suc n) zero y x e = inr ((λ same. omega (arith, same)), e)
at_set (z ∷ xs) (suc n) (suc i) y x e = search (rules, none-some, same_Some, at_set xs n i y x e)

-- what stands at a place is read there
pub read_there : {X : Type 0} (xs : List X) (n : ℕ) (d x : X) → slice_get xs n ≡ Some x → get_or xs n d ≡ x
read_there [] n d x e = absurd (none-some x e)
read_there (y ∷ ys) zero d x e = same_Some y x e
read_there (y ∷ ys) (suc n) d x e = read_there ys n d x e
