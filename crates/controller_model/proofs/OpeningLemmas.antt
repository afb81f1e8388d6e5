-- Lists of which all elements are alike
use Rattle.controller_model.proofs.Words.{◌≡◌, ℕ, zero, suc, List, All, Some, slice_get, replicate, subst, slice_get_within, get_or_from_slice_get}

pub all_at : {X : Type 0} (P : X → Type 0) (xs : List X) (i : ℕ) (x : X) → All P xs → slice_get xs i ≡ Some x → P x
all_at P xs i x each at = subst P (get_or_from_slice_get xs i x x at) (each i x (slice_get_within xs i x at))

pub replicate_at : {X : Type 0} (n i : ℕ) (v x : X) → slice_get (replicate n v) i ≡ Some x → v ≡ x
replicate_at zero i v x at = absurd (cc)
replicate_at (suc n) zero v x at = cc
replicate_at (suc n) (suc i) v x at = replicate_at n i v x at
