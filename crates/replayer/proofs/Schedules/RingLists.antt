-- Lists of the rings that are there
use Rattle.replayer.proofs.Words.{◌≡◌, ◌==◌, ◌∷◌, [], ℕ, List, None, not, filter, ap, refl, arith, Bor, Ring, rings_at, is_late}

-- those that references point to are kept as the references are
pub rings_kept : (id : ℕ) (rings : List (Bor Ring)) → rings_at (filter (λ r. not (r.now.id == id)) rings) ≡ filter (λ r. not (r.id == id)) (rings_at rings)
rings_kept id [] = refl
rings_kept id (r ∷ rings) = grind (arith, rings_kept id rings)

-- where none is late all are prompt
pub all_prompt : (rings : List Ring) → filter (λ r. not (is_late None r)) rings ≡ rings
all_prompt [] = refl
all_prompt (r ∷ rings) = ap (λ l. r ∷ l) (all_prompt rings)
