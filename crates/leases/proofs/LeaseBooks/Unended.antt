-- Where the leases that aren't over stand in the list, when one begins and when some end
use Rattle.leases.proofs.BaseWords.{rules, or_parts, and_parts, ◌≡◌, ◌+◌, ◌&&◌, ◌∷◌, ℕ, Bool, false, List, [], length, map, arith, cond, subst, list_any, Leased, Lent, is_unended, begun_at, ended_where, with_begun, AllUnended}

-- what is told of each is told anew of each
pub all_anew : (F G : ℕ → Leased → Type 0) (n : ℕ) (ts : List Lent) → ((i : ℕ) (l : Leased) → F i l → G i l) → AllUnended F n ts → AllUnended G n ts
all_anew F G n [] f all = tt
all_anew F G n (t ∷ ts) f all = (λ u. f n t.leased (all.0 u), all_anew F G (n + 1) ts f all.1)

-- one more begins, and those that share no place with it stay where they are
pub all_begun : (F G : ℕ → Leased → Type 0) (S : Leased → Bool) (row : ℕ) (l : Leased) (n : ℕ) (ts : List Lent) →
    ((i : ℕ) (m : Leased) → S m ≡ false → F i m → G i m) → G (n + length ts) l → list_any (λ t. is_unended t && S t.leased) ts ≡ false →
    AllUnended F n ts → AllUnended G n (with_begun row ts (l ∷ []))
unfolding with_begun begun_at
all_begun F G S row l n [] f here free all = search rules
all_begun F G S row l n (t ∷ ts) f here free all =
    let parts = or_parts (is_unended t && S t.leased) (list_any (λ t. is_unended t && S t.leased) ts) free in
    let at : n + length (t ∷ ts) ≡ n + 1 + length ts = omega arith in grind (arith, all_begun F G S row l (n + 1) ts f (subst (λ (i : ℕ). G i l) at here) parts.1 all.1)

-- what is over now wasn't before, or is as it was
pub all_ended : (F : ℕ → Leased → Type 0) (over : Leased → Bool) (row n : ℕ) (ts : List Lent) → AllUnended F n ts → AllUnended F n (map (ended_where over row) ts)
unfolding ended_where
all_ended F over row n [] all = tt
all_ended F over row n (t ∷ ts) all = grind (arith, is_unended, Bool, cond, and_parts, all_ended F over row (n + 1) ts all.1)
