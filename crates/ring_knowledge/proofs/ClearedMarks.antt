-- Marks that are cleared in turn
use Rattle.ring_knowledge.proofs.Words.{◌≡◌, ◌+◌, ◌≤◌, ◌∷◌, ℕ, suc, zero, List, [], Bool, false, refl, arith, get_or, set, get_or-set_other, length-set, cases_lt, AreCleared, rules}

-- a cleared mark
cleared_at : (marks : List Bool) (j : ℕ) → get_or (set marks j false) j false ≡ false
cleared_at [] j = refl
cleared_at (m ∷ marks) zero = refl
cleared_at (m ∷ marks) (suc j) = cleared_at marks j

-- one that was clear stays so
clear_still : (marks : List Bool) (j i : ℕ) → get_or marks i false ≡ false → get_or (set marks j false) i false ≡ false
clear_still marks j i clear = search (rules, get_or, set, cleared_at, get_or-set_other)

module _ (R : ℕ → ℕ → Type 0) (old : List Bool) (from : ℕ) where
  -- none at first
  pub none_cleared : AreCleared R old old from from
  none_cleared = record { as_many = refl; cleared = λ n i l u h. absurd (omega arith); kept = λ i never. refl }

  -- the mark of one number more
  pub one_cleared : (marks : List Bool) (k j : ℕ) → AreCleared R old marks from k → from ≤ k → R k j → ((i : ℕ) → R k i → i ≡ j) → AreCleared R old (set marks j false) from (k + 1)
  one_cleared marks k j so_far low has only = search (rules, set, length-set, cases_lt, clear_still, get_or, cleared_at, get_or-set_other)

  -- a number without a mark
  pub none_here : (marks : List Bool) (k : ℕ) → AreCleared R old marks from k → ((i : ℕ) → R k i → ⊥) → AreCleared R old marks from (k + 1)
  none_here marks k so_far never = search (rules, cases_lt)

-- the same with equal numbers
pub same_numbers : (R : ℕ → ℕ → Type 0) (old new : List Bool) (from from' to to' : ℕ) → from ≡ from' → to ≡ to' → AreCleared R old new from to → AreCleared R old new from' to'
same_numbers R old new from from' to to' f g cleared = rw (← f, ← g) cleared
