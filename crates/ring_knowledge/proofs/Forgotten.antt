-- Lists whose first parts are forgotten
use Rattle.ring_knowledge.proofs.Words.{slice_get, ◌≡◌, ◌-◌, ◌≤◌, ◌∷◌, ◌++◌, ◌∙◌, ℕ, suc, zero, List, [], refl, ap, sym, arith, length, drop, Block, no_ops}

module _ {A : Type 0} where
  pub drop_append : (xs ys : List A) (k : ℕ) → k ≤ length xs → drop k (xs ++ ys) ≡ drop k xs ++ ys
  drop_append xs ys zero within = refl
  drop_append [] ys (suc k) within = absurd (omega arith)
  drop_append (x ∷ xs) ys (suc k) within = drop_append xs ys k (omega arith)

  pub get_kept : (xs : List A) (k p : ℕ) → k ≤ p → slice_get xs p ≡ slice_get (drop k xs) (p - k)
  get_kept xs zero p kept = let all : p - 0 ≡ p = omega arith in ap (λ n. slice_get xs n) (sym all)
  get_kept [] (suc k) zero kept = absurd (omega arith)
  get_kept [] (suc k) (suc p) kept = refl
  get_kept (x ∷ xs) (suc k) zero kept = absurd (omega arith)
  get_kept (x ∷ xs) (suc k) (suc p) kept = let less : suc p - suc k ≡ p - k = omega arith in get_kept xs k p (omega arith) ∙ ap (λ n. slice_get (drop k xs) n) (sym less)

pub drop_no_ops : (xs : List Block) (k p n : ℕ) → k ≤ p → drop k (no_ops xs p n) ≡ no_ops (drop k xs) (p - k) n
unfolding no_ops
drop_no_ops xs zero p n kept = let all : p - 0 ≡ p = omega arith in ap (λ m. no_ops xs m n) (sym all)
drop_no_ops xs (suc k) zero n kept = absurd (omega arith)
drop_no_ops [] (suc k) (suc p) n kept = refl
drop_no_ops (x ∷ xs) (suc k) (suc p) n kept = let less : suc p - suc k ≡ p - k = omega arith in drop_no_ops xs k p n (omega arith) ∙ ap (λ m. no_ops (drop k xs) m n) (sym less)
