-- A table of endpoints with another entry at one of them
use Rattle.safety.proofs.Words.{◌≡◌, ℕ, eqb-true, eq-eqb, and_parts, and_from, false≢true, put, put_pair, rules}

pub at_pair : {A : Type 0} (P : A → Type 0) (f : ℕ → ℕ → A) (s i : ℕ) (x : A) (t j : ℕ) → (t ≡ s → j ≡ i → P x) → ((t ≡ s → j ≡ i → ⊥) → P (f t j)) → P (put_pair f s i x t j)
at_pair P f s i x t j here there = search (rules, and_parts, eqb-true, false≢true, and_from, eq-eqb)

pub at_number : {A : Type 0} (P : A → Type 0) (f : ℕ → A) (s : ℕ) (x : A) (t : ℕ) → (t ≡ s → P x) → ((t ≡ s → ⊥) → P (f t)) → P (put f s x t)
at_number P f s x t here there = search (rules, eqb-true, false≢true, eq-eqb)
