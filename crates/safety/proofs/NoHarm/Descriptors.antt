-- A position inside a descriptor: where the descriptor begins
use Rattle.safety.proofs.Words.{[], ◌≡◌, ◌+◌, ◌<◌, ◌≤◌, ◌==◌, ◌∷◌, ◌∙◌, ℕ, suc, false, List, All, sum, arith, refl, sym, inl, inr, eq-eqb, ne_eqb, cases_lt, cases_eq, false≢true, eqb-false, or_parts, cond-true, cond-false, sum_by-cons, is_border, length_from, rules}

-- a descriptor begins before position t and ends behind it; the first one begins at start
pub record Surrounds (lengths : List ℕ) (start t : ℕ) : Type 0 where
  pub begin : ℕ
  pub from : start ≤ begin
  pub before : begin < t
  pub behind : t < begin + length_from lengths start begin

no_border-parts : (n : ℕ) (rest : List ℕ) (start t : ℕ) → is_border (n ∷ rest) start t ≡ false → (start ≡ t → ⊥) × (is_border rest (start + n) t ≡ false)
unfolding is_border
no_border-parts n rest start t none = search (rules, or_parts, is_border, eqb-false)

length_here : (n : ℕ) (rest : List ℕ) (start : ℕ) → length_from (n ∷ rest) start start ≡ n
unfolding length_from
length_here n rest start = cond-true (start == start) n (length_from rest (start + n) start) (eq-eqb start start refl)

length_later : (n : ℕ) (rest : List ℕ) (start p : ℕ) → (start ≡ p → ⊥) → length_from (n ∷ rest) start p ≡ length_from rest (start + n) p
unfolding length_from
length_later n rest start p other = cond-false (start == p) n (length_from rest (start + n) p) (ne_eqb start p other)

-- a position that is declared, or the first that isn't, and no border is inside a descriptor
pub surrounded : (lengths : List ℕ) (start t : ℕ) → All (λ n. 0 < n) lengths → start ≤ t → t ≤ start + sum lengths → is_border lengths start t ≡ false →
    Surrounds lengths start t
unfolding is_border
surrounded [] start t all low high none = absurd (false≢true (sym none ∙ eq-eqb start t (omega arith)))
surrounded (n ∷ rest) start t all low high none =
    let parts = no_border-parts n rest start t none in
    let positive : 0 < n = all 0 0 (omega arith) in
    let others : All (λ n. 0 < n) rest = λ k d h. all (suc k) d (omega arith) in
    let total : sum (n ∷ rest) ≡ n + sum rest = sum_by-cons (λ x. x) n rest in
    let more : start < t = elim (cases_eq start t) [ inl same ↦ absurd (parts.0 same) | inr other ↦ omega arith ] in
    elim (cases_lt t (start + n)) [
      | inl here ↦ record { begin = start; from = omega arith; before = more; behind = omega (arith, length_here n rest start) }
      | inr later ↦ grind (arith, length_later, surrounded rest (start + n) t others later (omega arith) parts.1)
    ]
