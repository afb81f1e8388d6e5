-- Where descriptors begin and end once one more is declared
use Rattle.controller_model.proofs.Words.{◌≡◌, ◌+◌, ◌<◌, ◌==◌, ◌||◌, ◌++◌, ◌∷◌, ℕ, [], List, true, false, refl, arith, add-zero, eq-eqb, ne_eqb, or_assoc, or-true, is_border, blocks_of}

pub is_border-append : (lengths : List ℕ) (start n q : ℕ) →
    is_border (lengths ++ n ∷ []) start q ≡ (is_border lengths start q || start + blocks_of lengths + n == q)
unfolding is_border
is_border-append [] start n q = rw add-zero refl
is_border-append (m ∷ lengths) start n q = grind (arith, or_assoc, is_border-append lengths (start + m) n q)

pub is_border-past : (lengths : List ℕ) (start q : ℕ) → start + blocks_of lengths < q → is_border lengths start q ≡ false
unfolding is_border
is_border-past [] start q past = ne_eqb start q (λ e. omega arith)
is_border-past (m ∷ lengths) start q past = grind (arith, ne_eqb, is_border-past lengths (start + m) q (omega arith))

pub is_border-end : (lengths : List ℕ) (start q : ℕ) → start + blocks_of lengths ≡ q → is_border lengths start q ≡ true
unfolding is_border
is_border-end [] start q e = eq-eqb start q (omega arith)
is_border-end (m ∷ lengths) start q e = rw (is_border-end lengths (start + m) q (omega arith)) (or-true (start == q))
