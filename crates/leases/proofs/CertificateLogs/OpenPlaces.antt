-- Which lease stands at a place, when one begins and when one ends
use Rattle.leases.proofs.BaseWords.{arith, rules, subst, ◌≡◌, ◌+◌, ◌∷◌, ◌++◌, ◌∙◌, ℕ, zero, suc, Bool, true, false, List, [], length, map, slice_get, sym, refl, list_any, and_parts, or_from, false≢true, Lease, Leased, Lent, is_unended, AllUnended, agree, agrees, test_of, IsOnly, IsOnlyAt, is_open_of}

module _ (p q : Lent → Bool) (f : Lent → Lent) (same : (t : Lent) → q (f t) ≡ p t) where
  none_alike : (ts : List Lent) → list_any p ts ≡ false → list_any q (map f ts) ≡ false
  none_alike [] none = refl
  none_alike (t ∷ ts) none = grind (arith, same t, none_alike ts)

  at_alike : (i : ℕ) (ts : List Lent) → IsOnlyAt p i ts → IsOnlyAt q i (map f ts)
  at_alike i [] at = at
  at_alike zero (t ∷ ts) at = (same t ∙ at.0, none_alike ts at.1)
  at_alike (suc i) (t ∷ ts) at = (same t ∙ at.0, at_alike i ts at.1)

  -- what passes still, and nothing else
  pub only_alike : (n : ℕ) (ts : List Lent) → IsOnly p n ts → IsOnly q n (map f ts)
  only_alike n ts none = grind (arith, none_alike, at_alike)

-- tests that agree are passed by the same
pub only_same : (p q : Lent → Bool) → ((t : Lent) → q t ≡ p t) → (n : ℕ) (ts : List Lent) → IsOnly p n ts → IsOnly q n ts
only_same p q same n ts only = subst (λ (r : Lent → Bool). IsOnly r n ts) (λ i t. sym (same t) i) only

module _ (p : Lent → Bool) (t : Lent) where
  none_more : (ts : List Lent) → p t ≡ false → list_any p ts ≡ false → list_any p (ts ++ t ∷ []) ≡ false
  none_more [] fails none = or_from (p t) false fails refl
  none_more (s ∷ ts) fails none = grind (arith, none_more ts)

  at_more : (i : ℕ) (ts : List Lent) → p t ≡ false → IsOnlyAt p i ts → IsOnlyAt p i (ts ++ t ∷ [])
  at_more i [] fails at = absurd at
  at_more zero (s ∷ ts) fails at = (at.0, none_more ts fails at.1)
  at_more (suc i) (s ∷ ts) fails at = (at.0, at_more i ts fails at.1)

  -- one more that doesn't pass
  pub only_more : (n : ℕ) (ts : List Lent) → p t ≡ false → IsOnly p n ts → IsOnly p n (ts ++ t ∷ [])
  only_more n ts fails none = grind (arith, none_more, at_more)

  -- and one that does
  pub first_one : (ts : List Lent) → p t ≡ true → list_any p ts ≡ false → IsOnlyAt p (length ts) (ts ++ t ∷ [])
  first_one [] passes none = (passes, refl)
  first_one (s ∷ ts) passes none = grind (arith, first_one ts passes)

module _ (S T : Leased → Bool) (less : (l : Leased) → S l ≡ false → T l ≡ false) where
  open_less : (t : Lent) → is_open_of S t ≡ false → is_open_of T t ≡ false
  open_less t e = search (rules, is_unended)

  pub none_less : (ts : List Lent) → list_any (is_open_of S) ts ≡ false → list_any (is_open_of T) ts ≡ false
  none_less [] none = refl
  none_less (t ∷ ts) none = grind (arith, open_less t, none_less ts)

  -- of a test that fewer pass: by its lease in the list, the one there passes it, or none does
  pub at_less : (C : Leased → Type 0) (G : Lease → Bool) → ((t : Lent) (l : Lease) → agrees t l ≡ true → is_open_of S t ≡ true → C t.leased → G l ≡ is_open_of T t) →
      (i n : ℕ) (ts : List Lent) (ls : List Lease) → agree ts ls ≡ true → AllUnended (λ j m. C m) n ts → IsOnlyAt (is_open_of S) i ts →
      (test_of G (slice_get ls i) ≡ true → IsOnlyAt (is_open_of T) i ts) × (test_of G (slice_get ls i) ≡ false → list_any (is_open_of T) ts ≡ false)
  unfolding agree
  at_less C G told i n [] ls e all at = absurd at
  at_less C G told zero n (t ∷ ts) (m ∷ ls) e all at = search (rules, and_parts, agrees, agree, is_unended, is_open_of, none_less, or_from, list_any)
  at_less C G told (suc i) n (t ∷ ts) (m ∷ ls) e all at = grind (arith, open_less, or_from, is_open_of, at_less C G told i (n + 1) ts ls)
  at_less C G told i n ts ls e all at = absurd (false≢true e)
