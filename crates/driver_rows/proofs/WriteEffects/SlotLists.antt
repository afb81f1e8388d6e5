-- What a new device context of one slot adds to those of all slots
use Rattle.driver_rows.proofs.Words.{rules, ◌≡◌, ◌≢◌, ℕ, zero, suc, ◌+◌, ◌<◌, ◌≤◌, List, ◌∷◌, Option, Some, None, refl, ap, sym, ◌∙◌, arith, inl, inr, subst, ◌==◌, filter_map, cons_option, range_with_len, cases_Bool, eqb-true, ne_eqb, false≢true, eq-eqb, put, IsInserted}

-- a list with one more element in front
in_front : (x : ℕ) (o : Option ℕ) (old new : List ℕ) → IsInserted x old new → IsInserted x (cons_option o old) (cons_option o new)
in_front x None old new i = i
in_front x (Some y) old new i = record { front = y ∷ i.front; back = i.back; was = ap (λ l. y ∷ l) i.was; is = ap (λ l. y ∷ l) i.is }

-- with the same one, told in two ways
in_front_alike : (x : ℕ) (o p : Option ℕ) (old new : List ℕ) → p ≡ o → IsInserted x old new → IsInserted x (cons_option o old) (cons_option p new)
in_front_alike x o p old new same i = subst (λ q. IsInserted x (cons_option o old) (cons_option q new)) (sym same) (in_front x o old new i)

module _ (f : ℕ → Option ℕ) (s d : ℕ) where
  put_same : (n : ℕ) → n ≡ s → put f s (Some d) n ≡ Some d
  put_same n same = rw (eq-eqb n s same) refl

  put_other : (n : ℕ) → n ≢ s → put f s (Some d) n ≡ f n
  put_other n other = rw (ne_eqb n s other) refl

  listed_above : (from count : ℕ) → s < from → filter_map (put f s (Some d)) (range_with_len from count) ≡ filter_map f (range_with_len from count)
  listed_above from zero below = refl
  listed_above from (suc n) below = search (rules, put_other, listed_above (from + 1) n (omega arith))

  pub listed_with : (from count : ℕ) → f s ≡ None → from ≤ s → s < from + count →
      IsInserted d (filter_map f (range_with_len from count)) (filter_map (put f s (Some d)) (range_with_len from count))
  listed_with from zero fresh low high = absurd (omega arith)
  listed_with from (suc n) fresh low high = elim (cases_Bool (from == s)) [
    | inl same ↦ grind (arith, eqb-true, put_same, listed_above)
    | inr other ↦
        let apart : from ≢ s = λ same. false≢true (sym other ∙ eq-eqb from s same) in
        in_front_alike d (f from) (put f s (Some d) from) (filter_map f (range_with_len (from + 1) n)) (filter_map (put f s (Some d)) (range_with_len (from + 1) n))
        (put_other from apart) (listed_with (from + 1) n fresh (omega (arith, apart)) (omega arith))
  ]
