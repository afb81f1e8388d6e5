-- The device contexts of slots, where one slot lets go of its own
use Rattle.event_rows.proofs.Words.{rules, ◌≡◌, ◌+◌, ◌<◌, ◌≤◌, ◌∙◌, ◌∷◌, ◌≢◌, ◌==◌, ◌++◌, ℕ, zero, suc, List, Option, Some, None, ap, refl, inl, inr, arith, eq-eqb, ne_eqb, filter_map, cons_option, range_with_len, cases_eq, cond-true, cond-false, put, slots}

module _ (f : ℕ → Option ℕ) (s : ℕ) where
  put_other : (t : ℕ) → t ≢ s → put f s None t ≡ f t
  put_other t apart = cond-false (t == s) None (f t) (ne_eqb t s apart)

  put_here : (t : ℕ) → t ≡ s → put f s None t ≡ None
  put_here t same = cond-true (t == s) None (f t) (eq-eqb t s same)

  -- it had none
  pub put_none : f s ≡ None → put f s None ≡ f
  put_none none = search (rules, put_here, put_other)

  above : (a n : ℕ) → s < a → filter_map (put f s None) (range_with_len a n) ≡ filter_map f (range_with_len a n)
  above a zero high = refl
  above a (suc n) high = λ i. cons_option (put_other a (λ e. omega (arith, e, high)) i) (above (a + 1) n (omega (arith, high)) i)

  -- its context stands once among the others
  pub record Among (xs : List ℕ) (d : ℕ) : Type 0 where
    pub before : List ℕ
    pub after : List ℕ
    pub old : filter_map f xs ≡ before ++ d ∷ after
    pub new : filter_map (put f s None) xs ≡ before ++ after

  joined : (o : Option ℕ) (xs ys : List ℕ) → cons_option o (xs ++ ys) ≡ cons_option o xs ++ ys
  joined o xs ys = search rules

  among_range : (d a n : ℕ) → f s ≡ Some d → a ≤ s → s < a + n → Among (range_with_len a n) d
  among_range d a zero has low high = absurd (omega (arith, low, high))
  among_range d a (suc n) has low high = elim (cases_eq a s) [
    | inl same ↦ grind (arith, put_here, above)
    | inr apart ↦
        let rest : Among (range_with_len (a + 1) n) d = among_range d (a + 1) n has (omega (arith, low, apart)) (omega (arith, high)) in
        record {
          before = cons_option (f a) rest.before;
          after = rest.after;
          old = ap (λ xs. cons_option (f a) xs) rest.old ∙ joined (f a) rest.before (d ∷ rest.after);
          new = (λ i. cons_option (put_other a apart i) (rest.new i)) ∙ joined (f a) rest.before rest.after;
        }
  ]

  pub among_slots : (d : ℕ) → f s ≡ Some d → 0 < s → s < 256 → Among slots d
  unfolding slots
  among_slots d has low high = among_range d 1 255 has (omega (arith, low)) (omega (arith, high))
