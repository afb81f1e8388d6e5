-- The lease of a range ends at the index where it stands
use Rattle.leases.proofs.BaseWords.{rules, ◌≡◌, ◌+◌, ◌<◌, ◌&&◌, ◌||◌, ◌∷◌, ◌∙◌, ℕ, Bool, true, false, List, [], map, zero, suc, arith, sym, ap, refl, inl, inr, subst, eq-eqb, list_any, cases_Bool, and_parts, false≢true, Lease, Leased, Range, Use, same_leased, as_lease, without_end, leased_is, Lent, lease_of, is_unended, ended_where, AllUnended, is_open_as, ended_at, StandsAt, is_lent}
use Rattle.leases.proofs.LeaseBooks.Ending.{later_end, none_ends}

pub either_holds : (x y : Bool) → (x || y) ≡ true → x ≡ false → y ≡ true
either_holds x y e f = search rules

module _ (l : Leased) (i : ℕ) where
  -- it is lent where it can stand
  pub not_later : (n : ℕ) (ts : List Lent) → i < n → AllUnended (λ j m. m ≡ l → j ≡ i) n ts → list_any (λ t. is_unended t && same_leased l t.leased) ts ≡ true → ⊥
  not_later n [] early all some = false≢true some
  not_later n (t ∷ ts) early all some =
      elim (cases_Bool (is_unended t && same_leased l t.leased)) [
        | inl this ↦ grind (arith, and_parts, is_unended, same_leased, leased_is)
        | inr other ↦ not_later (n + 1) ts (omega arith) all.1 (either_holds _ _ some other)
      ]

module _ (l : Leased) (row : ℕ) (x : Lease) (alike : (t : Lent) → is_unended t ≡ true → t.leased ≡ l → is_open_as x (lease_of t) ≡ true) where
  pub stands_ends : (n i : ℕ) (ts : List Lent) → AllUnended (λ j m. m ≡ l → j ≡ n + i) n ts → list_any (λ t. is_unended t && same_leased l t.leased) ts ≡ true →
      ended_at x row i (map lease_of ts) ≡ map lease_of (map (ended_where (same_leased l) row) ts)
  unfolding ended_at ended_where
  stands_ends n i [] all some = refl
  stands_ends n zero (t ∷ ts) all some =
      elim (cases_Bool (is_unended t && same_leased l t.leased)) [
        | inl this ↦ grind (arith, and_parts, is_unended, same_leased, ended_where, none_ends, leased_is, lease_of, later_end)
        | inr other ↦ absurd (not_later l (n + 0) (n + 1) ts (omega arith) all.1 (either_holds _ _ some other))
      ]
  stands_ends n (suc i) (t ∷ ts) all some =
      elim (cases_Bool (is_unended t && same_leased l t.leased)) [
        | inl this ↦
            let parts = and_parts (is_unended t) (same_leased l t.leased) this in
            let here : n ≡ n + suc i = all.0 parts.0 (sym (leased_is l t.leased parts.1)) in
            absurd (omega arith)
        | inr other ↦
            let next : n + suc i ≡ n + 1 + i = omega arith in
            let later : AllUnended (λ j m. m ≡ l → j ≡ n + 1 + i) (n + 1) ts = subst (λ (k : ℕ). AllUnended (λ j m. m ≡ l → j ≡ k) (n + 1) ts) next all.1 in
            rw other (ap (λ ys. lease_of t ∷ ys) (stands_ends (n + 1) i ts later (either_holds _ _ some other)))
      ]

-- a range's lease has the words of its own
pub range_alike : (row n a : ℕ) (e : Use) (t : Lent) → is_unended t ≡ true → t.leased ≡ Range n a e → is_open_as (as_lease row without_end (Range n a e)) (lease_of t) ≡ true
unfolding is_open_as lease_of as_lease is_unended
range_alike row n a e t unended same = search (rules, without_end, eq-eqb)

pub range_ends : (ts : List Lent) (row n a i : ℕ) (e : Use) (x : Lease) (xs ys : List Lease) → xs ≡ map lease_of ts → x ≡ as_lease row without_end (Range n a e) → ys ≡ ended_at x row i xs →
    StandsAt ts (Range n a e) i → is_lent ts (Range n a e) ≡ true → ys ≡ map lease_of (map (ended_where (same_leased (Range n a e)) row) ts)
unfolding is_lent
range_ends ts row n a i e x xs ys f g k stands some =
    let at : i ≡ 0 + i = omega arith in
    k ∙ ap (ended_at x row i) f
    ∙ stands_ends (Range n a e) row x (λ t unended same. ap (λ y. is_open_as y (lease_of t)) g ∙ range_alike row n a e t unended same) 0 i ts
    (subst (λ (m : ℕ). StandsAt ts (Range n a e) m) at stands) some
