-- Where what is lent stands among what was and is lent
use Rattle.leases.proofs.LowerLaws.{rules, not-true, and_false, false_unless, ◌≡◌, ◌+◌, ◌<◌, ◌==◌, ◌&&◌, ◌∷◌, ℕ, zero, suc, Bool, true, false, List, [], arith, refl, inl, inr, subst, eq-eqb, list_any, cases_Bool, and_parts, false≢true, place_of, link_of, Header, shape_of, Leased, Block, Link, Range, Use, same_leased, leased_is, AllUnended, Lent, is_place_free, is_unended, share_a_place, StandsAt, is_lent, IsOnlyAt, RingPlace, has_place, is_open_of, either_holds, not_later}

module _ (l : Leased) where
  abbrev is_this : Lent → Bool
  is_this = is_open_of (same_leased l)

  none_later : (i n : ℕ) (ts : List Lent) → i < n → AllUnended (λ j m. m ≡ l → j ≡ i) n ts → list_any is_this ts ≡ false
  none_later i n ts early all = false_unless _ (λ some. not_later l i n ts early all some)

  only_there : (n i : ℕ) (ts : List Lent) → AllUnended (λ j m. m ≡ l → j ≡ n + i) n ts → list_any is_this ts ≡ true → IsOnlyAt is_this i ts
  only_there n i [] all some = absurd (false≢true some)
  only_there n zero (t ∷ ts) all some = search (rules, none_later (n + 0) (n + 1) ts, not_later l (n + 0) (n + 1) ts, either_holds)
  only_there n (suc i) (t ∷ ts) all some = elim (cases_Bool (is_this t)) [
    | inl this ↦ grind (arith, and_parts, is_unended, same_leased, leased_is)
    | inr other ↦
        let next : n + suc i ≡ n + 1 + i = omega arith in
        (other, only_there (n + 1) i ts (subst (λ (k : ℕ). AllUnended (λ j m. m ≡ l → j ≡ k) (n + 1) ts) next all.1) (either_holds (is_this t) (list_any is_this ts) some other))
  ]

  -- what is lent, and stands at an index, stands there alone
  pub stands_only : (ts : List Lent) (i : ℕ) → StandsAt ts l i → is_lent ts l ≡ true → IsOnlyAt is_this i ts
  unfolding is_lent
  stands_only ts i stands lent = only_there 0 i ts (subst (λ (m : ℕ). StandsAt ts l m) (omega arith) stands) lent

pub itself : (a b : ℕ) → (a == a && b == b) ≡ true
itself a b = rw (eq-eqb a a refl, eq-eqb b b refl) refl

module _ (h : Header) where
  -- a block shares a place with itself, and so does a Link
  pub block_itself : (r p : ℕ) → share_a_place h (Block r p) (Block r p) ≡ true
  block_itself r p = itself r (place_of (shape_of h r) p)

  pub link_itself : (r q : ℕ) → share_a_place h (Link r q) (Link r q) ≡ true
  link_itself r q = itself r (link_of (shape_of h r) q)

  -- what shares a place with itself is the same as nothing that doesn't share it
  pub apart_less : (l : Leased) → share_a_place h l l ≡ true → (x : Leased) → share_a_place h l x ≡ false → same_leased l x ≡ false
  apart_less l shares x apart = search (rules, false_unless, false≢true, share_a_place, leased_is)

  -- nothing is open at a place that is free, nor at the place of a range
  pub free_none : (ts : List Lent) (l : Leased) → is_place_free h ts l ≡ true → list_any (is_open_of (share_a_place h l)) ts ≡ false
  unfolding is_place_free
  free_none ts l free = not-true (list_any (is_open_of (share_a_place h l)) ts) free

  pub range_none : (n a : ℕ) (e : Use) (ts : List Lent) → list_any (is_open_of (share_a_place h (Range n a e))) ts ≡ false
  range_none n a e [] = refl
  range_none n a e (t ∷ ts) = rw (and_false (is_unended t)) (range_none n a e ts)

  -- a range has no place
  pub range_apart : (n a : ℕ) (e : Use) (m : RingPlace) → has_place h m (Range n a e) ≡ false
  range_apart n a e m = grind arith
