-- To end one lease of the list is to end what it leases
use Rattle.leases.proofs.BaseWords.{rules, ◌≡◌, ◌+◌, ◌<◌, ◌&&◌, ◌∷◌, ◌∙◌, ℕ, Bool, true, false, List, [], map, slice_get, slice_set, Some, None, zero, suc, arith, ap, refl, cond, cases_Bool, and_parts, nat_tests, Lease, Leased, Block, Link, Range, same_leased, as_lease, without_end, leased_is, Lent, lease_of, is_unended, ended_where, AllUnended, is_open_as, ended_at}

pushed : {A B : Type 0} (f : A → B) (b : Bool) (x y : A) → f (cond b x y) ≡ cond b (f x) (f y)
pushed f b x y = grind arith

drops : (a b c : Bool) → (a && false && b && c) ≡ (a && false)
drops a b c = search rules

-- where the list has such an element at the index, or none
pub at_some : (l : Lease) (n i : ℕ) (xs : List Lease) (m : Lease) → slice_get xs i ≡ Some m → ended_at l n i xs ≡ cond (is_open_as l m) (slice_set xs i (record m { to = n })) xs
unfolding ended_at
at_some l n i [] m e = cc
at_some l n zero (x ∷ xs) m e = let same : x ≡ m = cc in rw same (pushed (λ y. y ∷ xs) (is_open_as l m) _ m)
at_some l n (suc i) (x ∷ xs) m e = ap (λ ys. x ∷ ys) (at_some l n i xs m e) ∙ pushed (λ ys. x ∷ ys) (is_open_as l m) _ xs

pub at_none : (l : Lease) (n i : ℕ) (xs : List Lease) → slice_get xs i ≡ None → ended_at l n i xs ≡ xs
unfolding ended_at
at_none l n i [] e = refl
at_none l n zero (x ∷ xs) e = cc
at_none l n (suc i) (x ∷ xs) e = ap (λ ys. x ∷ ys) (at_none l n i xs e)

pub later_end : (t : Lent) (n : ℕ) → lease_of (record t { to = n }) ≡ record (lease_of t) { to = n }
unfolding lease_of as_lease
later_end t n = search (rules, Leased, as_lease, Block, Link, Range)

module _ (F : ℕ → Leased → Type 0) (l : Leased) (row : ℕ) where
  -- none of these is the one that ends
  pub none_ends : (n : ℕ) (ts : List Lent) → ((j : ℕ) → F j l → j < n) → AllUnended F n ts → map (ended_where (same_leased l) row) ts ≡ ts
  unfolding ended_where
  none_ends n [] before all = refl
  none_ends n (t ∷ ts) before all = grind (arith, cases_Bool, is_unended, same_leased, and_parts, leased_is, none_ends (n + 1) ts (λ j f. let low : j < n = before j f in omega arith) all.1)

  module _ (x : Lease) (P : Leased → Type 0) (told : (j : ℕ) (m : Leased) → F j m → P m)
      (alike : (t : Lent) → (is_unended t ≡ true → P t.leased) → is_open_as x (lease_of t) ≡ (is_unended t && same_leased l t.leased)) where
    pub one_ends : (n i : ℕ) (ts : List Lent) → ((j : ℕ) → F j l → j ≡ n + i) → AllUnended F n ts →
        ended_at x row i (map lease_of ts) ≡ map lease_of (map (ended_where (same_leased l) row) ts)
    unfolding ended_at ended_where
    one_ends n i [] only all = refl
    one_ends n zero (t ∷ ts) only all = search (rules, map, ended_where, same_leased, none_ends, lease_of, cond, is_unended, later_end, pushed)
    one_ends n (suc i) (t ∷ ts) only all = grind (arith, cases_Bool, is_unended, same_leased, and_parts, leased_is, lease_of, one_ends (n + 1) i ts (λ j f. let e : j ≡ n + suc i = only j f in omega arith) all.1)

-- a block's lease, told of the list and told of what is lent
pub block_alike : (r p n e : ℕ) (t : Lent) → is_open_as (as_lease n e (Block r p)) (lease_of t) ≡ (is_unended t && same_leased (Block r p) t.leased)
unfolding is_open_as lease_of as_lease is_unended
block_alike r p n e t = search (rules, Leased, as_lease, without_end, same_leased, Block, Link, drops, Range)

abbrev pub IsPositive : Leased → Type 0
IsPositive (Block r p) = Unit {0}
IsPositive (Link r q) = 0 < q
IsPositive (Range n a e) = Unit {0}

-- and a Link's
pub link_alike : (r p n e : ℕ) (t : Lent) → 0 < p → (is_unended t ≡ true → IsPositive t.leased) → is_open_as (as_lease n e (Link r p)) (lease_of t) ≡ (is_unended t && same_leased (Link r p) t.leased)
unfolding is_open_as lease_of as_lease is_unended
link_alike r p n e t above positive = search (rules, nat_tests, Leased, without_end, as_lease, same_leased, Link, Block, drops, Range)
