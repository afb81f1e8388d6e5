-- One number after another is passed
use Rattle.leases.proofs.BaseWords.{rules, and_false, or_false, false_unless, cond_both, ◌≡◌, ◌+◌, ◌≤◌, ◌==◌, ◌&&◌, ◌||◌, ◌∷◌, ℕ, Bool, true, false, nat_le, nat_lt, List, [], map, arith, ap, refl, eqb-true, cases_Bool, false≢true, and_parts, nat_tests, is_crossing, Header, shape_of, Leased, Block, Link, same_leased, IndexTables, Lent, is_unended, ended_where, is_passed, AllUnended, IsFound}

-- to end by one test, and then by another, is to end by both
ended_twice : (p q : Leased → Bool) (n : ℕ) (t : Lent) → ended_where p n (ended_where q n t) ≡ ended_where (λ l. q l || p l) n t
unfolding ended_where is_unended
ended_twice p q n t = grind (arith, cases_Bool, is_unended, cond_both)

pub all_twice : (p q : Leased → Bool) (n : ℕ) (ts : List Lent) → map (ended_where p n) (map (ended_where q n) ts) ≡ map (ended_where (λ l. q l || p l) n) ts
all_twice p q n [] = refl
all_twice p q n (t ∷ ts) = rw (ended_twice p q n t, all_twice p q n ts) refl

-- tests that agree on what isn't over end alike
pub ended_alike : (F : ℕ → Leased → Type 0) (p q : Leased → Bool) (n i : ℕ) (ts : List Lent) → ((j : ℕ) (l : Leased) → F j l → p l ≡ q l) → AllUnended F i ts →
    map (ended_where p n) ts ≡ map (ended_where q n) ts
unfolding ended_where
ended_alike F p q n i [] same all = refl
ended_alike F p q n i (t ∷ ts) same all = grind (arith, cases_Bool, is_unended, ended_alike F p q n (i + 1) ts same all.1)

pub and_true : (b : Bool) → (b && true) ≡ b
and_true b = search rules

-- a number more
one_more : (r s from n p : ℕ) → from ≤ n → (r == s && nat_le from p && nat_lt p n || r == s && n == p) ≡ (r == s && nat_le from p && nat_lt p (n + 1))
one_more r s from n p least = grind (arith, nat_tests, least)

-- a step of the walk, at a crossing and elsewhere
pub passed_crossing : (r from n : ℕ) (l : Leased) → from ≤ n → ((is_passed r from n l || same_leased (Block r n) l) || same_leased (Link r n) l) ≡ is_passed r from (n + 1) l
passed_crossing r from n z least = search (rules, or_false, one_more)

pub passed_block : (h : Header) (blocks links : IndexTables) (r from n : ℕ) (j : ℕ) (l : Leased) → from ≤ n → is_crossing (shape_of h r) n ≡ false → IsFound h blocks links j l →
    (is_passed r from n l || same_leased (Block r n) l) ≡ is_passed r from (n + 1) l
passed_block h blocks links r from n j l least none found = grind (arith, one_more, nat_le, nat_lt, false_unless, and_parts, is_crossing, shape_of, eqb-true, false≢true)

-- before the first step nothing is passed
pub none_passed : (r from to : ℕ) (l : Leased) → to ≤ from → is_passed r from to l ≡ false
none_passed r from to l least = grind (arith, nat_tests)

-- where nothing is over, all stays
pub none_over : (over : Leased → Bool) (n : ℕ) (ts : List Lent) → ((l : Leased) → over l ≡ false) → map (ended_where over n) ts ≡ ts
unfolding ended_where
none_over over n [] none = refl
none_over over n (t ∷ ts) none = rw (none t.leased, none_over over n ts none, and_false (is_unended t)) refl

-- tests that agree end alike
pub over_alike : (p q : Leased → Bool) (n : ℕ) (ts : List Lent) → ((l : Leased) → p l ≡ q l) → map (ended_where p n) ts ≡ map (ended_where q n) ts
over_alike p q n ts same = ap (λ (over : Leased → Bool). map (ended_where over n) ts) (λ i l. same l i)
