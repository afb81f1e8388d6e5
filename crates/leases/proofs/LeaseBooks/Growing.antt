-- The leases of a trace are what was and is lent after its rows
use Rattle.leases.proofs.BaseWords.{append_assoc, ◌≡◌, ◌+◌, ◌<◌, ◌≤◌, ◌==◌, ◌∷◌, ◌++◌, ℕ, true, List, [], length, map, reverse, arith, sym, ap, refl, cond, eqb-true, append-nil, reverse_aux, nat_tests, Header, Row, Lease, Known, nothing, header_now, known_now, Leased, open_leases, as_lease, begun, comes_before, end_from, in_order, leases, leases_from, with_ends, with_lease, without_end, Lent, lease_of, is_unended, begun_at, precedes, with_leased, in_turn, ended_where, with_begun, lents, passed_on, rules, known_after, header_after}

-- when a lease begins and ends doesn't matter for its place
placed_alike : (a b : Leased) (f e g d : ℕ) → comes_before (as_lease f e a) (as_lease g d b) ≡ precedes a b
unfolding precedes comes_before as_lease
placed_alike a b f e g d = grind arith

module _ (from : ℕ) (end : Leased → ℕ) where
  abbrev lease : Leased → Lease
  lease l = as_lease from (end l) l

  inserted : (l : Leased) (ls : List Leased) → with_lease (lease l) (map lease ls) ≡ map lease (with_leased l ls)
  unfolding with_lease with_leased
  inserted l [] = refl
  inserted l (m ∷ rest) = search (rules, placed_alike, inserted l rest)

  -- to sort leases is to sort what is leased
  pub sorted : (ls : List Leased) → in_order (map lease ls) ≡ map lease (in_turn ls)
  unfolding in_order in_turn
  sorted [] = refl
  sorted (l ∷ rest) = search (rules, inserted, sorted rest)

pub map_map : {X Y Z : Type 0} (f : Y → Z) (g : X → Y) (xs : List X) → map f (map g xs) ≡ map (λ x. f (g x)) xs
map_map f g [] = refl
map_map f g (x ∷ xs) = ap (λ ys. f (g x) ∷ ys) (map_map f g xs)

pub map_append : {X Y : Type 0} (f : X → Y) (xs ys : List X) → map f (xs ++ ys) ≡ map f xs ++ map f ys
map_append f [] ys = refl
map_append f (x ∷ xs) ys = ap (λ zs. f x ∷ zs) (map_append f xs ys)

pub map_same : {X Y : Type 0} (f g : X → Y) (xs : List X) → ((x : X) → f x ≡ g x) → map f xs ≡ map g xs
map_same {X = X} {Y = Y} f g xs same = ap (λ (k : X → Y). map k xs) (λ i x. same x i)

regroup : {X : Type 0} (xs ys zs : List X) → xs ++ (ys ++ zs) ≡ (xs ++ ys) ++ zs
regroup xs ys zs = sym (append_assoc xs ys zs)

-- a lease with the end that later rows give it
unfoldable finally : Header → Known → ℕ → List Row → Lent → Lease
finally h k n rows t = cond (is_unended t) (as_lease t.from (end_from h k n rows t.leased) t.leased) (lease_of t)

begun_finally : (h : Header) (k : Known) (from n : ℕ) (rows : List Row) (l : Leased) → finally h k n rows (begun_at from l) ≡ as_lease from (end_from h k n rows l) l
unfolding finally begun_at is_unended
begun_finally h k from n rows l = let same : (without_end == without_end) ≡ true = grind (arith, nat_tests) in rw same refl

all_begun_finally : (h : Header) (k : Known) (from n : ℕ) (rows : List Row) (ls : List Leased) →
    with_ends h k from n rows ls ≡ map (finally h k n rows) (map (begun_at from) (in_turn ls))
unfolding with_ends
all_begun_finally h k from n rows ls = search (rules, sorted from (end_from h k n rows) ls, map_same, begun_finally, map_map)

module _ (h : Header) (k : Known) (n : ℕ) (row : Row) (rows : List Row) where
  abbrev g : Header
  g = header_after h row

  abbrev l : Known
  l = known_after h k row

  -- with the row at hand, and with later ones
  grown_finally : (ts : List Lent) → n < without_end →
      map (finally h k n (row ∷ rows)) ts ++ with_ends g l n (n + 1) rows (begun h k row) ≡ map (finally g l (n + 1) rows) (passed_on (open_leases h k) (open_leases g l) n ts)
  unfolding passed_on with_begun begun finally ended_where end_from is_unended lease_of
  grown_finally ts early = search (rules, map_same, open_leases, nat_tests, map_map, all_begun_finally, map_append)

  from_here : leases_from h k n (row ∷ rows) ≡ with_ends g l n (n + 1) rows (begun h k row) ++ leases_from g l (n + 1) rows
  unfolding leases_from
  from_here = refl

no_rows : (h : Header) (k : Known) (n : ℕ) → leases_from h k n [] ≡ []
unfolding leases_from
no_rows h k n = refl

module _ (h : Header) where
  -- the leases of rows that have come, and of rows that follow
  leases_before : (first : ℕ) (past rest : List Row) → first + length past ≤ without_end →
      leases h first (reverse_aux past rest)
      ≡ map (finally (header_now h past) (known_now h past) (first + length past) rest) (lents h first past) ++ leases_from (header_now h past) (known_now h past) (first + length past) rest
  unfolding leases lents with_begun
  leases_before first [] rest room = search (rules, nothing, all_begun_finally, open_leases)
  leases_before first (row ∷ past) rest room = search (rules, length, regroup, map, grown_finally, from_here, leases_before first past (row ∷ rest) (omega arith))

  -- the leases that are lent after the rows are those of the trace
  pub leases_are : (first : ℕ) (past : List Row) → first + length past ≤ without_end → leases h first (reverse past) ≡ map lease_of (lents h first past)
  unfolding finally end_from lease_of is_unended
  leases_are first past room = search (rules, leases_before, no_rows, append-nil, map_same, eqb-true)
