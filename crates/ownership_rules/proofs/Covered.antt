-- A word is under lease at a row exactly where a lease of the trace covers it there: one that began before the row, and wasn't
-- over before it
use Rattle.ownership_rules.proofs.Words.{◌≡◌, ◌+◌, ◌<◌, ◌≤◌, ◌&&◌, ◌||◌, ◌∷◌, ◌++◌, ◌∙◌, ℕ, Bool, true, false, not, List, [], length, filter, map, nat_lt, nat_le, reverse, arith, sym, ap, refl, inl, inr, list_any, reverse_aux, cases_Bool, nat_tests, list_any-append, overlap, Header, Row, Lease, Known, nothing, header_after, header_now, known_after, known_now, Leased, covers, is_among, is_leased, lease_bytes, lease_start, open_leases, as_lease, begun, covers_at, end_from, in_order, leases, leases_from, with_ends, with_lease, without_end, words_bytes, words_from}
use Rattle.ownership_rules.proofs.Among.{IsIn, from_filter, new_or_old}
use Rattle.ownership_rules.proofs.ProperLeases.{IsProper, AreProper, open_are_proper}

-- the order doesn't matter
or_swap : (a b c : Bool) → (a || (b || c)) ≡ (b || (a || c))
or_swap a b c = grind arith

inserted : (p : Lease → Bool) (l : Lease) (ls : List Lease) → list_any p (with_lease l ls) ≡ list_any p (l ∷ ls)
unfolding with_lease
inserted p l [] = refl
inserted p l (m ∷ rest) = grind (arith, cases_Bool, or_swap, inserted p l rest)

pub sorted : (p : Lease → Bool) (ls : List Lease) → list_any p (in_order ls) ≡ list_any p ls
unfolding in_order
sorted p [] = refl
sorted p (l ∷ ls) = inserted p l (in_order ls) ∙ ap (λ b. p l || b) (sorted p ls)

pub mapped : {X Y : Type 0} (p : Y → Bool) (f : X → Y) (xs : List X) → list_any p (map f xs) ≡ list_any (λ x. p (f x)) xs
mapped p f [] = refl
mapped p f (x ∷ xs) = ap (λ b. p (f x) || b) (mapped p f xs)

-- tests that agree on what is in a list find alike
agree : {X : Type 0} (p q : X → Bool) (xs : List X) → ((x : X) → IsIn x xs → p x ≡ q x) → list_any p xs ≡ list_any q xs
agree p q [] same = refl
agree p q (x ∷ xs) same = rw (same x (inl refl), agree p q xs (λ y at. same y (inr at))) refl

-- the words of a lease are those of what is leased
words_are : (h : Header) (a from to : ℕ) (l : Leased) → IsProper l → overlap a 4 (words_from h (as_lease from to l)) (words_bytes (as_lease from to l)) ≡ covers h a 4 l
unfolding words_from words_bytes as_lease covers lease_start lease_bytes
words_are h a from to l proper = grind arith

pub from_is : (from to : ℕ) (l : Leased) → (as_lease from to l).from ≡ from
unfolding as_lease
from_is from to l = grind arith

pub to_is : (from to : ℕ) (l : Leased) → (as_lease from to l).to ≡ to
unfolding as_lease
to_is from to l = grind arith

-- with g the header of the rings that are there at row m
module _ (g : Header) (a m : ℕ) where
  -- what is leased covers the word, and isn't over before row m
  abbrev still : Header → Known → ℕ → List Row → Leased → Bool
  still h k n rows l = covers g a 4 l && nat_le m (end_from h k n rows l)

  covered_as : (from to : ℕ) (l : Leased) → IsProper l → from < m → covers_at g m a (as_lease from to l) ≡ (covers g a 4 l && nat_le m to)
  unfolding covers_at
  covered_as from to l proper before = grind (arith, nat_lt, nat_tests, words_are, from_is, to_is, nat_le, Bool)

  not_yet : (from to : ℕ) (l : Leased) → m ≤ from → covers_at g m a (as_lease from to l) ≡ false
  unfolding covers_at
  not_yet from to l late = grind (arith, nat_lt, nat_tests, from_is)

  none_yet : (h : Header) (k : Known) (from n : ℕ) (rows : List Row) (ls : List Leased) → m ≤ from → list_any (covers_at g m a) (with_ends h k from n rows ls) ≡ false
  unfolding with_ends
  none_yet h k from n rows ls late =
      sorted (covers_at g m a) (map (λ l. as_lease from (end_from h k n rows l) l) ls) ∙ mapped (covers_at g m a) (λ l. as_lease from (end_from h k n rows l) l) ls ∙ nothing_in ls
    where
      nothing_in : (ls : List Leased) → list_any (λ l. covers_at g m a (as_lease from (end_from h k n rows l) l)) ls ≡ false
      nothing_in [] = refl
      nothing_in (l ∷ ls) = rw (not_yet from (end_from h k n rows l) l late, nothing_in ls) refl

  some_yet : (h : Header) (k : Known) (from n : ℕ) (rows : List Row) (ls : List Leased) → AreProper ls → from < m →
      list_any (covers_at g m a) (with_ends h k from n rows ls) ≡ list_any (still h k n rows) ls
  unfolding with_ends
  some_yet h k from n rows ls proper before = grind (arith, sorted, mapped, agree, covered_as)

  -- what begins from row m on doesn't cover it
  later : (h : Header) (k : Known) (n : ℕ) (rows : List Row) → m ≤ n → list_any (covers_at g m a) (leases_from h k n rows) ≡ false
  unfolding leases_from
  later h k n [] late = refl
  later h k n (row ∷ rows) late = grind (arith, list_any-append, none_yet, later (header_after h row) (known_after h k row) (n + 1) rows (omega arith))

  -- a lease ends at one of the rows, or after them
  ends_late : (h : Header) (k : Known) (n : ℕ) (rows : List Row) (l : Leased) → n + length rows ≤ without_end → n ≤ end_from h k n rows l
  unfolding end_from
  ends_late h k n [] l room = omega arith
  ends_late h k n (row ∷ rows) l room = grind (arith, cases_Bool, ends_late (header_after h row) (known_after h k row) (n + 1) rows l (omega arith))

  still_here : (k : Known) (rows : List Row) → m + length rows ≤ without_end → list_any (still g k m rows) (open_leases g k) ≡ is_leased g k a
  unfolding is_leased
  still_here k rows room = grind (arith, agree, Bool, ends_late, nat_le, nat_tests)

  module _ (h : Header) (k : Known) (n : ℕ) (row : Row) (rows : List Row) (before : n < m) where
    abbrev h' : Header
    h' = header_after h row

    abbrev k' : Known
    k' = known_after h k row

    end_on : (l : Leased) → nat_le m (end_from h k n (row ∷ rows) l) ≡ (is_among (open_leases h' k') l && nat_le m (end_from h' k' (n + 1) rows l))
    unfolding end_from
    end_on l = grind (arith, cases_Bool, nat_le, nat_tests)

    -- one row earlier: what begins at the row, and what was open before it, is what is open after it
    back_a_row : (list_any (covers_at g m a) (with_ends h' k' n (n + 1) rows (begun h k row)) || list_any (still h k n (row ∷ rows)) (open_leases h k))
        ≡ list_any (still h' k' (n + 1) rows) (open_leases h' k')
    unfolding begun
    back_a_row =
        let passes = still h' k' (n + 1) rows in
        let new = some_yet h' k' n (n + 1) rows (filter (λ l. not (is_among (open_leases h k) l)) (open_leases h' k'))
        (λ l at. open_are_proper h' k' l (from_filter (λ l. not (is_among (open_leases h k) l)) (open_leases h' k') l at).0) before in
        let old : list_any (still h k n (row ∷ rows)) (open_leases h k) ≡ list_any (λ l. is_among (open_leases h' k') l && still h' k' (n + 1) rows l) (open_leases h k) =
        agree (still h k n (row ∷ rows)) (λ l. is_among (open_leases h' k') l && still h' k' (n + 1) rows l) (open_leases h k)
        (λ l at. ap (λ b. covers g a 4 l && b) (end_on l)
        ∙ swap (covers g a 4 l) (is_among (open_leases h' k') l) (nat_le m (end_from h' k' (n + 1) rows l))) in
        rw (new, old) (new_or_old passes (open_leases h k) (open_leases h' k'))
      where
        swap : (x y z : Bool) → (x && (y && z)) ≡ (y && (x && z))
        swap true true z = refl
        swap true false z = refl
        swap false true z = refl
        swap false false z = refl

-- the rings that are there behind more rows, in their order, and what is known then
abbrev pub header_behind : Header → List Row → Header
header_behind h [] = h
header_behind h (row ∷ rows) = header_behind (header_after h row) rows

abbrev pub known_behind : Header → Known → List Row → Known
known_behind h k [] = k
known_behind h k (row ∷ rows) = known_behind (header_after h row) (known_after h k row) rows

module _ (a : ℕ) where
  -- the leases of the rows from here on, and those open here, that cover the word at row n + length before
  covered_from : (h : Header) (k : Known) (n : ℕ) (before rest : List Row) → n + length before + length rest ≤ without_end →
      (list_any (covers_at (header_behind h before) (n + length before) a) (leases_from h k n (before ++ rest))
      || list_any (still (header_behind h before) a (n + length before) h k n (before ++ rest)) (open_leases h k))
      ≡ is_leased (header_behind h before) (known_behind h k before) a
  unfolding leases_from
  covered_from h k n [] rest room =
      let none = later h a n h k n rest (omega arith) in
      grind (arith, still_here)
  covered_from h k n (row ∷ before) rest room =
      let h' : Header = header_after h row in
      let k' : Known = known_after h k row in
      let g : Header = header_behind h' before in
      let tail : List Row = before ++ rest in
      let m : ℕ = n + length (row ∷ before) in
      let at : n + 1 + length before ≡ m = omega arith in
      let step = back_a_row g a m h k n row tail (omega arith) in
      let all = list_any-append (covers_at g m a) (with_ends h' k' n (n + 1) tail (begun h k row)) (leases_from h' k' (n + 1) tail) in
      let rest_is : (list_any (covers_at g m a) (leases_from h' k' (n + 1) tail) || list_any (still g a m h' k' (n + 1) tail) (open_leases h' k')) ≡ is_leased g (known_behind h' k' before) a =
      rw at at (covered_from h' k' (n + 1) before rest (omega arith)) in
      shuffle
      (list_any (covers_at g m a) (leases_from h k n (row ∷ tail)))
      (list_any (covers_at g m a) (with_ends h' k' n (n + 1) tail (begun h k row)))
      (list_any (covers_at g m a) (leases_from h' k' (n + 1) tail))
      (list_any (still g a m h k n (row ∷ tail)) (open_leases h k))
      (list_any (still g a m h' k' (n + 1) tail) (open_leases h' k'))
      (is_leased g (known_behind h' k' before) a) all step rest_is
    where
      shuffle : (g b g' o o' x : Bool) → g ≡ (b || g') → (b || o) ≡ o' → (g' || o') ≡ x → (g || o) ≡ x
      shuffle g b g' o o' x p q r = rw p (turn b g' o ∙ ap (λ z. g' || z) q ∙ r) where
        turn : (b g' o : Bool) → ((b || g') || o) ≡ (g' || (b || o))
        turn true true o = refl
        turn true false o = refl
        turn false g' o = refl

module _ (h : Header) where
  pub headers_alike : (past rows : List Row) → header_behind (header_now h past) rows ≡ header_now h (reverse_aux rows past)
  headers_alike past [] = refl
  headers_alike past (row ∷ rows) = headers_alike (row ∷ past) rows

  pub known_alike : (past rows : List Row) → known_behind (header_now h past) (known_now h past) rows ≡ known_now h (reverse_aux rows past)
  known_alike past [] = refl
  known_alike past (row ∷ rows) = known_alike (row ∷ past) rows

-- a word is under lease at the row behind `before` exactly where a lease of the trace covers it there, by the rings that are there then
pub leased_where_covered : (h : Header) (first a : ℕ) (before rest : List Row) → 0 < first → first + length before + length rest ≤ without_end →
    is_leased (header_now h (reverse before)) (known_now h (reverse before)) a ≡ list_any (covers_at (header_now h (reverse before)) (first + length before) a) (leases h first (before ++ rest))
unfolding leases
leased_where_covered h first a before rest begins room =
    let rows : List Row = before ++ rest in
    let m : ℕ = first + length before in
    let g : Header = header_behind h before in
    let opened = some_yet g a m h nothing 0 first rows (open_leases h nothing) (open_are_proper h nothing) (omega arith) in
    let all = list_any-append (covers_at g m a) (with_ends h nothing 0 first rows (open_leases h nothing)) (leases_from h nothing first rows) in
    rw (sym (headers_alike h [] before), sym (known_alike h [] before))
    (sym (covered_from a h nothing first before rest room)
    ∙ or_comm (list_any (covers_at g m a) (leases_from h nothing first rows)) (list_any (still g a m h nothing first rows) (open_leases h nothing))
    ∙ ap (λ b. b || list_any (covers_at g m a) (leases_from h nothing first rows)) (sym opened) ∙ sym all)
  where
    or_comm : (x y : Bool) → (x || y) ≡ (y || x)
    or_comm true true = refl
    or_comm true false = refl
    or_comm false true = refl
    or_comm false false = refl
