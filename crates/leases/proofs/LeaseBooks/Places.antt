-- The tables find a lease that begins, and still all others
use Rattle.leases.proofs.BaseWords.{not-true, and_false, ◌≡◌, ◌≢◌, ◌==◌, ◌&&◌, ◌∷◌, ◌++◌, ◌∙◌, ℕ, true, false, List, [], length, map, arith, ap, refl, subst, eqb-true, eq-eqb, list_any, false≢true, place_of, is_crossing, link_of, Header, shape_of, length-map, Lease, Leased, Block, Link, Range, Use, as_lease, without_end, IndexTables, index_at, Lent, is_unended, begun_at, lease_of, is_place_free, share_a_place, with_begun, AllUnended, IsFound, HoldsLents, LeaseBook, rules}
use Rattle.leases.proofs.LeaseBooks.Growing.{map_append}
use Rattle.leases.proofs.LeaseBooks.Unended.{all_begun}

-- one index was put
pub record IsPut (old new : IndexTables) (r n i : ℕ) : Type 0 where
  pub same : index_at new r n ≡ i
  pub ring : (m : ℕ) → m ≢ n → index_at new r m ≡ index_at old r m
  pub others : (s m : ℕ) → s ≢ r → index_at new s m ≡ index_at old s m

-- at another place of the ring, or on another ring
pub elsewhere : (old new : IndexTables) (r n i s m : ℕ) → IsPut old new r n i → (r == s && n == m) ≡ false → index_at new s m ≡ index_at old s m
elsewhere old new r n i s m put apart = search (rules, eqb-true, false≢true, eq-eqb)

module _ (h : Header) (old new other : IndexTables) (r p n : ℕ) (ts : List Lent) where
  pub block_found : AllUnended (IsFound h old other) 0 ts → IsPut old new r (place_of (shape_of h r) p) (length ts) →
      is_place_free h ts (Block r p) ≡ true → AllUnended (IsFound h new other) 0 (with_begun n ts (Block r p ∷ []))
  unfolding is_place_free
  block_found all put free = all_begun (IsFound h old other) (IsFound h new other) (share_a_place h (Block r p)) n (Block r p) 0 ts step (search rules) (not-true _ free) all
    where
      step : (i : ℕ) (m : Leased) → share_a_place h (Block r p) m ≡ false → IsFound h old other i m → IsFound h new other i m
      step i m apart was = grind (arith, elsewhere old new r)

  pub link_found : is_crossing (shape_of h r) p ≡ true → AllUnended (IsFound h other old) 0 ts → IsPut old new r (link_of (shape_of h r) p) (length ts) →
      is_place_free h ts (Link r p) ≡ true → AllUnended (IsFound h other new) 0 (with_begun n ts (Link r p ∷ []))
  unfolding is_place_free
  link_found above all put free = all_begun (IsFound h other old) (IsFound h other new) (share_a_place h (Link r p)) n (Link r p) 0 ts step (search rules) (not-true _ free) all
    where
      step : (i : ℕ) (m : Leased) → share_a_place h (Link r p) m ≡ false → IsFound h other old i m → IsFound h other new i m
      step i (Link s q) apart was = search (rules, elsewhere)
      step i _ apart was = search rules

-- the list, with what begins
pub list_begun : (ts : List Lent) (row : ℕ) (l : Leased) (xs ys : List Lease) {x : Lease} → xs ≡ map lease_of ts → x ≡ as_lease row without_end l → ys ≡ xs ++ x ∷ [] →
    ys ≡ map lease_of (with_begun row ts (l ∷ []))
unfolding with_begun begun_at lease_of
list_begun ts row l xs ys e f g = search (rules, map_append)

pub length_held : (h : Header) (ts : List Lent) (b : LeaseBook) → HoldsLents h ts b → length b.leases.items ≡ length ts
length_held h ts b known = ap length known.list ∙ length-map ts lease_of

-- numbers that are equal name one place
pub put_at : (old new : IndexTables) (r m n i j : ℕ) → m ≡ n → i ≡ j → IsPut old new r m i → IsPut old new r n j
put_at old new r m n i j e f put = let P : ℕ → ℕ → Type 0 = λ m i. IsPut old new r m i in subst (λ (x : ℕ). P n x) f (subst (λ (x : ℕ). P x i) e put)

-- a range shares no place
pub range_found : (h : Header) (blocks links : IndexTables) (ts : List Lent) (row n a : ℕ) (e : Use) → AllUnended (IsFound h blocks links) 0 ts →
    AllUnended (IsFound h blocks links) 0 (with_begun row ts (Range n a e ∷ []))
range_found h blocks links ts row n a e all = all_begun (IsFound h blocks links) (IsFound h blocks links) (λ m. false) row (Range n a e) 0 ts (λ i m apart was. was) tt (none ts) all
  where
    none : (us : List Lent) → list_any (λ t. is_unended t && false) us ≡ false
    none [] = refl
    none (u ∷ us) = rw (and_false (is_unended u)) (none us)
