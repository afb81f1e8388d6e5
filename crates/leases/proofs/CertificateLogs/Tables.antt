-- A number is put for the place of a lease
use Rattle.leases.proofs.MiddleLaws.{arith, ◌≡◌, ◌==◌, ◌&&◌, ◌∙◌, ℕ, true, false, sym, ap, refl, eqb-true, and_parts, false≢true, place_of, link_of, Header, shape_of, Leased, Block, Link, Range, Use, IndexTables, index_at, share_a_place, FindsPlaces, IsOnly, is_open_of, is_unended, Lent, List, BlockPlace, LinkPlace, RingPlace, has_place, number_at, rules, IsPut, elsewhere, only_same, itself, range_none}

-- the number of its place, and of no other, is this one now
pub record IsNumbered (h : Header) (blocks links new_blocks new_links : IndexTables) (l : Leased) (n : ℕ) : Type 0 where
  pub there : (m : RingPlace) → has_place h m l ≡ true → number_at new_blocks new_links m ≡ n
  pub others : (m : RingPlace) → has_place h m l ≡ false → number_at new_blocks new_links m ≡ number_at blocks links m

same_test : (r s u v a b : ℕ) → r ≡ s → u ≡ v → (r == a && u == b) ≡ (s == a && v == b)
same_test r s u v a b e f = rw (e, f) refl

same_index : (t : IndexTables) (r s u v : ℕ) → r ≡ s → u ≡ v → index_at t r u ≡ index_at t s v
same_index t r s u v e f = ap (λ i. index_at t i u) e ∙ ap (index_at t s) f

turned : (r s u v : ℕ) → (r == s && u == v) ≡ false → (s == r && v == u) ≡ false
turned r s u v e = search (rules, and_parts, false≢true, same_test, eqb-true, itself)

module _ (h : Header) where
  abbrev place : ℕ → ℕ → ℕ
  place r p = place_of (shape_of h r) p

  abbrev segment : ℕ → ℕ → ℕ
  segment r q = link_of (shape_of h r) q

  -- the number of the place of a lease; 0 for a range
  abbrev pub number_of : IndexTables → IndexTables → Leased → ℕ
  number_of blocks links (Block r p) = index_at blocks r (place r p)
  number_of blocks links (Link r q) = index_at links r (segment r q)
  number_of blocks links (Range n a e) = 0

  -- what has the place of a lease shares a place with it
  pub share_alike : (m : RingPlace) (l : Leased) → has_place h m l ≡ true → (x : Leased) → has_place h m x ≡ share_a_place h l x
  share_alike m l e x = grind (arith, and_parts, same_test, eqb-true, false≢true)

  of_place : (ts : List Lent) (m : RingPlace) (l : Leased) → has_place h m l ≡ true → (n : ℕ) → IsOnly (is_open_of (has_place h m)) n ts → IsOnly (is_open_of (share_a_place h l)) n ts
  of_place ts m l has n only = only_same (is_open_of (has_place h m)) (is_open_of (share_a_place h l)) (λ t. ap (λ b. is_unended t && b) (sym (share_alike m l has t.leased))) n ts only

  -- and the number is that of the place
  pub number_alike : (blocks links : IndexTables) (m : RingPlace) (l : Leased) → has_place h m l ≡ true → number_at blocks links m ≡ number_of blocks links l
  number_alike blocks links m l e = grind (arith, false≢true, and_parts, same_index, eqb-true)

  pub block_numbered : (blocks links new : IndexTables) (r p n : ℕ) → IsPut blocks new r (place r p) n → IsNumbered h blocks links new links (Block r p) n
  block_numbered blocks links new r p n put = search (rules, number_alike, elsewhere, turned)

  pub link_numbered : (blocks links new : IndexTables) (r p n : ℕ) → IsPut links new r (segment r p) n → IsNumbered h blocks links blocks new (Link r p) n
  link_numbered blocks links new r p n put = search (rules, number_alike, elsewhere, turned)

  -- a range has no place
  pub range_numbered : (blocks links : IndexTables) (k a n : ℕ) (u : Use) → IsNumbered h blocks links blocks links (Range k a u) n
  range_numbered blocks links k a n u = search (rules, false≢true)

  -- what is open at the place of a lease has its number
  pub places_of : (ts : List Lent) (blocks links : IndexTables) → FindsPlaces h ts blocks links → (l : Leased) → IsOnly (is_open_of (share_a_place h l)) (number_of blocks links l) ts
  places_of ts blocks links found (Block r p) = of_place ts (BlockPlace r (place r p)) (Block r p) (itself r (place r p)) (index_at blocks r (place r p)) (found (BlockPlace r (place r p)))
  places_of ts blocks links found (Link r q) = of_place ts (LinkPlace r (segment r q)) (Link r q) (itself r (segment r q)) (index_at links r (segment r q)) (found (LinkPlace r (segment r q)))
  places_of ts blocks links found (Range n a e) = range_none h n a e ts
