-- The leases that stand before the first row begin, one by one
use Rattle.leases.proofs.UpperLaws.{◌≡◌, ◌+◌, ◌<◌, ◌≤◌, ◌∷◌, ◌∙◌, ℕ, suc, false, List, [], length, map, arith, ap, refl, inr, subst, get_or, take, take_all, get_or-map, length-map, take_more, Header, Lease, nothing, Leased, Range, Use, EventSegment, open_leases, as_lease, without_end, IsIn, IndexTables, index_at, Lent, begun_at, in_turn, lease_of, lents, with_begun, FollowedList, agree, Begins, FollowsList, rules, first_are_ranges, IsRange, range_none, range_numbered}
use Rattle.leases.proofs.CertificateLogs.Following.{goes_on}

abbrev pub NoneIsPut : IndexTables → Type 0
NoneIsPut t = (r m : ℕ) → index_at t r m ≡ 0

module _ (leases : List Lease) (h : Header) where
  -- before anything has begun
  pub nothing_begun : (list : FollowedList) (blocks links : IndexTables) → NoneIsPut blocks → NoneIsPut links → list.leases.now ≡ leases → list.begun ≡ 0 → list.unended ≡ 0 → list.differs ≡ false →
      FollowsList leases h [] list blocks links
  unfolding agree
  nothing_begun list blocks links no_block no_link same begun unended differs = search rules

  -- the lease of a range begins
  pub range_begins : (ts : List Lent) (old new : FollowedList) (blocks links : IndexTables) (row n a : ℕ) (e : Use) → FollowsList leases h ts old blocks links →
      Begins (as_lease row without_end (Range n a e)) old new → FollowsList leases h (with_begun row ts (Range n a e ∷ [])) new blocks links
  range_begins ts old new blocks links row n a e follows begins = search (rules, goes_on, range_numbered, range_none)

  one_begins : (ts : List Lent) (old new : FollowedList) (blocks links : IndexTables) (row : ℕ) (l : Leased) → IsRange l → FollowsList leases h ts old blocks links →
      Begins (as_lease row without_end l) old new → FollowsList leases h (with_begun row ts (l ∷ [])) new blocks links
  one_begins ts old new blocks links row (Range n a e) is follows begins = range_begins ts old new blocks links row n a e follows begins
  one_begins ts old new blocks links row _ is follows begins = absurd is

is_in : {X : Type 0} (xs : List X) (i : ℕ) (d : X) → i < length xs → IsIn (get_or xs i d) xs
is_in (x ∷ xs) (suc i) d low = inr (is_in xs i d (omega arith))
is_in _ _ d low = search rules

abbrev any : Leased
any = Range 0 0 EventSegment

begun_lease : (l : Leased) → lease_of (begun_at 0 l) ≡ as_lease 0 without_end l
unfolding lease_of begun_at
begun_lease l = refl

module _ (ls : List Leased) (i : ℕ) (low : i < length ls) where
  -- the next of the leases
  next_lease : (d : Lease) → get_or (map lease_of (map (begun_at 0) ls)) i d ≡ as_lease 0 without_end (get_or ls i any)
  next_lease d = search (rules, length-map ls (begun_at 0), get_or-map lease_of (map (begun_at 0) ls) i (begun_at 0 any) d, get_or-map (begun_at 0) ls i any (begun_at 0 any), begun_lease)

  one_more : with_begun 0 (take i (map (begun_at 0) ls)) (get_or ls i any ∷ []) ≡ take (i + 1) (map (begun_at 0) ls)
  unfolding with_begun
  one_more = search (rules, length-map ls (begun_at 0), get_or-map (begun_at 0) ls i any (begun_at 0 any), take_more (map (begun_at 0) ls) i (begun_at 0 any))

-- of those before the first row so many have begun
abbrev pub HasBegun : List Lease → Header → ℕ → ℕ → FollowedList → Type 0
HasBegun leases h first i list = (blocks links : IndexTables) → NoneIsPut blocks → NoneIsPut links → FollowsList leases h (take i (lents h first [])) list blocks links

first_lents : (h : Header) (first : ℕ) → lents h first [] ≡ map (begun_at 0) (in_turn (open_leases h nothing))
unfolding lents with_begun
first_lents h first = refl

-- and the next one begins
pub next_begins : (leases : List Lease) (h : Header) (first i : ℕ) (xs : List Lease) (d : Lease) (old new : FollowedList) → xs ≡ map lease_of (lents h first []) → i < length xs →
    HasBegun leases h first i old → Begins (get_or xs i d) old new → HasBegun leases h first (i + 1) new
next_begins leases h first i xs d old new are low begun begins = λ blocks links no_block no_link.
    let ls = in_turn (open_leases h nothing) in
    let here : lents h first [] ≡ map (begun_at 0) ls = first_lents h first in
    let all : xs ≡ map lease_of (map (begun_at 0) ls) = are ∙ ap (map lease_of) here in
    let within : i < length ls = omega (arith, ap length all ∙ length-map (map (begun_at 0) ls) lease_of ∙ length-map ls (begun_at 0), low) in
    let next : Begins (as_lease 0 without_end (get_or ls i any)) old new = rw (← next_lease ls i within d, ← all) begins in
    rw (here, ← one_more ls i within) (one_begins leases h (take i (map (begun_at 0) ls)) old new blocks links 0 (get_or ls i any)
    (first_are_ranges h (get_or ls i any) (is_in ls i any within)) (rw here at (begun blocks links no_block no_link)) next)

-- all of them have
pub all_begun : (leases : List Lease) (h : Header) (first i : ℕ) (xs : List Lease) (list : FollowedList) → xs ≡ map lease_of (lents h first []) → length xs ≤ i → HasBegun leases h first i list →
    (blocks links : IndexTables) → NoneIsPut blocks → NoneIsPut links → FollowsList leases h (lents h first []) list blocks links
all_begun leases h first i xs list are most begun blocks links no_block no_link =
    subst (λ (ts : List Lent). FollowsList leases h ts list blocks links) (take_all i (lents h first []) (omega (arith, ap length are ∙ length-map (lents h first []) lease_of, most)))
    (begun blocks links no_block no_link)
