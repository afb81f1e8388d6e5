-- What is lent where a descriptor is withdrawn, and where a ring is restored
use Rattle.leases.proofs.UpperLaws.{and_false, false_unless, if◌then◌else◌, ◌≡◌, ◌≢◌, ◌+◌, ◌<◌, ◌≤◌, ◌==◌, ◌&&◌, ◌||◌, ◌∷◌, ◌∙◌, ℕ, zero, suc, Bool, true, false, not, nat_le, nat_lt, List, [], Some, filter, length, map, take, get_or, arith, refl, sym, ap, inl, inr, eqb-true, list_any, range_with_len, and_parts, false≢true, not-true, nat_tests, take_more, list_any-append, cases_Bool, IsIn, Header, IsHeader, Ring, Known, is_driver_kind, is_transfer_kind, ring_with, shape_of, command_id, driver_rings, on_ring, open_leases, place_count, place_of, floor_number, due_positions, from_filter, transfer_not_command, length_from, unrestored, Restores, Withdraws, same_due, in_among, as_lease, comes_before, Leased, Block, Link, Range, is_among, same_leased, AreOpen, Lent, begun_at, ended_where, in_turn, is_place_free, is_unended, passed_on, precedes, shape_allowed, share_a_place, with_begun, with_leased, find_some, shape_there, IsAmong, is_freed, rules, unlent_free, map_append, from_map, from_range, all_twice, none_over, only_passed, filter_alike, freed_are, restored_open, withdrawn_open, transfer_drives, among_drivers, are_shaped, begun_twice, max, InOn, IsRange, each_open, open_are_ranges}
use Rattle.leases.proofs.MiddleLaws.{block, is_in, is_withdrawn, link}
use Rattle.leases.proofs.RingLeases.OpenBehind.{among_filtered}
use Rattle.leases.proofs.RingLeases.TwoSteps.{either_way, only_begins, with_first}

-- ---- a transfer ring of the header

pub driver_in : (h : Header) (q : Ring) → ring_with h q.id ≡ Some q → is_driver_kind q.shape.kind ≡ true → IsIn q (driver_rings h)
driver_in h q found driver = among_drivers h q (find_some (λ r. r.id == q.id) h.rings q found).0 driver

module _ (h : Header) (q : Ring) (found : ring_with h q.id ≡ Some q) (transfer : is_transfer_kind q.shape.kind ≡ true) where
  pub among : IsAmong q h.rings
  among = (find_some (λ r. r.id == q.id) h.rings q found).0

  pub driver : is_driver_kind q.shape.kind ≡ true
  driver = transfer_drives q.shape.kind transfer

  pub in_drivers : IsIn q (driver_rings h)
  in_drivers = driver_in h q found driver

  pub not_command : IsHeader h → q.id ≢ command_id h
  not_command headed = transfer_not_command h headed q.id (record { ring = q; found = found; kind = transfer })

-- ---- a descriptor is withdrawn

-- the block of ring r from one number to another
abbrev pub is_between : ℕ → ℕ → ℕ → Leased → Bool
is_between r from to (Block s q) = s == r && (nat_le from q && nat_lt q to)
is_between r from to (Link s q) = false
is_between r from to (Range n a e) = false

none_between : (r from : ℕ) (l : Leased) → is_between r from from l ≡ false
none_between r from l = grind (arith, nat_tests)

one_between : (r from n : ℕ) (l : Leased) → from ≤ n → (is_between r from n l || same_leased (Block r n) l) ≡ is_between r from (n + 1) l
one_between r from n l least = grind (arith, nat_tests)

pub ends_none : (r from row : ℕ) (ts : List Lent) → map (ended_where (is_between r from from) row) ts ≡ ts
ends_none r from row ts = none_over (is_between r from from) row ts (none_between r from)

pub ends_one : (r from n row : ℕ) (ts : List Lent) → from ≤ n →
    map (ended_where (same_leased (Block r n)) row) (map (ended_where (is_between r from n) row) ts) ≡ map (ended_where (is_between r from (n + 1)) row) ts
ends_one r from n row ts least = search (rules, all_twice, one_between)

so_far : (a x y : Bool) → (a ≡ true → x ≡ y) → (a && not x) ≡ (a && not y)
so_far a x y same = grind arith

module _ (h : Header) (headed : IsHeader h) (k : Known) (q : Ring) (found : ring_with h q.id ≡ Some q) (transfer : is_transfer_kind q.shape.kind ≡ true)
    (ts : List Lent) (opened : AreOpen h k ts) (row : ℕ) where
  abbrev r : ℕ
  r = q.id

  other : r ≢ command_id h
  other = not_command h q found transfer headed

  module _ (p from to : ℕ) (first : from ≡ max p (floor_number (k.ring r))) (last : to ≡ p + length_from (k.ring r).lengths 0 p) where
    abbrev n : ℕ
    n = length_from (k.ring r).lengths 0 p

    -- of its blocks those below the floor aren't open
    from_floor : (a u : ℕ) → (a ≡ r → floor_number (k.ring r) ≤ u) → (a == r && (nat_le from u && nat_lt u to)) ≡ (a == r && is_in u p n)
    from_floor a u low = elim (cases_Bool (a == r)) [
      | inl same ↦ ap (λ b. (a == r) && b) (tests (low (eqb-true a r same)))
      | inr apart ↦ rw apart refl
    ]
      where
        tests : floor_number (k.ring r) ≤ u → (nat_le from u && nat_lt u to) ≡ is_in u p n
        tests below = rw (first, last) (grind (arith, nat_tests, below))

    on_open : (q : Ring) (l : Leased) → InOn q (k.ring q.id) l → is_between r from to l ≡ is_withdrawn r p n l
    on_open q _ (block u low high given) = from_floor q.id u (λ same. omega (arith, ap (λ s. floor_number (k.ring s)) same, low))
    on_open q _ (link c low high crossed) = refl

    of_range : (l : Leased) → IsRange l → is_between r from to l ≡ is_withdrawn r p n l
    of_range l is = grind arith

    same_open : (l : Leased) → is_among (open_leases h k) l ≡ true → is_between r from to l ≡ is_withdrawn r p n l
    same_open = each_open h k (λ l. is_between r from to l ≡ is_withdrawn r p n l) (λ q at l on. on_open q l on) (λ l at. of_range l (open_are_ranges h k l at))

    left_open : (l : Leased) → is_among (open_leases h (on_ring h k r (Withdraws p))) l ≡ (is_among (open_leases h k) l && not (is_between r from to l))
    left_open l = ap (λ ls. is_among ls l) (withdrawn_open h k r p other) ∙ among_filtered (λ m. not (is_withdrawn r p n m)) (open_leases h k) l
        ∙ so_far (is_among (open_leases h k) l) (is_withdrawn r p n l) (is_between r from to l) (λ among. sym (same_open l among))

    -- the leases of its blocks end, and nothing begins
    pub withdrawn_lent : passed_on (open_leases h k) (open_leases h (on_ring h k r (Withdraws p))) row ts ≡ map (ended_where (is_between r from to) row) ts
    withdrawn_lent = only_passed (open_leases h k) (open_leases h (on_ring h k r (Withdraws p))) row ts opened (is_between r from to) left_open

-- ---- a ring is restored

-- blocks of one ring that rise stand in turn
rising : (r : ℕ) (f : ℕ → Bool) (a n : ℕ) → in_turn (map (Block r) (filter f (range_with_len a n))) ≡ map (Block r) (filter f (range_with_len a n))
unfolding in_turn with_leased precedes comes_before as_lease
rising r f a zero = refl
rising r f a (suc n) = grind (arith, cases_Bool (f a), rising r f (a + 1) n, with_first (Block r a) [] (map (Block r) (filter f (range_with_len (a + 1) n))) later)
  where
    later : (m : Leased) → IsIn m (map (Block r) (filter f (range_with_len (a + 1) n))) → precedes (Block r a) m ≡ true
    later m at = let found = from_map (Block r) (filter f (range_with_len (a + 1) n)) m at in
        let low = (from_range (a + 1) n found.0 (from_filter f (range_with_len (a + 1) n) found.0 found.1).0).0 in ap (precedes (Block r a)) found.2 ∙ grind (arith, nat_tests, low)

-- those before an index are less
in_get : (xs : List ℕ) (i : ℕ) → i < length xs → IsIn (get_or xs i 0) xs
in_get (x ∷ xs) (suc i) low = inr (in_get xs i (omega arith))
in_get _ _ low = search rules

less_before : (f : ℕ → Bool) (a n i : ℕ) → i < length (filter f (range_with_len a n)) → (u : ℕ) → IsIn u (take i (filter f (range_with_len a n))) → u < get_or (filter f (range_with_len a n)) i 0
less_before f a zero i low u at = absurd (omega (arith, low))
less_before f a (suc n) i low u at = by (f a) i low at (less_before f (a + 1) n) (λ p there. (from_range (a + 1) n p (from_filter f (range_with_len (a + 1) n) p there).0).0)
  where
    by : (b : Bool) (i : ℕ) → i < length (if b then a ∷ filter f (range_with_len (a + 1) n) else filter f (range_with_len (a + 1) n)) →
        IsIn u (take i (if b then a ∷ filter f (range_with_len (a + 1) n) else filter f (range_with_len (a + 1) n))) →
        ((i : ℕ) → i < length (filter f (range_with_len (a + 1) n)) → (u : ℕ) → IsIn u (take i (filter f (range_with_len (a + 1) n))) → u < get_or (filter f (range_with_len (a + 1) n)) i 0) →
        ((p : ℕ) → IsIn p (filter f (range_with_len (a + 1) n)) → a + 1 ≤ p) → u < get_or (if b then a ∷ filter f (range_with_len (a + 1) n) else filter f (range_with_len (a + 1) n)) i 0
    by false i low at rest from = rest i low u at
    by true zero low at rest from = absurd at
    by true (suc i) low at rest from = elim at [
      | inl here ↦ let most : a + 1 ≤ get_or (filter f (range_with_len (a + 1) n)) i 0 = from _ (in_get (filter f (range_with_len (a + 1) n)) i (omega (arith, low))) in omega (arith, here, most)
      | inr there ↦ rest i (omega (arith, low)) u there
    ]

-- a place is still free where what began shares none with it
free_still : (h : Header) (row : ℕ) (ts : List Lent) (l : Leased) (us : List Leased) → is_place_free h ts l ≡ true → ((u : Leased) → IsIn u us → share_a_place h l u ≡ false) →
    is_place_free h (with_begun row ts us) l ≡ true
unfolding is_place_free with_begun begun_at
free_still h row ts l us free apart = search (rules, list_any-append, not-true, none)
  where
    none : (us : List Leased) → ((u : Leased) → IsIn u us → share_a_place h l u ≡ false) → list_any (λ t. is_unended t && share_a_place h l t.leased) (map (begun_at row) us) ≡ false
    none [] apart = refl
    none (u ∷ us) apart = rw (apart u (inl refl), and_false) (none us (λ x at. apart x (inr at)))

-- what a log is told with, that notes what is restored
pub record Restoring (h : Header) (k : Known) (ts : List Lent) (q : Ring) (ps : List ℕ) : Type 0 where
  pub headed : IsHeader h
  pub found : ring_with h q.id ≡ Some q
  pub transfer : is_transfer_kind q.shape.kind ≡ true
  pub freed_given : (p : ℕ) → (k.ring q.id).free p ≡ true → (k.ring q.id).given p ≡ true
  pub positions : ps ≡ unrestored q.shape (k.ring q.id)
  pub opened : AreOpen h k ts

module _ (h : Header) (k : Known) (ts : List Lent) (q : Ring) (ps : List ℕ) (x : Restoring h k ts q ps) (row : ℕ) where
  abbrev id : ℕ
  id = q.id

  -- second leases begin, and nothing ends
  pub restored_lent : passed_on (open_leases h k) (open_leases h (on_ring h k id Restores)) row ts ≡ with_begun row ts (map (Block id) ps)
  unfolding unrestored due_positions
  restored_lent =
      let kept : (l : Leased) → is_among (open_leases h k) l ≡ (is_among (open_leases h (on_ring h k id Restores)) l && not (is_freed (k.ring id).free id l)) = λ l. rw
      (restored_open h k id (not_command h q x.found x.transfer x.headed)) (among_filtered (λ m. not (is_freed (k.ring id).free id m)) (open_leases h (on_ring h k id Restores)) l) in
      only_begins (open_leases h k) (open_leases h (on_ring h k id Restores)) row ts x.opened (search (rules, kept, and_parts))
      ∙ ap (λ ls. with_begun row ts (in_turn ls)) (filter_alike (λ l. not (is_among (open_leases h k) l)) (is_freed (k.ring id).free id) (open_leases h (on_ring h k id Restores))
      (search (rules, either_way, kept, in_among))
      ∙ freed_are h x.headed k q (among h q x.found x.transfer) (driver h q x.found x.transfer) x.freed_given)
      ∙ ap (with_begun row ts) (rising id (k.ring id).free (floor_number (k.ring id)) (place_count q.shape) ∙ ap (map (Block id)) (sym x.positions))

  -- one after the other: its place is free
  module _ (i : ℕ) (low : i < length ps) where
    abbrev p : ℕ
    p = get_or ps i 0

    within : (u : ℕ) → IsIn u ps → (floor_number (k.ring id) ≤ u) × (u < floor_number (k.ring id) + place_count q.shape) × ((k.ring id).free u ≡ true)
    unfolding unrestored due_positions
    within u at = search (rules, from_filter, due_positions, from_range)

    from_take : (xs : List ℕ) (n : ℕ) (u : ℕ) → IsIn u (take n xs) → IsIn u xs
    from_take (y ∷ xs) (suc n) u at = grind (arith, from_take xs n u)
    from_take xs zero u at = search rules
    from_take [] (suc n) u at = at

    no_share : (u : ℕ) → IsIn u (take i ps) → share_a_place h (Block id p) (Block id u) ≡ false
    unfolding unrestored due_positions
    no_share u at = grind (
      arith,
      false_unless (id == id && place_of (shape_of h id) p == place_of (shape_of h id) u),
      shape_there h x.headed q (among h q x.found x.transfer),
      within p (in_get ps i low),
      within u (from_take ps i u at),
      eqb-true,
      and_parts,
      same_due q.shape (shape_allowed h x.headed q (among h q x.found x.transfer)) (floor_number (k.ring id)) p u,
      unrestored,
      less_before,
    )

    none_shares : (us : List ℕ) → ((u : ℕ) → IsIn u us → share_a_place h (Block id p) (Block id u) ≡ false) → (m : Leased) → IsIn m (map (Block id) us) → share_a_place h (Block id p) m ≡ false
    none_shares us all m at = let found = from_map (Block id) us m at in ap (share_a_place h (Block id p)) found.2 ∙ all found.0 found.1

    pub next_free : is_place_free h (with_begun row ts (map (Block id) (take i ps))) (Block id p) ≡ true
    next_free = search (rules, within, in_get, free_still, unlent_free, are_shaped, shape_allowed, among, in_drivers, none_shares, no_share, false≢true)

    pub next_begun : with_begun row (with_begun row ts (map (Block id) (take i ps))) (Block id p ∷ []) ≡ with_begun row ts (map (Block id) (take (i + 1) ps))
    next_begun = begun_twice row ts (map (Block id) (take i ps)) (Block id p ∷ []) ∙ rw (take_more ps i 0 low, map_append) refl
