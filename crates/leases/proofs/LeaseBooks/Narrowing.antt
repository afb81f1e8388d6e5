-- Floors of rings move on, and some ranges are let go: the leases of the blocks and Links that are passed end, and of these ranges
use Rattle.leases.proofs.LowerLaws.{not-true, ◌≡◌, ◌≤◌, ◌==◌, ◌&&◌, ℕ, Bool, true, false, not, nat_le, nat_lt, List, [], arith, ap, eqb-true, and_parts, and_from, nat_tests, is_crossing, floor_number, Header, Ring, driver_rings, Known, Leased, Block, Link, Range, is_among, open_leases, open_ranges, IsIn, among_is, both_ways, in_among, is_passed, rules, InOn, block, link, Moves, block_was, link_was, lent_same, IsRange, each_open, open_are_ranges, range_open, ring_open}

-- a block or Link that its ring passes on the way from one number to another, or a range that is let go
abbrev pub is_left : (ℕ → ℕ) → (ℕ → ℕ) → List Leased → Leased → Bool
is_left from to gone (Block r p) = nat_le (from r) p && nat_lt p (to r)
is_left from to gone (Link r q) = nat_le (from r) q && nat_lt q (to r)
is_left from to gone (Range n a e) = is_among gone (Range n a e)

-- the number that the controller has surely reached, by ring
abbrev pub floors : Known → ℕ → ℕ
floors k r = floor_number (k.ring r)

late : (from p to : ℕ) → from ≤ p → (nat_le from p && nat_lt p to) ≡ false → to ≤ p
late from p to low e = grind (arith, nat_tests, low, e)

not_yet : (from p to : ℕ) → to ≤ p → (nat_le from p && nat_lt p to) ≡ false
not_yet from p to e = grind (arith, nat_tests, e)

module _ (h : Header) (k k' : Known) (gone : List Leased) where
  pub record Narrows : Type 0 where
    -- each floor stays or moves on, and what is given stays
    pub each : (q : Ring) → IsIn q (driver_rings h) → Moves q.shape (k.ring q.id) (k'.ring q.id) (floors k' q.id)
    pub ranges : (l : Leased) → is_among (open_ranges h k') l ≡ (is_among (open_ranges h k) l && not (is_among gone l))

  module _ (n : Narrows) where
    abbrev over : Leased → Bool
    over = is_left (floors k) (floors k') gone

    was_on : (q : Ring) → IsIn q (driver_rings h) → (l : Leased) → InOn q (k'.ring q.id) l → InOn q (k.ring q.id) l × (over l ≡ false)
    was_on q among l h4 = search (rules, block_was, block, not_yet, link_was, link)

    stays_on : (q : Ring) → IsIn q (driver_rings h) → (l : Leased) → InOn q (k.ring q.id) l → over l ≡ false → InOn q (k'.ring q.id) l
    stays_on q among _ (block p low high given) stays = search (rules, block, late, lent_same)
    stays_on q among _ (link c low high crossed) stays = search (rules, link, late, is_crossing)

    gone_is : (l : Leased) → IsRange l → over l ≡ is_among gone l
    gone_is l is = grind arith

    pub narrows : (l : Leased) → is_among (open_leases h k') l ≡ (is_among (open_leases h k) l && not (over l))
    narrows l = both_ways _ _
        (each_open h k' (λ m. (is_among (open_leases h k) m && not (over m)) ≡ true) (λ q among m on. let was = was_on q among m on in
        and_from _ _ (in_among _ m (ring_open h k m q among was.0)) (ap not was.1))
        (λ m range. grind (arith, n.ranges m, in_among (open_ranges h k') m range, in_among (open_leases h k) m, range_open h k m, among_is (open_ranges h k) m, gone_is m (open_are_ranges h k' m range))) l)
        (λ e. each_open h k (λ m. over m ≡ false → is_among (open_leases h k') m ≡ true) (λ q among m on stays. in_among _ m (ring_open h k' m q among (stays_on q among m on stays)))
        (λ m range stays. grind (arith, n.ranges m, in_among (open_ranges h k) m range, in_among (open_leases h k') m, range_open h k' m, among_is (open_ranges h k') m, gone_is m (open_are_ranges h k m range))) l (and_parts _ _ e).0 (not-true _ (and_parts _ _ e).1))

-- where only one ring moves on, what is left is what is passed on it
pub none_between : (a b p : ℕ) → a ≡ b → (nat_le b p && nat_lt p a) ≡ false
none_between a b p e = grind (arith, nat_tests, e)

turned : (a b : ℕ) → (a == b) ≡ (b == a)
turned a b = grind (arith, nat_tests)

module _ (from to : ℕ → ℕ) (r : ℕ) (others : (q : ℕ) → (q == r) ≡ false → to q ≡ from q) where
  pub one_ring_left : (l : Leased) → is_left from to [] l ≡ is_passed r (from r) (to r) l
  unfolding is_among
  one_ring_left l = grind (arith, turned, eqb-true, none_between)
