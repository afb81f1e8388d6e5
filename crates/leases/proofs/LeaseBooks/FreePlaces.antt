-- No lease that is open shares its place with a position that isn't handed over
use Rattle.leases.proofs.MiddleLaws.{arith, rules, false_unless, ◌≡◌, ◌+◌, ◌<◌, ◌≤◌, ◌&&◌, ◌∷◌, ℕ, Bool, true, false, not, List, [], ap, refl, eqb-true, list_any, cases_Bool, false≢true, and_parts, Shape, IsShape, place_count, floor_number, is_handed_over, Header, Ring, driver_rings, shape_of, Known, same_due, Leased, Block, is_among, open_leases, IsIn, Lent, is_place_free, is_unended, share_a_place, AllUnended, AreOpen, InOn, IsRange, each_open, open_are_ranges, AreShaped}

pub none_shares : (P : Leased → Type 0) (S : Leased → Bool) (i : ℕ) (ts : List Lent) → ((l : Leased) → P l → S l ≡ false) → AllUnended (λ j l. P l) i ts →
    list_any (λ t. is_unended t && S t.leased) ts ≡ false
none_shares P S i [] apart all = refl
none_shares P S i (t ∷ ts) apart all = grind (arith, cases_Bool, is_unended, none_shares P S (i + 1) ts apart all.1)

-- a range shares no place
apart_range : (h : Header) (x l : Leased) → IsRange l → share_a_place h x l ≡ false
apart_range h v y is = search rules

-- where nothing that is open on a ring shares its place, it is free
pub none_open_shares : (h : Header) (k : Known) (ts : List Lent) → AreOpen h k ts → (x : Leased) →
    ((s : Ring) → IsIn s (driver_rings h) → (l : Leased) → InOn s (k.ring s.id) l → share_a_place h x l ≡ false) → is_place_free h ts x ≡ true
unfolding is_place_free
none_open_shares h k ts still x apart =
    ap not (none_shares (λ l. is_among (open_leases h k) l ≡ true) (share_a_place h x) 0 ts
    (each_open h k (λ l. share_a_place h x l ≡ false) apart (λ l range. apart_range h x l (open_are_ranges h k l range))) still)

module _ (h : Header) (shaped : AreShaped h) (k : Known) (q : Ring) (among : IsIn q (driver_rings h)) (p : ℕ)
    (allowed : IsShape q.shape) (low : floor_number (k.ring q.id) ≤ p) (high : p < floor_number (k.ring q.id) + place_count q.shape) (absent : is_handed_over (k.ring q.id) p ≡ false) where
  apart_on : (s : Ring) → IsIn s (driver_rings h) → (l : Leased) → InOn s (k.ring s.id) l → share_a_place h (Block q.id p) l ≡ false
  apart_on s at l h4 = grind (arith, false_unless, and_parts, place_count, shape_of, floor_number, Shape, is_handed_over, same_due, false≢true, eqb-true)

-- the place of a due position that isn't handed over is free
pub unlent_free : (h : Header) → AreShaped h → (k : Known) (ts : List Lent) → AreOpen h k ts → (q : Ring) → IsIn q (driver_rings h) → (p : ℕ) → IsShape q.shape →
    floor_number (k.ring q.id) ≤ p → p < floor_number (k.ring q.id) + place_count q.shape → is_handed_over (k.ring q.id) p ≡ false →
    is_place_free h ts (Block q.id p) ≡ true
unlent_free h shaped k ts still q among p allowed low high absent = none_open_shares h k ts still (Block q.id p) (apart_on h shaped k q among p allowed low high absent)

-- and that of one that isn't given
pub block_free : (h : Header) → AreShaped h → (k : Known) (ts : List Lent) → AreOpen h k ts → (q : Ring) → IsIn q (driver_rings h) → (p : ℕ) → IsShape q.shape →
    floor_number (k.ring q.id) ≤ p → p < floor_number (k.ring q.id) + place_count q.shape → (k.ring q.id).given p ≡ false →
    is_place_free h ts (Block q.id p) ≡ true
block_free h shaped k ts still q among p allowed low high absent = unlent_free h shaped k ts still q among p allowed low high (ap (λ b. b && not ((k.ring q.id).free p)) absent)
