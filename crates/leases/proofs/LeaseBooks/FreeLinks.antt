-- No lease that is open shares its Link with a due crossing that isn't given
use Rattle.leases.proofs.UpperLaws.{rules, false_unless, ◌≡◌, ◌+◌, ◌<◌, ◌≤◌, ◌&&◌, ℕ, true, false, nat_lt, List, max, refl, eqb-true, false≢true, and_parts, nat_tests, Shape, IsShape, is_crossing, place_count, link_of, RingView, floor_number, crossed_link, crossing_positive, Header, Ring, driver_rings, shape_of, Known, link_of-crossed, same_due_crossing, Leased, Link, IsIn, is_place_free, share_a_place, Lent, AreOpen, none_open_shares, InOn, block, link, AreShaped}

-- a lap ahead of the least crossing that may be due none is given
abbrev pub NoneAhead : Shape → RingView → Type 0
NoneAhead shape v = (m : ℕ) → max (floor_number v) 1 + place_count shape ≤ m → (is_crossing shape m && v.crossed m) ≡ false

-- crossings of one Link, both due
same_link : (shape : Shape) → IsShape shape → (least c m : ℕ) → is_crossing shape c ≡ true → is_crossing shape m ≡ true → least ≤ c → c < least + place_count shape →
    least ≤ m → m < least + place_count shape → link_of shape c ≡ link_of shape m → c ≡ m
same_link shape allowed least c m is_c is_m low high low' high' e = search (rules, crossed_link, link_of-crossed, same_due_crossing)

module _ (h : Header) (shaped : AreShaped h) (k : Known) (q : Ring) (among : IsIn q (driver_rings h)) (allowed : IsShape q.shape) (ahead : NoneAhead q.shape (k.ring q.id)) (c : ℕ)
    (crossing : is_crossing q.shape c ≡ true) (low : floor_number (k.ring q.id) ≤ c) (high : c < max (floor_number (k.ring q.id)) 1 + place_count q.shape)
    (absent : (k.ring q.id).crossed c ≡ false) where
  apart_on : (s : Ring) → IsIn s (driver_rings h) → (l : Leased) → InOn s (k.ring s.id) l → share_a_place h (Link q.id c) l ≡ false
  apart_on s at _ (block m least most given) = refl
  apart_on s at _ (link m from most crossed) = search (rules, false_unless, and_parts, link_of, shape_of, eqb-true, floor_number, is_crossing, crossing_positive, max, place_count, nat_lt, nat_tests, false≢true, same_link)

-- the Link of a due crossing that isn't given is free
pub link_free : (h : Header) → AreShaped h → (k : Known) (ts : List Lent) → AreOpen h k ts → (q : Ring) → IsIn q (driver_rings h) → IsShape q.shape →
    NoneAhead q.shape (k.ring q.id) → (c : ℕ) → is_crossing q.shape c ≡ true → floor_number (k.ring q.id) ≤ c →
    c < max (floor_number (k.ring q.id)) 1 + place_count q.shape → (k.ring q.id).crossed c ≡ false →
    is_place_free h ts (Link q.id c) ≡ true
link_free h shaped k ts still q among allowed ahead c crossing low high absent = search (rules, none_open_shares, apart_on)
