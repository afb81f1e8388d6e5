-- The open leases of a ring lie within a lap, and a number more, from its floor on: to pass all of these ends them, and no others. A Link may
-- be given long before blocks are declared up to it, so what is declared is no bound
use Rattle.leases.proofs.MiddleLaws.{◌≡◌, ◌≢◌, ◌+◌, ◌<◌, ◌≤◌, ◌==◌, ◌&&◌, ◌∙◌, ℕ, true, nat_le, nat_lt, arith, sym, ap, nat_tests, Header, Ring, Known, open_leases, shape_of, place_count, floor_number, Leased, is_among, is_passed, is_of_ring, InOn, IsRange, each_open, open_are_ranges, AreShaped}

inside : (a id from p to : ℕ) → a ≡ id → from ≤ p → p < to → (id == a && nat_le from p && nat_lt p to) ≡ (a == id)
inside a id from p to same low high = grind (arith, nat_tests, same, low, high)

outside : (a id from p to : ℕ) → a ≢ id → (id == a && nat_le from p && nat_lt p to) ≡ (a == id)
outside a id from p to other = grind (arith, nat_tests, other)

module _ (h : Header) (k : Known) (id : ℕ) where
  abbrev floor : ℕ
  floor = floor_number (k.ring id)

  -- behind all numbers that may be due
  abbrev pub end : ℕ
  end = floor + (place_count (shape_of h id) + 1)

  here : (q : Ring) → q.id ≡ id → shape_of h q.id ≡ q.shape → (floor_number (k.ring q.id) ≡ floor) × (place_count q.shape ≡ place_count (shape_of h id))
  here q same shaped = (ap (λ s. floor_number (k.ring s)) same, ap place_count (sym shaped ∙ ap (shape_of h) same))

  on_ring : (q : Ring) (l : Leased) → shape_of h q.id ≡ q.shape → InOn q (k.ring q.id) l → is_passed id floor end l ≡ is_of_ring id l
  on_ring q l shaped h4 = grind (arith, here, inside, outside)

  of_range : (l : Leased) → IsRange l → is_passed id floor end l ≡ is_of_ring id l
  of_range l is = grind arith

  pub all_passed : AreShaped h → (l : Leased) → is_among (open_leases h k) l ≡ true → is_passed id floor end l ≡ is_of_ring id l
  all_passed shaped = each_open h k (λ l. is_passed id floor end l ≡ is_of_ring id l) (λ q at l on. on_ring q l (shaped q at) on) (λ l at. of_range l (open_are_ranges h k l at))
