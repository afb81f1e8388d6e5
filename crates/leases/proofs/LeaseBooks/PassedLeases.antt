-- The floor of a ring moves on: what is given from there on was given before
use Rattle.leases.proofs.BaseWords.{◌≡◌, ◌+◌, ◌<◌, ◌≤◌, ◌&&◌, ℕ, true, false, false≢true, and_parts, nat_tests, Shape, is_crossing, place_count, RingView, floor_number, is_handed_over, Ring, rules}
use Rattle.leases.proofs.LeaseBooks.SameLeases.{lent_same}

-- a lap and more ahead nothing is given
pub record IsWithinLap (shape : Shape) (v : RingView) : Type 0 where
  pub given : (p : ℕ) → floor_number v + place_count shape ≤ p → v.given p ≡ false
  pub crossed : (c : ℕ) → floor_number v + (place_count shape + 1) ≤ c → (is_crossing shape c && v.crossed c) ≡ false

-- it goes on, on this very ring
pub record Moves (shape : Shape) (v w : RingView) (to : ℕ) : Type 0 where
  pub given : w.given ≡ v.given
  pub free : w.free ≡ v.free
  pub crossed : w.crossed ≡ v.crossed
  pub floor : floor_number w ≡ to
  pub rises : floor_number v ≤ to
  pub within : IsWithinLap shape v

module _ (q : Ring) (v w : RingView) (to : ℕ) (m : Moves q.shape v w to) where
  pub block_was : (p : ℕ) → floor_number w ≤ p → is_handed_over w p ≡ true → (floor_number v ≤ p) × (p < floor_number v + place_count q.shape) × (is_handed_over v p ≡ true) × (to ≤ p)
  block_was p low given = search (rules, is_handed_over, lent_same, nat_tests, false≢true, and_parts)

  pub link_was : (c : ℕ) → floor_number w ≤ c → (is_crossing q.shape c && w.crossed c) ≡ true →
      (floor_number v ≤ c) × (c < floor_number v + (place_count q.shape + 1)) × ((is_crossing q.shape c && v.crossed c) ≡ true) × (to ≤ c)
  link_was c low crossed = search (rules, is_crossing, nat_tests, false≢true)
