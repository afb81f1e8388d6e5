-- The shape of an ID, by the number that a search finds
use Rattle.replayer.proofs.Words.{arith, ◌≡◌, ◌==◌, ℕ, List, Bool, Some, None, nat_lt, position, refl, sym, ap, get_or, position_or_len, cases_Bool, cond-true, cond-false, find_at, Xfer, Ring, Header, no_shape, shape_or, shape_of, not_found, ring_here, none_here}

found_first : (p : Ring → Bool) (rings : List Ring) (n : ℕ) → position p rings ≡ Some n → position_or_len p rings ≡ n
found_first p rings n some = grind (arith, cases_Bool, nat_lt, cond-true, cond-false)

module _ (h : Header) (id : ℕ) where
  pub no_ring : position (λ r. r.id == id) h.rings ≡ None → no_shape Xfer ≡ shape_of h id
  unfolding shape_of
  no_ring none = sym (ap (λ o. shape_or Xfer o) (not_found (λ r. r.id == id) h.rings (none_here h (λ r. r.id == id) h.rings none refl)))

  pub one_ring : (n : ℕ) (rings : List Ring) (ring : Ring) → position (λ r. r.id == id) h.rings ≡ Some n → rings ≡ h.rings → ring ≡ get_or rings n ring → ring.shape ≡ shape_of h id
  unfolding shape_of
  one_ring n rings ring some same item = grind (arith, ring_here, position, found_first, find_at)
