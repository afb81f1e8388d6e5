-- What is lent behind the rows by which descriptors are withdrawn and rings restored, of a history
use Rattle.leases.proofs.BaseWords.{arith, ◌≡◌, ◌+◌, ◌∷◌, ◌∙◌, ℕ, false, List, None, Some, length, refl, sym, ap, false≢true, Header, Known, Row, Bell, RingRow, FreeRow, learned_or_reset, on_ring, open_leases, Restores, Withdraws, Lent, grown, passed_on, header_now, known_now, restored, restored_on, ring_restored, lents, NopRow, is_ring_row}
use Rattle.leases.proofs.LeaseBooks.SameLeases.{bell_same}

module _ (h : Header) (first : ℕ) (past : List Row) where
  abbrev g : Header
  g = header_now h past

  abbrev k : Known
  k = known_now h past

  abbrev n : ℕ
  n = first + length past

  abbrev ts : List Lent
  ts = lents h first past

  -- a descriptor is withdrawn
  pub withdrawn_now : (r p : ℕ) → lents h first (NopRow r p ∷ past) ≡ passed_on (open_leases g k) (open_leases g (on_ring g k r (Withdraws p))) n ts
  unfolding lents
  withdrawn_now r p = refl

  -- no ring comes or goes, and no descriptor is withdrawn
  pub plain_now : (row : Row) → is_ring_row row ≡ false → lents h first (row ∷ past) ≡ passed_on (open_leases g k) (open_leases g (learned_or_reset g (restored g k row) row)) n ts
  unfolding lents restored_on ring_restored
  plain_now (RingRow ring) driven = absurd (false≢true (sym driven))
  plain_now (FreeRow id) driven = absurd (false≢true (sym driven))
  plain_now (NopRow r p) driven = absurd (false≢true (sym driven))
  plain_now row driven = refl

  -- nor is one restored
  pub none_restored : (row : Row) → is_ring_row row ≡ false → ring_restored g k row ≡ None → lents h first (row ∷ past) ≡ grown g k row n ts
  unfolding grown restored_on
  none_restored row driven none = plain_now row driven ∙ ap (λ o. passed_on (open_leases g k) (open_leases g (learned_or_reset g (restored_on g k o) row)) n ts) none

  -- the doorbell of an endpoint that has a ring
  pub rung_now : (s t r : ℕ) → k.ring_of s t ≡ Some r → lents h first (Bell s t ∷ past) ≡ passed_on (open_leases g k) (open_leases g (on_ring g k r Restores)) n ts
  unfolding lents restored_on ring_restored
  rung_now s t r has = grind (arith, passed_on, open_leases, bell_same, restored, Bell, restored_on)
