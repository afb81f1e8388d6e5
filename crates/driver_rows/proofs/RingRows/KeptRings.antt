-- What a ring that comes or goes, or a descriptor that is withdrawn, keeps: all rules where it breaks none
use Rattle.driver_rows.proofs.Words.{◌≡◌, ℕ, false, refl, Header, Known, Ring, is_bad_free, is_bad_ring, is_bad_withdraw, restored_on, RingRow, FreeRow, NopRow, ring_restored, lenient, lenient_tests, some_flips, IsKept}
use Rattle.ownership_rules.specs.Withdrawals.{is_left}

module _ (h : Header) (k : Known) (on : k.stopped ≡ false) where
  pub coming_kept : (ring : Ring) → is_bad_ring h k ring ≡ false → IsKept h k (RingRow ring)
  unfolding lenient lenient_tests ring_restored restored_on is_left some_flips
  coming_kept ring good = (rw (good, on) refl, refl, refl)

  pub going_kept : (id : ℕ) → is_bad_free h k id ≡ false → IsKept h k (FreeRow id)
  unfolding lenient lenient_tests ring_restored restored_on is_left some_flips
  going_kept id good = (rw (good, on) refl, refl, refl)

  pub withdrawing_kept : (r p : ℕ) → is_bad_withdraw h k r p ≡ false → IsKept h k (NopRow r p)
  unfolding lenient lenient_tests ring_restored restored_on is_left some_flips
  withdrawing_kept r p good = (rw (good, on) refl, refl, refl)
