-- What a ring that comes or goes, or a descriptor that is withdrawn, keeps where it breaks no rule
use Rattle.safety.proofs.Words.{NopRow, ◌≡◌, ℕ, false, Header, Known, Ring, RingRow, FreeRow, IsKept, is_bad_free, is_bad_ring, is_bad_withdraw, lenient_tests, restored_on, ring_restored}
use Rattle.safety.proofs.RingsKeep.TestsPassed.{clean_tests, tests_fail}

module _ (h : Header) (k : Known) where
  pub kept_coming : (ring : Ring) → IsKept h k (RingRow ring) → (k.stopped ≡ false) × (is_bad_ring h k ring ≡ false)
  unfolding lenient_tests ring_restored restored_on
  kept_coming ring kept = ((clean_tests h k (RingRow ring) kept.0).0, (tests_fail h k (RingRow ring) kept.0).0)

  pub kept_going : (id : ℕ) → IsKept h k (FreeRow id) → (k.stopped ≡ false) × (is_bad_free h k id ≡ false)
  unfolding lenient_tests ring_restored restored_on
  kept_going id kept = ((clean_tests h k (FreeRow id) kept.0).0, (tests_fail h k (FreeRow id) kept.0).0)

  pub kept_withdrawing : (r p : ℕ) → IsKept h k (NopRow r p) → (k.stopped ≡ false) × (is_bad_withdraw h k r p ≡ false)
  unfolding lenient_tests ring_restored restored_on
  kept_withdrawing r p kept = ((clean_tests h k (NopRow r p) kept.0).0, (tests_fail h k (NopRow r p) kept.0).0)
