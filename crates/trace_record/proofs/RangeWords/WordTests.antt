-- Words from an address on
use Rattle.trace_record.proofs.LowerLaws.{◌≡◌, ◌<◌, ◌∙◌, ℕ, Bool, true, false, arith, ap, list_any, range_with_len, length-range_with_len, get_or-range_with_len, list_any_at, any_none}

-- one of the first numbers passes a test
pub any_below : (p : ℕ → Bool) (n i : ℕ) → i < n → p i ≡ true → list_any p (range_with_len 0 n) ≡ true
any_below p n i below passes =
    list_any_at p (range_with_len 0 n) i 0 (omega (arith, length-range_with_len 0 n)) (ap p (get_or-range_with_len 0 n i 0 below ∙ omega arith) ∙ passes)

-- or none does
pub none_below : (p : ℕ → Bool) (n : ℕ) → ((i : ℕ) → i < n → p i ≡ false) → list_any p (range_with_len 0 n) ≡ false
none_below p n fails = grind (arith, any_none, range_with_len, length-range_with_len, get_or-range_with_len)
