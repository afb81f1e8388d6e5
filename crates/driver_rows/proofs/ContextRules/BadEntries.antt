-- Areas that end above 2^64 are bad
use Rattle.driver_rows.proofs.LowerLaws.{rules, ◌≡◌, ℕ, ◌+◌, ◌^◌, ◌<◌, ◌≤◌, true, refl, sym, arith, Header, Known, entry_of, is_bad_area, is_soiled, has_bad_entry, stops}

pub bad_above : (h : Header) (k : Known) (from len : ℕ) → 2 ^ 64 < from + len → is_bad_area h k from len ≡ true
unfolding is_bad_area
bad_above h k from len above = search (rules, stops)

pub entry_above : (h : Header) (k : Known) (s : ℕ) → 2 ^ 64 ≤ entry_of k s → has_bad_entry h k s ≡ true
unfolding has_bad_entry
entry_above h k s above = sym (stops true _ (is_soiled k (entry_of k s) 8) (sym (bad_above h k (entry_of k s) 8 (omega arith))) refl)
