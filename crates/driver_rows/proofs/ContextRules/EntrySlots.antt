-- Slots whose entries some bytes can't touch
use Rattle.driver_rows.proofs.Words.{rules, ◌≡◌, ℕ, ◌+◌, ◌≤◌, false, unwrap_or, and_left, and_right, slot_entry, Dcbaap, Known, entry_of, touches_entry}

module _ (k : Known) (from len s d : ℕ) (is : d ≡ unwrap_or (k.register Dcbaap) 0) where
  pub ends_before : slot_entry d s + 8 ≤ from → touches_entry k from len s ≡ false
  unfolding touches_entry entry_of
  ends_before low = search (rules, and_right, and_left)

  pub begins_behind : from + len ≤ slot_entry d s → touches_entry k from len s ≡ false
  unfolding touches_entry entry_of
  begins_behind high = search (rules, and_right)
