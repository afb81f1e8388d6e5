-- The entries of the DCBAA under lease, by the slot whose entry has a word
use Rattle.trace_record.proofs.LowerLaws.{rules, ◌≡◌, ◌≢◌, ◌+◌, ◌-◌, ◌*◌, ◌/◌, ◌%◌, ◌<◌, ◌≤◌, ◌∙◌, ◌&&◌, ◌⊎◌, ℕ, zero, suc, List, Bool, true, false, refl, ap, sym, arith, is_some, list_any, range_with_len, cases_eq, nat_tests, overlap, Header, Dcbaap, register_or_zero, Known, entry_of, or_false, and_false, any_flat_map, entries_have}
use Rattle.ownership_rules.specs.OpenLeases as leases

range_none : (p : ℕ → Bool) (first n : ℕ) → ((s : ℕ) → first ≤ s → s < first + n → p s ≡ false) → list_any p (range_with_len first n) ≡ false
range_none p first zero none = refl
range_none p first (suc n) none = rw (none first (omega arith) (omega arith)) (range_none p (first + 1) n (λ s low high. none s (omega arith) (omega arith)))

range_one : (p : ℕ → Bool) (first n t : ℕ) → first ≤ t → t < first + n → ((s : ℕ) → s ≢ t → p s ≡ false) → list_any p (range_with_len first n) ≡ p t
range_one p first zero t low high others = absurd (omega arith)
range_one p first (suc n) t low high others =
    search (rules, cases_eq first t, range_none p (first + 1) n, or_false, range_one p (first + 1) n t, others first, list_any, range_with_len)

and_true : (b : Bool) → (b && true) ≡ b
and_true b = search rules

same_any : (p q : ℕ → Bool) → ((s : ℕ) → p s ≡ q s) → (xs : List ℕ) → list_any p xs ≡ list_any q xs
same_any p q h1 xs = search rules

module _ (h : Header) (k : Known) (a : ℕ) where
  abbrev base : ℕ
  base = register_or_zero k.register Dcbaap / 64 * 64

  abbrev in_entry : ℕ → Bool
  in_entry s = is_some (k.device s) && overlap a 4 (base + 8 * s) 8

  entries_are : entries_have h k a ≡ list_any in_entry (range_with_len 1 255)
  unfolding leases.entry_ranges leases.slots leases.range_of_entry leases.covers leases.lease_start leases.lease_bytes entry_of
  entries_are =
      any_flat_map (leases.covers h a 4) (λ s. leases.range_of_entry k s (k.device s)) (range_with_len 1 255)
      ∙ same_any (λ s. list_any (leases.covers h a 4) (leases.range_of_entry k s (k.device s))) in_entry (λ s. search (rules, or_false, overlap)) (range_with_len 1 255)

  misses : (s : ℕ) → overlap a 4 (base + 8 * s) 8 ≡ false → in_entry s ≡ false
  misses s away = ap (λ b. is_some (k.device s) && b) away ∙ and_false (is_some (k.device s))

  module _ (aligned : a % 4 ≡ 0) where
    -- the word lies below the array
    pub below_entries : a < base → false ≡ entries_have h k a
    below_entries below = sym (entries_are ∙ range_none in_entry 1 255 (λ s low high. misses s (grind (arith, nat_tests, below))))

    module _ (above : base ≤ a) where
      -- the slot that has the word, if one has
      abbrev slot : ℕ
      slot = (a - base) / 8

      elsewhere : (s : ℕ) → s ≢ slot → overlap a 4 (base + 8 * s) 8 ≡ false
      elsewhere s other = grind (arith, nat_tests, aligned, above, other)

      in_slot : overlap a 4 (base + 8 * slot) 8 ≡ true
      in_slot = grind (arith, nat_tests, above)

      -- no slot has this number
      pub no_slot : (slot ≡ 0) ⊎ (255 < slot) → false ≡ entries_have h k a
      no_slot none = sym (entries_are ∙ range_none in_entry 1 255 (λ s low high. misses s (elsewhere s (λ e. grind (arith, none, e, low, high)))))

      pub one_slot : slot ≢ 0 → slot ≤ 255 → is_some (k.device slot) ≡ entries_have h k a
      one_slot some few =
          search (rules, entries_are, range_one in_entry 1 255 slot (omega (arith, some)) (omega (arith, few)) (λ s other. misses s (elsewhere s other)), in_slot, and_true)
