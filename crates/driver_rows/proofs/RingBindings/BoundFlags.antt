-- The flags of the endpoints that a command binds
use Rattle.driver_rows.proofs.Words.{rules, common_steps, ◌≡◌, ◌≤◌, ◌+◌, ◌*◌, ◌/◌, ◌^◌, ℕ, Bool, true, false, None, arith, inl, inr, refl, ne_eqb, cases_eq, bit_at-pow_other, bit_at-zero, ContextSize, has_flag, input_context_bytes, Command, AddressDevice, ConfigureEndpoint, is_off, Header, Known, FitsMemory, above_control, flag_is, HasBound, dequeue_at, and_false}

fits_there : (size : ContextSize) → 0 + input_context_bytes size ≤ 2 ^ 64
fits_there size = search rules

-- a word with no flag
no_flag : (i : ℕ) → has_flag 0 i ≡ false
no_flag i = flag_is 0 i 0 (bit_at-zero i)

module _ (h : Header) (k : Known) where
  -- a command that binds nothing
  pub of_nothing : (c : Command) → ((i : ℕ) → dequeue_at h k c i ≡ None) → HasBound h k c (record { flags = 0; context = 0 })
  of_nothing c none = search (rules, no_flag, fits_there)

  pub off_only : (s c : ℕ) (bsr : Bool) → is_off (k.endpoint_state s 1) ≡ false → (i : ℕ) → dequeue_at h k (AddressDevice s bsr c) i ≡ None
  off_only s c bsr on i = search (rules, and_false)

  pub of_address : (s c : ℕ) (bsr : Bool) → is_off (k.endpoint_state s 1) ≡ true → FitsMemory h.context_size (AddressDevice s bsr c) →
      HasBound h k (AddressDevice s bsr c) (record { flags = 2; context = c })
  of_address s c bsr off fits = record {
    said = λ i low. elim (cases_eq i 1) [
      | inl same ↦ rw (same, off) refl
      | inr other ↦ rw (off, ne_eqb i 1 other, flag_is 2 i 0 (bit_at-pow_other 1 i other)) refl
    ];
    aligned = (fits c refl).0;
    inside = (fits c refl).1;
  }

  pub of_configure : (s c word : ℕ) → word ≡ k.memory (c + 4) → FitsMemory h.context_size (ConfigureEndpoint s false c) →
      HasBound h k (ConfigureEndpoint s false c) (record { flags = word / 4 * 4; context = c })
  of_configure s c word is fits = grind (arith, above_control, fits c refl)

  pub of_others : (c : Command) → ((s : ℕ) (bsr : Bool) (n : ℕ) → c ≡ AddressDevice s bsr n → ⊥) → ((s : ℕ) (dc : Bool) (n : ℕ) → c ≡ ConfigureEndpoint s dc n → ⊥) →
      HasBound h k c (record { flags = 0; context = 0 })
  of_others c e f = grind (arith, common_steps, of_nothing)
