-- What the rules say of a device context that a write takes
use Rattle.safety.proofs.MiddleLaws.{◌≡◌, ◌%◌, ◌<◌, ◌==◌, ◌||◌, ◌∙◌, ℕ, not, Bool, true, false, suc, zero, None, Some, is_none, is_some, arith, sym, ap, inl, inr, eqb-true, and_cases, or_parts, not-false, false≢true, overlap, Command, AddressDevice, named_slot, named_endpoint, named_context, is_disabled, device_context_bytes, input_context_bytes, Header, Dcbaap, Known, device_named, entry_of, is_bad_area, is_in_range_lease, is_soiled, DriverKeeps, has_bad_content, has_bad_context, has_bad_entry, is_bad_command, is_bad_device, names_disabled_endpoint, names_disabled_slot, takes_bad_device, rules, content_good, some_is}
use Rattle.safety.proofs.RunKeeps.KeptClean.{CleanTaking}

module _ (h : Header) (k : Known) where
  -- slot s takes the device context at d, with the input context at n
  pub record DeviceRules (s d n : ℕ) : Type 0 where
    pub some : 0 < s
    pub written : is_some (k.register Dcbaap) ≡ true
    pub entry_area : is_bad_area h k (entry_of k s) 8 ≡ false
    pub entry_clean : is_soiled k (entry_of k s) 8 ≡ false
    pub aligned : d % 64 ≡ 0
    pub area : is_bad_area h k d (device_context_bytes h.context_size) ≡ false
    pub free : is_in_range_lease h k d (device_context_bytes h.context_size) ≡ false
    pub entry_apart : overlap d (device_context_bytes h.context_size) (entry_of k s) 8 ≡ false
    pub context_apart : overlap d (device_context_bytes h.context_size) n (input_context_bytes h.context_size) ≡ false

  pub slot_named : (c : Command) → is_bad_command h k c ≡ false → names_disabled_slot k (named_slot c) ≡ false
  unfolding is_bad_command
  slot_named c good =
      let two = or_parts _ (has_bad_context h k (named_context c)) (or_parts _ (has_bad_content h k c) good).0 in
      (or_parts (names_disabled_slot k (named_slot c)) (names_disabled_endpoint k (named_endpoint c)) two.0).0

  -- a slot that is there isn't slot 0
  pub slot_above : DriverKeeps h k → (s : ℕ) → names_disabled_slot k (Some s) ≡ false → 0 < s
  unfolding names_disabled_slot
  slot_above d zero on = absurd (false≢true (sym on ∙ ap is_disabled d.states.no_slot))
  slot_above d (suc s) on = omega arith

  device_rules : DriverKeeps h k → (s n : ℕ) (bsr : Bool) → is_bad_command h k (AddressDevice s bsr n) ≡ false → k.device s ≡ None → DeviceRules s (device_named k s) n
  unfolding has_bad_content takes_bad_device is_bad_device has_bad_entry
  device_rules keeps s n bsr good fresh =
      let content = content_good h k (AddressDevice s bsr n) good in
      let takes = (or_parts _ (takes_bad_device h k s n) content).1 in
      elim (and_cases (is_none (k.device s)) (is_none (k.register Dcbaap) || has_bad_entry h k s || is_bad_device h k s n (device_named k s)) takes) [
        | inl other ↦ absurd (false≢true (sym other ∙ ap (λ o. is_none o) fresh))
        | inr rules ↦
            let d = device_named k s in
            let three = or_parts (is_none (k.register Dcbaap) || has_bad_entry h k s) (is_bad_device h k s n (device_named k s)) rules in
            let two = or_parts (is_none (k.register Dcbaap)) (has_bad_entry h k s) three.0 in
            let entry = or_parts (is_bad_area h k (entry_of k s) 8) (is_soiled k (entry_of k s) 8) two.1 in
            let six = or_parts _ (overlap (device_named k s) (device_context_bytes h.context_size) n (input_context_bytes h.context_size)) three.1 in
            let five = or_parts _ (overlap (device_named k s) (device_context_bytes h.context_size) (entry_of k s) 8) six.0 in
            let four = or_parts _ (is_in_range_lease h k (device_named k s) (device_context_bytes h.context_size)) five.0 in
            let area = or_parts _ (is_bad_area h k (device_named k s) (device_context_bytes h.context_size)) four.0 in
            let align = or_parts (device_named k s == 0) (not (device_named k s % 64 == 0)) area.0 in
            record {
              some = slot_above keeps s (slot_named (AddressDevice s bsr n) good);
              written = some_is (k.register Dcbaap) two.0;
              entry_area = entry.0;
              entry_clean = entry.1;
              aligned = eqb-true (device_named k s % 64) 0 (not-false (device_named k s % 64 == 0) align.1);
              area = area.1;
              free = four.1;
              entry_apart = five.1;
              context_apart = six.1;
            }
      ]

  pub taken_rules : DriverKeeps h k → (a w s d : ℕ) (t : CleanTaking h k a w s d) → DeviceRules s d t.takes.context
  taken_rules keeps a w s d t = search (rules, device_rules, t.takes.context, t.takes.bsr, is_bad_command)
