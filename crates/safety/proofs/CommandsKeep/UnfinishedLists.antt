-- Unfinished commands and leases stand in the lists that the rules go through
use Rattle.safety.proofs.Words.{[], ◌≡◌, ◌+◌, ◌<◌, ◌≤◌, ◌∷◌, ◌++◌, ◌∙◌, ℕ, suc, zero, Bool, false, List, Option, None, Some, arith, refl, sym, ap, subst, inl, inr, list_any, range_with_len, flat_map, filter_map, cons_option, cases_eq, false≢true, false_from_ne_true, place_count, due_positions, floor_number, due_is, Command, named_context, device_context_bytes, input_context_bytes, table_bytes, event_shape, base_address, Header, shape_of, command_id, Known, command_at, unfinished_positions, unfinished, entry_of, Leased, Range, SegmentTable, InputContext, SlotEntry, DeviceContext, slots, range_of_entry, entry_ranges, range_of_context, range_of_command, context_ranges, range_of_device, device_ranges, table_range, segment_ranges, open_ranges, Erstba, IsIn, any_of, in_filter, IsUnfinished}

pub in_range : (a n x : ℕ) → a ≤ x → x < a + n → IsIn x (range_with_len a n)
in_range a zero x low high = absurd (omega arith)
in_range a (suc n) x low high =
    elim (cases_eq x a) [
      | inl here ↦ inl here
      | inr later ↦ inr (in_range (a + 1) n x (omega arith) (omega arith))
    ]

pub in_left : {X : Type 0} (x : X) (xs ys : List X) → IsIn x xs → IsIn x (xs ++ ys)
in_left x [] ys at = absurd at
in_left x (y ∷ xs) ys at = elim at [ inl here ↦ inl here | inr later ↦ inr (in_left x xs ys later) ]

pub in_right : {X : Type 0} (x : X) (xs ys : List X) → IsIn x ys → IsIn x (xs ++ ys)
in_right x [] ys at = at
in_right x (y ∷ xs) ys at = inr (in_right x xs ys at)

pub in_flat : {X Y : Type 0} (f : X → List Y) (xs : List X) (x : X) (y : Y) → IsIn x xs → IsIn y (f x) → IsIn y (flat_map f xs)
in_flat f [] x y at there = absurd at
in_flat f (z ∷ xs) x y at there =
    elim at [
      | inl here ↦ in_left y (f z) (flat_map f xs) (subst (λ u. IsIn y (f u)) here there)
      | inr later ↦ in_right y (f z) (flat_map f xs) (in_flat f xs x y later there)
    ]

pub in_filter_map : {X Y : Type 0} (f : X → Option Y) (xs : List X) (x : X) (y : Y) → IsIn x xs → f x ≡ Some y → IsIn y (filter_map f xs)
in_filter_map f [] x y at is = absurd at
in_filter_map {X} {Y} f (z ∷ xs) x y at is =
    elim at [
      | inl here ↦ subst (λ o. IsIn y (cons_option o (filter_map f xs))) (sym (ap f (sym here) ∙ is)) (inl refl)
      | inr later ↦ by (f z) (in_filter_map f xs x y later is)
    ]
  where
    by : (o : Option Y) → IsIn y (filter_map f xs) → IsIn y (cons_option o (filter_map f xs))
    by None there = there
    by (Some u) there = inr there

-- a test that none of a list passes one of it fails
pub fails_in : {X : Type 0} (test : X → Bool) (xs : List X) (x : X) → list_any test xs ≡ false → IsIn x xs → test x ≡ false
fails_in test xs x none at = false_from_ne_true (test x) (λ passes. false≢true (sym none ∙ any_of test xs x at passes))

module _ (h : Header) (k : Known) where
  pub in_positions : (p : ℕ) (c : Command) → IsUnfinished h k p c → IsIn p (unfinished_positions h k)
  unfolding unfinished_positions due_positions
  in_positions p c u =
      let due = due_is (shape_of h (command_id h)) (k.ring (command_id h)).floor p u.due in
      in_filter (k.ring (command_id h)).given (range_with_len (floor_number (k.ring (command_id h))) (place_count (shape_of h (command_id h)))) p
      (in_range (floor_number (k.ring (command_id h))) (place_count (shape_of h (command_id h))) p due.0 due.1) u.given

  -- a test that no unfinished command passes
  pub unfinished_fails : (test : Command → Bool) (p : ℕ) (c : Command) → list_any test (unfinished h k) ≡ false → IsUnfinished h k p c → test c ≡ false
  unfolding unfinished
  unfinished_fails test p c none u =
      fails_in test (filter_map (command_at h k) (unfinished_positions h k)) c none (in_filter_map (command_at h k) (unfinished_positions h k) p c (in_positions p c u) u.command)

  -- ---- ranges under lease

  pub context_leased : (p n : ℕ) (c : Command) → IsUnfinished h k p c → named_context c ≡ Some n → IsIn (Range (input_context_bytes h.context_size) n (InputContext p)) (open_ranges h k)
  unfolding open_ranges context_ranges range_of_command range_of_context
  context_leased p n c u is =
      let l : Leased = Range (input_context_bytes h.context_size) n (InputContext p) in
      let there : IsIn l (range_of_command h p (command_at h k p)) =
      subst (λ o. IsIn l (range_of_command h p o)) (sym u.command) (subst (λ o. IsIn l (range_of_context h p o)) (sym is) (inl refl)) in
      in_left l _ (device_ranges h k) (in_left l _ (entry_ranges k) (in_right l (segment_ranges h ++ table_range h (k.register Erstba)) (context_ranges h k)
      (in_flat (λ p. range_of_command h p (command_at h k p)) (unfinished_positions h k) p l (in_positions p c u) there)))

  in_slots : (s : ℕ) → 0 < s → s < 256 → IsIn s slots
  unfolding slots
  in_slots s low high = in_range 1 255 s (omega arith) (omega arith)

  pub device_listed : (s d : ℕ) → 0 < s → s < 256 → k.device s ≡ Some d → IsIn (Range (device_context_bytes h.context_size) d (DeviceContext s)) (device_ranges h k)
  unfolding device_ranges range_of_device
  device_listed s d low high at =
      let l : Leased = Range (device_context_bytes h.context_size) d (DeviceContext s) in
      in_flat (λ s. range_of_device h s (k.device s)) slots s l (in_slots s low high) (subst (λ o. IsIn l (range_of_device h s o)) (sym at) (inl refl))

  pub device_leased : (s d : ℕ) → 0 < s → s < 256 → k.device s ≡ Some d → IsIn (Range (device_context_bytes h.context_size) d (DeviceContext s)) (open_ranges h k)
  unfolding open_ranges
  device_leased s d low high at =
      in_right (Range (device_context_bytes h.context_size) d (DeviceContext s)) (segment_ranges h ++ table_range h (k.register Erstba) ++ context_ranges h k ++ entry_ranges k) (device_ranges h k)
      (device_listed s d low high at)

  pub entry_leased : (s d : ℕ) → 0 < s → s < 256 → k.device s ≡ Some d → IsIn (Range 8 (entry_of k s) (SlotEntry s)) (open_ranges h k)
  unfolding open_ranges entry_ranges range_of_entry
  entry_leased s d low high at =
      let l : Leased = Range 8 (entry_of k s) (SlotEntry s) in
      in_left l (segment_ranges h ++ table_range h (k.register Erstba) ++ context_ranges h k ++ entry_ranges k) (device_ranges h k)
      (in_right l (segment_ranges h ++ table_range h (k.register Erstba) ++ context_ranges h k) (entry_ranges k)
      (in_flat (λ s. range_of_entry k s (k.device s)) slots s l (in_slots s low high) (subst (λ o. IsIn l (range_of_entry k s o)) (sym at) (inl refl))))

  pub table_leased : (v : ℕ) → k.register Erstba ≡ Some v → IsIn (Range (table_bytes (event_shape h)) (base_address v) SegmentTable) (open_ranges h k)
  unfolding open_ranges table_range
  table_leased v at =
      let l : Leased = Range (table_bytes (event_shape h)) (base_address v) SegmentTable in
      in_left l _ (device_ranges h k) (in_left l _ (entry_ranges k) (in_left l _ (context_ranges h k)
      (in_right l (segment_ranges h) (table_range h (k.register Erstba)) (subst (λ o. IsIn l (table_range h o)) (sym at) (inl refl)))))
