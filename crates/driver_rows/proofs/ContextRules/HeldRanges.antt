-- The ranges under lease, by the addresses at which they start
use Rattle.driver_rows.proofs.LowerLaws.{rules, ◌≡◌, ℕ, List, [], ◌∷◌, Bool, false, Option, Some, None, refl, sym, ◌∙◌, ◌||◌, ◌&&◌, is_some, list_any, filter_map, overlap, table_bytes, device_context_bytes, input_context_bytes, Command, named_context, Header, Erstba, event_shape, base_address, Known, entry_of, command_at, unfinished, unfinished_positions, is_in_range_lease, context_ranges, covers, device_ranges, entry_ranges, lease_bytes, lease_start, open_ranges, range_of_command, range_of_context, range_of_device, range_of_entry, segment_ranges, slots, table_range, any_append, any_map, any_flat_map, or_false, device_contexts, inputs_of, touches_entry, touches_event_segment, any_left}

-- a test of what is found of the elements
any_found : {X Y : Type 0} (test : Y → Bool) (f : X → Option Y) (xs : List X) (found : Option Y → Bool) → found None ≡ false → ((y : Y) → found (Some y) ≡ test y) →
    list_any test (filter_map f xs) ≡ list_any (λ x. found (f x)) xs
any_found test f [] found none some = refl
any_found test f (x ∷ xs) found none some = search (rules, any_found test f xs found none some)

-- so many bytes from an address on touch a segment table whose base ERSTBA names
abbrev pub of_table : Header → ℕ → ℕ → Option ℕ → Bool
of_table h from len None = false
of_table h from len (Some v) = overlap from len (base_address v) (table_bytes (event_shape h))

module _ (h : Header) (k : Known) (from len : ℕ) where
  -- device contexts
  pub any_device : list_any (covers h from len) (device_ranges h k) ≡ list_any (λ a. overlap from len a (device_context_bytes h.context_size)) (device_contexts k)
  unfolding device_ranges range_of_device covers lease_start lease_bytes
  any_device =
      any_flat_map (covers h from len) (λ s. range_of_device h s (k.device s)) slots
      ∙ (λ i. list_any (λ s. same s (k.device s) i) slots)
      ∙ sym (any_found (λ a. overlap from len a (device_context_bytes h.context_size)) k.device slots of_device refl (λ y. refl))
    where
      of_device : Option ℕ → Bool
      of_device None = false
      of_device (Some a) = overlap from len a (device_context_bytes h.context_size)

      same : (s : ℕ) (d : Option ℕ) → list_any (covers h from len) (range_of_device h s d) ≡ of_device d
      same s d = search (rules, or_false)

  -- input contexts of unfinished commands
  pub any_context : list_any (covers h from len) (context_ranges h k) ≡ list_any (λ a. overlap from len a (input_context_bytes h.context_size)) (inputs_of (unfinished h k))
  unfolding context_ranges unfinished range_of_command range_of_context covers lease_start lease_bytes
  any_context =
      any_flat_map (covers h from len) (λ p. range_of_command h p (command_at h k p)) (unfinished_positions h k)
      ∙ (λ i. list_any (λ p. same p (command_at h k p) i) (unfinished_positions h k))
      ∙ sym (any_found of_input (command_at h k) (unfinished_positions h k) of_command refl (λ y. refl))
      ∙ sym (any_found (λ a. overlap from len a (input_context_bytes h.context_size)) named_context (filter_map (command_at h k) (unfinished_positions h k)) of_context refl (λ y. refl))
    where
      of_context : Option ℕ → Bool
      of_context None = false
      of_context (Some a) = overlap from len a (input_context_bytes h.context_size)

      of_input : Command → Bool
      of_input c = of_context (named_context c)

      of_command : Option Command → Bool
      of_command None = false
      of_command (Some c) = of_input c

      context : (p : ℕ) (a : Option ℕ) → list_any (covers h from len) (range_of_context h p a) ≡ of_context a
      context p a = search (rules, or_false)

      same : (p : ℕ) (c : Option Command) → list_any (covers h from len) (range_of_command h p c) ≡ of_command c
      same p c = search (rules, context)

  -- the segment table
  pub any_table : (v : Option ℕ) → list_any (covers h from len) (table_range h v) ≡ of_table h from len v
  unfolding table_range covers lease_start lease_bytes
  any_table v = search (rules, or_false)

  -- entries of slots
  pub any_entry : list_any (covers h from len) (entry_ranges k) ≡ any_left (touches_entry k from len) 1 256
  unfolding entry_ranges range_of_entry covers lease_start lease_bytes touches_entry any_left slots
  any_entry =
      any_flat_map (covers h from len) (λ s. range_of_entry k s (k.device s)) slots
      ∙ (λ i. list_any (λ s. same s (k.device s) i) slots)
    where
      same : (s : ℕ) (d : Option ℕ) → list_any (covers h from len) (range_of_entry k s d) ≡ (is_some d && overlap from len (entry_of k s) 8)
      same s d = search (rules, or_false)

  -- all ranges
  pub any_range : is_in_range_lease h k from len ≡
      (touches_event_segment h from len || list_any (covers h from len) (table_range h (k.register Erstba)) || list_any (covers h from len) (context_ranges h k)
      || list_any (covers h from len) (entry_ranges k) || list_any (covers h from len) (device_ranges h k))
  unfolding is_in_range_lease open_ranges segment_ranges covers lease_start lease_bytes
  any_range = search (rules, any_append, any_map)
