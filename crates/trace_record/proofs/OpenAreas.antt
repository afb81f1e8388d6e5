-- The contexts under lease, by the addresses at which they start
use Rattle.trace_record.proofs.LowerLaws.{rules, ◌≡◌, ◌∷◌, ◌∙◌, ◌||◌, ℕ, List, [], Bool, true, false, Option, None, refl, ap, sym, list_any, filter_map, flat_map, cons_option, overlap, Command, named_context, device_context_bytes, input_context_bytes, Header, driver_rings, Known, or_false, any_append, any_flat_map, inputs_of, device_contexts, rings_have, table_has, entries_have, ◌&&◌, ◌==◌, not, Shape, touches, event_shape, event_ring, shape_or, any_map, Evt, older, stricter, writes_to_owned, changes_owned, is_lenient}
use Rattle.trace_record.proofs.BesideFree.{beside_link, unchained}
use Rattle.traces.specs.Versions.{has_runs}
use Rattle.trace_record.specs.Owned.{others_have}
use Rattle.ring_knowledge.specs.Rings as rings
use Rattle.ownership_rules.specs.Older.{may_write_owned, stands_beside_free}
use Rattle.ownership_rules.specs.Writes.{clears_chain, is_link_control, unchains}
use Rattle.ownership_rules.specs.OpenLeases as leases

or_assoc : (x y z : Bool) → ((x || y) || z) ≡ (x || (y || z))
or_assoc x y z = search rules

module _ (h : Header) (k : Known) (a : ℕ) where
  abbrev Has : List leases.Leased → Bool
  Has ls = list_any (leases.covers h a 4) ls

  abbrev in_input : ℕ → Bool
  in_input c = overlap a 4 c (input_context_bytes h.context_size)

  abbrev in_device : ℕ → Bool
  in_device d = overlap a 4 d (device_context_bytes h.context_size)

  -- ---- input contexts

  one_command : (p : ℕ) (o : Option Command) (rest : List Command) → list_any in_input (inputs_of (cons_option o rest)) ≡ (Has (leases.range_of_command h p o) || list_any in_input (inputs_of rest))
  unfolding leases.range_of_command leases.range_of_context leases.covers leases.lease_start leases.lease_bytes
  one_command p o rest = search (rules, list_any, or_false, named_context, inputs_of)

  all_commands : (ps : List ℕ) → list_any in_input (inputs_of (filter_map (rings.command_at h k) ps)) ≡ list_any (λ p. Has (leases.range_of_command h p (rings.command_at h k p))) ps
  all_commands [] = refl
  all_commands (p ∷ ps) = search (rules, one_command, filter_map, all_commands ps)

  -- ---- device contexts

  all_devices : (ss : List ℕ) → list_any in_device (filter_map k.device ss) ≡ list_any (λ s. Has (leases.range_of_device h s (k.device s))) ss
  unfolding leases.range_of_device leases.covers leases.lease_start leases.lease_bytes
  all_devices [] = refl
  all_devices (s ∷ ss) = (search (rules, list_any, or_false)) ∙ ap (λ b. Has (leases.range_of_device h s (k.device s)) || b) (all_devices ss)

  devices_are : list_any in_device (device_contexts k) ≡ Has (leases.device_ranges h k)
  unfolding leases.device_ranges
  devices_are = all_devices leases.slots ∙ sym (any_flat_map (leases.covers h a 4) (λ s. leases.range_of_device h s (k.device s)) leases.slots)

  -- ---- all of them

  pub others_are : others_have h k a
      ≡ (((table_has h k a || list_any in_input (inputs_of (rings.unfinished h k))) || entries_have h k a) || list_any in_device (device_contexts k))
  unfolding rings.unfinished leases.context_ranges
  others_are = search (rules, list_any, any_append, flat_map, any_flat_map, table_has, entries_have, all_commands, inputs_of, devices_are)

  pub ranges_are : Has (leases.open_ranges h k) ≡ (Has (leases.segment_ranges h) || others_have h k a)
  unfolding leases.open_ranges
  ranges_are = search (rules, any_append, or_assoc)

  pub leased_is : leases.is_leased h k a ≡ (rings_have h k a || others_have h k a)
  unfolding leases.is_leased leases.open_leases
  leased_is = search (rules, any_append, any_flat_map, ranges_are, rings_have, driver_rings)

  -- ---- the words that only the controller may write

  segments_are : touches (event_shape h) a 4 ≡ Has (leases.segment_ranges h)
  unfolding leases.segment_ranges leases.covers leases.lease_start leases.lease_bytes
  segments_are = sym (any_map (leases.covers h a 4) _ (event_shape h).segments)

  pub in_segments : (shape : Shape) → event_shape h ≡ shape → touches shape a 4 ≡ Has (leases.segment_ranges h)
  in_segments shape is = ap (λ s. touches s a 4) (sym is) ∙ segments_are

  pub in_no_segments : event_ring h ≡ None → false ≡ Has (leases.segment_ranges h)
  unfolding event_shape
  in_no_segments none = ap (λ o. touches (shape_or Evt o) a 4) (sym none) ∙ segments_are

  pub controllers_are : leases.is_the_controllers h k a ≡ (Has (leases.segment_ranges h) || list_any in_device (device_contexts k))
  unfolding leases.is_the_controllers
  controllers_are = any_append (leases.covers h a 4) (leases.segment_ranges h) (leases.device_ranges h k) ∙ ap (λ b. Has (leases.segment_ranges h) || b) (sym devices_are)

  -- such a word is of a range
  controllers_in_ranges : Has (leases.open_ranges h k) ≡ false → leases.is_the_controllers h k a ≡ false
  controllers_in_ranges free = search (rules, controllers_are, ranges_are, others_are, or_false)

  pub controllers_leased : leases.is_leased h k a ≡ false → leases.is_the_controllers h k a ≡ false
  controllers_leased free = search (rules, controllers_are, leased_is, others_are, rings_have)

  -- ---- what a write may not do, by the trace's version

  pub not_owned : (w : ℕ) → leases.is_leased h k a ≡ false → writes_to_owned h k a w ≡ false
  unfolding writes_to_owned stricter older changes_owned
  not_owned w free = search (rules, controllers_leased, or_false, not)

  pub owned_by_version : (w : ℕ) → leases.is_leased h k a ≡ true → is_lenient h.version ≡ false → writes_to_owned h k a w ≡ true
  unfolding writes_to_owned stricter may_write_owned
  owned_by_version w leased older = rw (leased, older) refl

  -- the word that stands there
  pub owned_if_same : (w : ℕ) → leases.is_leased h k a ≡ true → is_lenient h.version ≡ true → (k.memory a == w) ≡ true → writes_to_owned h k a w ≡ leases.is_the_controllers h k a
  unfolding writes_to_owned stricter may_write_owned changes_owned
  owned_if_same w leased newer same = rw (leased, newer, same) (or_false (leases.is_the_controllers h k a))

  -- another word
  pub owned_if_changed : (w : ℕ) → leases.is_leased h k a ≡ true → is_lenient h.version ≡ true → (k.memory a == w) ≡ false →
      writes_to_owned h k a w ≡ not (has_runs h.version && clears_chain (k.memory a) w && stands_beside_free h k a && not (Has (leases.open_ranges h k)))
  unfolding writes_to_owned stricter may_write_owned changes_owned unchains
  owned_if_changed w leased newer other = rw (leased, newer, other)
      (unchained (has_runs h.version) (stands_beside_free h k a) (is_link_control h a) (clears_chain (k.memory a) w) (Has (leases.open_ranges h k)) (leases.is_the_controllers h k a) (beside_link h k a) controllers_in_ranges)
