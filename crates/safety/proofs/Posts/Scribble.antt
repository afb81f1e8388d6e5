-- The controller writes a word of a device context that it may write: the run goes on
use Rattle.safety.proofs.Words.{◌≡◌, ◌≢◌, ◌+◌, ◌*◌, ◌<◌, ◌≤◌, ◌∙◌, ℕ, true, false, List, nat_lt, nat_le, Option, Some, None, unwrap_or, arith, refl, sym, ap, subst, inl, inr, add-zero, leb-true, ltb-true, list_any, range_with_len, cases_lt, and_parts, cond_some, slice_get_within, Block, address_of, is_in, is_inside, address_inside, device_context, device_context_bytes, slot_entry, Header, Dcbaap, IsHeader, event_shape, event_size, touches_ring, register_or_zero, World, stored, is_scribbled, scribbled, counted, Known, device_named, entry_of, some_of, DeviceKeeps, DriverKeeps, EventsStand, touches_events, Agrees, Runs, all_read, rules, touches, length}
use Rattle.world_state.specs.World.{event_at}
use Rattle.safety.proofs.HeaderRings.Headers.{EventRing, event_ring_is, no_events}
use Rattle.safety.proofs.NoHarm.RingMemory.{same_block_at}
use Rattle.safety.proofs.StepsLeave.Stored.{late_stored, matches_stored, stands_stored, memory_stored}
use Rattle.safety.proofs.StepsLeave.Counted.{agrees_counted}
use Rattle.safety.proofs.Posts.Areas.{byte_apart, clean_word, part_apart, ring_untouched, soiled_in_no_context}

scribbled_is : (h : Header) (w v : World) (a x : ℕ) → scribbled h w a x ≡ Some v → (list_any (is_scribbled h w a) (range_with_len 0 256) ≡ true) × (stored w a x ≡ v)
unfolding scribbled
scribbled_is h w v a x at = cond_some (list_any (is_scribbled h w a) (range_with_len 0 256)) (stored w a x) v at

scribbled_parts : (h : Header) (w : World) (a s : ℕ) → is_scribbled h w a s ≡ true →
    (w.scribbles s ≡ true) × (is_in a (device_context w.memory (register_or_zero w.register Dcbaap) s) (device_context_bytes h.context_size) ≡ true)
unfolding is_scribbled
scribbled_parts h w a s at = and_parts (w.scribbles s) (is_in a (device_context w.memory (register_or_zero w.register Dcbaap) s) (device_context_bytes h.context_size)) at

entry_is : (k : Known) (s : ℕ) → entry_of k s ≡ slot_entry (register_or_zero k.register Dcbaap) s
unfolding entry_of
entry_is k s = refl

some_device : (o : Option ℕ) → (o ≡ None → ⊥) → (d : ℕ) × (o ≡ Some d)
some_device o h = grind arith

module _ (h : Header) (is : IsHeader h) (k : Known) (unread : List Block) (w : World) (d : DriverKeeps h k) (g : Agrees h k unread w) where
  -- a word of a slot's entry belongs to no event
  entry_not_event : (from a : ℕ) → touches_ring h from 8 ≡ false → from ≤ a → a + 4 ≤ from + 8 → touches_events h a ≡ false
  entry_not_event from a apart low high =
      elim (cases_lt 0 (event_size h)) [
        | inl some ↦
            let e = event_ring_is h is some in
            ap (λ t. touches t a 4) e.shape ∙ part_apart e.ring.shape from 8 a 4 (ring_untouched h from 8 apart e.ring e.at) low high
        | inr none ↦ no_events h is (omega arith) a
      ]

  -- the entry of a slot with a leased device context is as the driver wrote it
  entry_word : (s c j : ℕ) → DeviceKeeps h k s c → j < 2 → w.memory (entry_of k s + 4 * j) ≡ k.memory (entry_of k s + 4 * j)
  entry_word s c j dev low =
      g.stands.quiet (entry_of k s + 4 * j) (clean_word k (entry_of k s) 8 j dev.entry_clean (omega arith))
      (entry_not_event (entry_of k s) (entry_of k s + 4 * j) dev.entry_rings (omega arith) (omega arith))

  same_context : (s c : ℕ) → DeviceKeeps h k s c → device_context w.memory (register_or_zero w.register Dcbaap) s ≡ c
  unfolding device_named
  same_context s c dev =
      let e : ℕ = slot_entry (register_or_zero k.register Dcbaap) s in
      let at = entry_is k s in
      let low : w.memory e ≡ k.memory e = subst (λ x. w.memory x ≡ k.memory x) (add-zero (entry_of k s) ∙ at) (entry_word s c 0 dev (omega arith)) in
      let high : w.memory (e + 4) ≡ k.memory (e + 4) = subst (λ x. w.memory (x + 4) ≡ k.memory (x + 4)) at (entry_word s c 1 dev (omega arith)) in
      search (rules, device_context, unwrap_or, slot_entry, register_or_zero)

  -- the word is one of a leased device context
  leased_word : (a x : ℕ) → list_any (is_scribbled h w a) (range_with_len 0 256) ≡ true → (s : ℕ) × (c : ℕ) × DeviceKeeps h k s c × (is_in a c (device_context_bytes h.context_size) ≡ true)
  leased_word a x some =
      let s = some_of (is_scribbled h w a) (range_with_len 0 256) some in
      let parts = scribbled_parts h w a s.0 s.2 in
      let device = some_device (k.device s.0) (g.matches.scribbles s.0 parts.0) in
      let keeps = d.devices s.0 device.0 device.1 in
      (s.0, device.0, keeps, ap (λ c. is_in a c (device_context_bytes h.context_size)) (sym (same_context s.0 device.0 keeps)) ∙ parts.1)

  -- and no word of an event
  not_event : (a c s : ℕ) (e : EventRing h) → DeviceKeeps h k s c → is_in a c (device_context_bytes h.context_size) ≡ true → (p j : ℕ) → j < 16 → address_of (event_shape h) p + j ≢ a
  not_event a c s e dev inside p j low same =
      let parts = and_parts (nat_le c a) (nat_lt a (c + device_context_bytes h.context_size)) inside in
      byte_apart e.ring.shape c (device_context_bytes h.context_size) a (ring_untouched h c (device_context_bytes h.context_size) dev.rings e.ring e.at)
      (ap (λ t. is_inside t a) (sym e.shape) ∙ ap (λ b. is_inside (event_shape h) b) (sym same) ∙ address_inside (event_shape h) e.is p j low)
      (leb-true c a parts.0) (ltb-true a (c + device_context_bytes h.context_size) parts.1)

  event_stays : (a x c s : ℕ) (e : EventRing h) → DeviceKeeps h k s c → is_in a c (device_context_bytes h.context_size) ≡ true → (p : ℕ) → event_at h (stored w a x) p ≡ event_at h w p
  unfolding event_at
  event_stays a x c s e dev inside p =
      let at : ℕ = address_of (event_shape h) p in
      same_block_at (stored w a x).memory w.memory at
      (memory_stored w a x at (λ same. not_event a c s e dev inside p 0 (omega arith) (add-zero at ∙ same)))
      (memory_stored w a x (at + 4) (not_event a c s e dev inside p 4 (omega arith)))
      (memory_stored w a x (at + 8) (not_event a c s e dev inside p 8 (omega arith)))
      (memory_stored w a x (at + 12) (not_event a c s e dev inside p 12 (omega arith)))

  events_stored : (a x c s : ℕ) → DeviceKeeps h k s c → is_in a c (device_context_bytes h.context_size) ≡ true → EventsStand h (stored w a x) unread
  unfolding stored
  events_stored a x c s dev inside = record {
    order = g.events.order;
    count = g.events.count;
    places = λ i e at.
        let low : i < length unread = slice_get_within unread i e at in
        let some : 0 < w.posted = omega (arith, low, g.events.count) in
        event_stays a x c s (event_ring_is h is (g.events.ring some)) dev inside (w.reads + i) ∙ g.events.places i e at;
    started = g.events.started;
    ring = g.events.ring;
  }

  agrees_stored : (a x : ℕ) → list_any (is_scribbled h w a) (range_with_len 0 256) ≡ true → Agrees h k unread (counted h (stored w a x))
  unfolding stored
  agrees_stored a x some =
      let l = leased_word a x some in
      let soiled = l.2.soiled a l.3 in
      let late = λ (b : ℕ). at_most b in
      agrees_counted h k unread (stored w a x) (stands_stored h k w a x (inl soiled) g.stands) (events_stored a x l.1 l.0 l.2 l.3)
      (matches_stored h k w a x late (soiled_in_no_context h k d a soiled) g.matches) (g.read) (late_stored h w a x late)
    where
      at_most : (b : ℕ) → w.changed b ≤ w.steps + 1
      at_most b = omega (arith, g.stamps b)

-- the run goes on behind it
pub scribble_runs : (h : Header) → IsHeader h → (now : Known) (w v : World) (a x : ℕ) → (r : Runs h now w) → DriverKeeps h (all_read h now r.unread) →
    scribbled h w a x ≡ Some v → Runs h now (counted h v)
scribble_runs h is now w v a x r d at =
    let s = scribbled_is h w v a x at in
    search (rules, subst (λ u. Agrees h (all_read h now r.unread) r.unread (counted h u)) s.1 (agrees_stored h is (all_read h now r.unread) r.unread w d r.agrees a x s.0))
