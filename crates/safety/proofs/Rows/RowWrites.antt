-- A write of memory where all events are read: what is known agrees with the world
use Rattle.safety.proofs.MiddleLaws.{[], ◌≡◌, ◌≢◌, ◌+◌, ◌*◌, ◌/◌, ◌<◌, ◌⊎◌, ◌∙◌, ℕ, false, List, Option, None, Some, option_and_then, slice_get, arith, refl, sym, ap, inl, inr, add-zero, ne_eqb, rules, list_any, or_parts, or_cases, false≢true, not_from_false, slice_get_within, put, Block, address_of, is_in, is_inside, Writes, changed, put_here, put_elsewhere, gives_is, address_inside, Command, named_context, device_context_bytes, input_context_bytes, Header, Write, IsHeader, shape_of, command_id, event_shape, World, stored, counted, Known, learned, command_at, next_command, with_device, with_word, written, command_given, taken_device, covers, lease_start, lease_bytes, segment_ranges, device_ranges, lenient, IsUnfinished, DriverKeeps, touches_events, IsUnchanged, Matches, Agrees, is_the_controllers, any_of_map, EventRing, event_ring_is, byte_apart, clean_word, context_lies, context_free, word_elsewhere, apart_or_same, not_the_controllers, none_of_both, same_block_at, at_number, Late, late_stored, memory_stored, unchanged_stored, agrees_counted, writes_goes_on, KnownGoesOn, SameController, matches_go_on, WriteLeaves, write_leaves, Register, is_some, Crcr, is_value, not, EventsStand}
use Rattle.world_state.specs.World.{event_at}

-- ---- what the write adds

device_rings : (h : Header) (l : Known) (taken : Option (ℕ × ℕ)) → (with_device h l taken).ring ≡ l.ring
unfolding with_device
device_rings h l o = grind arith

written_rings : (h : Header) (k : Known) (a x r : ℕ) → (learned h k (Write a x)).ring r ≡ changed (shape_of h r) (k.ring r) (Writes a x)
unfolding learned written with_word
written_rings h k a x r = ap (λ f. f r) (device_rings h (with_word h k a x) (option_and_then (taken_device k) (command_given h k a x)))

device_memory : (h : Header) (l : Known) (taken : Option (ℕ × ℕ)) → (with_device h l taken).memory ≡ l.memory
unfolding with_device
device_memory h l o = grind arith

written_memory : (h : Header) (k : Known) (a x b : ℕ) → (learned h k (Write a x)).memory b ≡ put k.memory a x b
unfolding learned written with_word
written_memory h k a x b = ap (λ f. f b) (device_memory h (with_word h k a x) (option_and_then (taken_device k) (command_given h k a x)))

-- a word that isn't soiled then is the one that is written, or wasn't soiled
written_soiled : (h : Header) (k : Known) (a x b : ℕ) → (learned h k (Write a x)).soiled b ≡ false → b ≢ a → k.soiled b ≡ false
unfolding learned written with_word with_device
written_soiled h k a x b none other = search (rules, ne_eqb, or_parts, is_in, device_context_bytes, option_and_then, false≢true, not_from_false)

device_kept : (h : Header) (l : Known) (taken : Option (ℕ × ℕ)) (s : ℕ) → l.device s ≢ None → (with_device h l taken).device s ≢ None
unfolding with_device
device_kept h l o s some = grind (arith, at_number, l.device)

module _ (h : Header) (is : IsHeader h) (k : Known) (unread : List Block) (w : World) (a x : ℕ) (d : DriverKeeps h k) (g : Agrees h k unread w) (clean : lenient h k (Write a x) ≡ []) where
  m : Known
  m = learned h k (Write a x)

  v : World
  v = stored w a x

  late : Late w
  late b = omega (arith, g.stamps b)

  -- ---- what the word isn't

  segments_free : list_any (covers h a 4) (segment_ranges h) ≡ false
  unfolding is_the_controllers
  segments_free = (none_of_both (covers h a 4) (segment_ranges h) (device_ranges h k) (not_the_controllers h k a x clean)).0

  not_event : touches_events h a ≡ false
  unfolding segment_ranges covers lease_start lease_bytes
  not_event = sym (any_of_map (covers h a 4) _ (event_shape h).segments) ∙ segments_free

  -- a word of the input context of an unfinished command is written as it stands in the world
  in_context_same : (p n i : ℕ) (c : Command) → IsUnfinished h k p c → named_context c ≡ Some n → i < input_context_bytes h.context_size / 4 → n + 4 * i ≡ a → w.memory a ≡ x
  in_context_same p n i c u named low here =
      elim (apart_or_same h k a x clean) [
        | inl free ↦
            absurd (word_elsewhere a n (input_context_bytes h.context_size) (n + 4 * i) (context_free h k a 4 free p n c u named) (omega arith) (omega arith) here)
        | inr same ↦
            g.stands.quiet a (ap k.soiled (sym here) ∙ clean_word k n (input_context_bytes h.context_size) i (context_lies h k d p n c u named).clean low) not_event ∙ same
      ]

  event_apart : (e : EventRing h) (p j : ℕ) → j < 16 → address_of (event_shape h) p + j ≢ a
  event_apart e p j low same =
      byte_apart (event_shape h) a 4 a not_event (ap (λ b. is_inside (event_shape h) b) (sym same) ∙ address_inside (event_shape h) e.is p j low) (omega arith) (omega arith)

  event_stays : (e : EventRing h) (p : ℕ) → event_at h v p ≡ event_at h w p
  unfolding event_at v
  event_stays e p =
      let at : ℕ = address_of (event_shape h) p in
      same_block_at (stored w a x).memory w.memory at
      (memory_stored w a x at (λ same. event_apart e p 0 (omega arith) (add-zero at ∙ same)))
      (memory_stored w a x (at + 4) (event_apart e p 4 (omega arith)))
      (memory_stored w a x (at + 8) (event_apart e p 8 (omega arith)))
      (memory_stored w a x (at + 12) (event_apart e p 12 (omega arith)))

  some_posted : (i : ℕ) (f : Block) → slice_get unread i ≡ Some f → 0 < w.posted
  some_posted i f at = let within = slice_get_within unread i f at in omega (arith, g.events.count)

  -- ---- what is known

  goes_on : KnownGoesOn h k m
  unfolding m learned written with_word
  goes_on =
      let same = write_leaves h k a x in
      record {
        named = ap (λ (f : Register → Option ℕ). is_some (f Crcr)) same.registers.register;
        unused = λ unused. ap (λ o. not (is_value 0 o)) (sym (same.pointers (command_id h)).held) ∙ unused;
        slot_state = same.slots.slot_state;
        endpoint_state = same.endpoint_state;
        ring_of = same.slots.ring_of;
        isochronous = same.slots.isochronous;
        was_bound = same.slots.was_bound;
        stop_seen = same.slots.stop_seen;
        device = (search (rules, m, write_leaves, device_kept, with_word, option_and_then, taken_device, command_given));
        rings = (search (rules, m, written_rings, writes_goes_on));
      }

  controller : SameController w v
  unfolding v stored
  controller = record { slot_state = refl; endpoint_state = refl; ring_of = refl; isochronous = refl; scribbles = refl; under_way = refl; inside = refl; there = refl; states = λ q. refl }

  queue_same : (r : ℕ) → (m.ring r).queue ≡ (k.ring r).queue
  unfolding m
  queue_same r = ap (λ y. y.queue) (written_rings h k a x r)

  -- a command that is unfinished then was so before, or is given by this write
  was_or_now : (p : ℕ) (c : Command) → IsUnfinished h m p c → IsUnfinished h k p c ⊎ (a ≡ address_of (shape_of h (command_id h)) p + 12)
  unfolding command_at m
  was_or_now p c u = search (rules, m, written_rings, or_cases, option_and_then, slice_get, queue_same, gives_is)

  -- nothing was changed later than the word that is written now
  written_now : (p : ℕ) (o : Option ℕ) → a ≡ address_of (shape_of h (command_id h)) p + 12 → IsUnchanged h v (address_of (shape_of h (command_id h)) p) o
  unfolding v stored
  written_now p None now = tt
  written_now p (Some n) now = λ i low. (grind (arith, v, late_stored, late, put_here))

  contexts : (p : ℕ) (c : Command) → IsUnfinished h m p c → IsUnchanged h v (address_of (shape_of h (command_id h)) p) (named_context c)
  unfolding v stored
  contexts p c u =
      elim (was_or_now p c u) [
        | inl was ↦
            unchanged_stored h w a x (address_of (shape_of h (command_id h)) p) (named_context c) late (λ n i named low. in_context_same p n i c was named low) (g.matches.contexts p c was)
        | inr now ↦ written_now p (named_context c) now
      ]

  matches : Matches h m v
  matches =
      matches_go_on h k m w v goes_on controller (λ u at. ap (λ q. slice_get q (next_command h k)) (queue_same (command_id h))) contexts g.matches

  quiet : (b : ℕ) → m.soiled b ≡ false → touches_events h b ≡ false → v.memory b ≡ m.memory b
  unfolding m v stored
  quiet b none apart = search (rules, put, w.memory, put_here, k.memory, written_memory, put_elsewhere, g.stands.quiet, written_soiled)

  read : v.posted ≡ m.reads
  unfolding m v stored
  read = let l : WriteLeaves k m = write_leaves h k a x in g.read ∙ sym l.registers.reads

  events : EventsStand h v unread
  unfolding v stored
  events =
      let was = g.events in
      record {
        order = was.order;
        count = was.count;
        places = λ i e at. event_stays (event_ring_is h is (was.ring (some_posted i e at))) (w.reads + i) ∙ was.places i e at;
        started = was.started;
        ring = was.ring;
      }

  pub writes_agree : Agrees h (learned h k (Write a x)) unread (counted h (stored w a x))
  unfolding m v stored
  writes_agree = agrees_counted h m unread v (search (rules, g.stands, m, write_leaves, queue_same, written_rings, quiet)) events matches read (late_stored h w a x late)
