-- No word of a ring is soiled, behind each row
use Rattle.safety.proofs.MiddleLaws.{[], ◌≡◌, ◌+◌, ◌%◌, ◌==◌, ◌∙◌, ℕ, not, Bool, true, false, Option, None, Some, is_none, option_and_then, sym, ap, leb-true, ltb-true, rules, and_parts, and_left, or_from, or_parts, and_cases, false_from_ne_true, false≢true, none-some, same_Some, Block, kind, is_in, is_inside, Command, AddressDevice, device_context_bytes, Header, Sub, Write, Reg, Bell, Read, shape_of, touches_ring, Known, device_named, no_device, taken_device, command_given, with_device, with_word, written, learned, is_bad_area, some_command, write_tests, lenient_tests, lenient, IsDriverRing, KeptByRows, has_bad_content, is_bad_command, is_bad_device, takes_bad_device, arith, found_in, shape_is, tests_fail, content_good, fails_of, byte_apart, ring_untouched, event_same, declaration_leaves, register_leaves, bell_leaves, RegRead, status_leaves}

-- the slot and the address of a device context that comes under lease
pub record TakesDevice (k : Known) (s d : ℕ) (c : Command) : Type 0 where
  pub bsr : Bool
  pub context : ℕ
  pub command : c ≡ AddressDevice s bsr context
  pub fresh : k.device s ≡ None
  pub named : device_named k s ≡ d

takes_is : (k : Known) (c : Command) (e : ℕ × ℕ) → taken_device k c ≡ Some e → TakesDevice k e.0 e.1 c
unfolding taken_device no_device
takes_is k o e at = grind (arith, same_Some, device_named, none-some)

given_some : (k : Known) (o : Option Command) (e : ℕ × ℕ) → option_and_then (taken_device k) o ≡ Some e → (c : Command) × (o ≡ Some c) × (taken_device k c ≡ Some e)
given_some k o e at = grind (arith, none-some)

-- what a write that breaks no rule takes under lease
pub record CleanTaking (h : Header) (k : Known) (a w s d : ℕ) : Type 0 where
  pub command : Command
  pub given : command_given h k a w ≡ Some command
  pub good : is_bad_command h k command ≡ false
  pub takes : TakesDevice k s d command

module _ (h : Header) where
  pub given_good : (k : Known) (a w : ℕ) (c : Command) → lenient h k (Write a w) ≡ [] → command_given h k a w ≡ Some c → is_bad_command h k c ≡ false
  unfolding lenient_tests write_tests some_command
  given_good k a w c clean given =
      fails_of h k (is_bad_command h k) (command_given h k a w) c (tests_fail h k (Write a w) clean).1.1.1.1.1.0 given

  pub taking : (k : Known) (a w : ℕ) (e : ℕ × ℕ) → lenient h k (Write a w) ≡ [] → option_and_then (taken_device k) (command_given h k a w) ≡ Some e → CleanTaking h k a w e.0 e.1
  taking k a w e clean at =
      let given = given_some k (command_given h k a w) e at in
      record { command = given.0; given = given.1; good = given_good k a w given.0 clean given.1; takes = takes_is k given.0 e given.2 }

  -- the device context touches no ring
  taken_area : (k : Known) (s n d : ℕ) (bsr : Bool) → has_bad_content h k (AddressDevice s bsr n) ≡ false → k.device s ≡ None → device_named k s ≡ d →
      touches_ring h d (device_context_bytes h.context_size) ≡ false
  unfolding has_bad_content takes_bad_device is_bad_device is_bad_area
  taken_area k s n d bsr good fresh named = search (rules, or_parts, and_cases, is_none, false≢true)

  pub taking_apart : (k : Known) (a w s d : ℕ) → CleanTaking h k a w s d → touches_ring h d (device_context_bytes h.context_size) ≡ false
  taking_apart k a w s d t =
      taken_area k s t.takes.context d t.takes.bsr (ap (λ c. has_bad_content h k c) (sym t.takes.command) ∙ content_good h k t.command t.good) t.takes.fresh t.takes.named

  -- a byte of a ring is in no area that touches none
  pub not_in_area : (r a d len : ℕ) → IsDriverRing h r → is_inside (shape_of h r) a ≡ true → touches_ring h d len ≡ false → is_in a d len ≡ false
  not_in_area r a d len ring inside apart =
      false_from_ne_true (is_in a d len) (λ within.
      let found = found_in (λ q. q.id == r) h.rings ring.ring ring.found in
      let parts = and_parts _ _ within in
      byte_apart ring.ring.shape d len a (ring_untouched h d len apart ring.ring found.0) (ap (λ s. is_inside s a) (sym (shape_is h r ring.ring ring.found)) ∙ inside)
      (leb-true d a parts.0) (ltb-true a (d + len) parts.1))

  clean_written : (k : Known) (a w x : ℕ) → ((e : ℕ × ℕ) → option_and_then (taken_device k) (command_given h k a w) ≡ Some e → is_in x e.1 (device_context_bytes h.context_size) ≡ false) →
      k.soiled x ≡ false → (learned h k (Write a w)).soiled x ≡ false
  unfolding learned written with_device with_word
  clean_written k a w x apart clean = grind (arith, and_left, not, or_from, is_in, device_context_bytes)

  read_soiled : (k : Known) (b : Block) → (learned h k (Read b)).soiled ≡ k.soiled
  unfolding learned
  read_soiled k b = (event_same h k (kind b) b).soiled

  pub kept_clean : KeptByRows h (λ k. (r a : ℕ) → IsDriverRing h r → a % 4 ≡ 0 → is_inside (shape_of h r) a ≡ true → k.soiled a ≡ false)
  unfolding learned
  kept_clean is k (Sub q blocks) d clean on r a ring word inside = ap (λ f. f a) (declaration_leaves h k q blocks).memory.soiled ∙ d.clean r a ring word inside
  kept_clean is k (Write at w) d clean on r a ring word inside =
      clean_written k at w a
      (λ e takes. not_in_area r a e.1 (device_context_bytes h.context_size) ring inside (taking_apart k at w e.0 e.1 (taking k at w e clean takes))) (d.clean r a ring word inside)
  kept_clean is k (Reg q x) d clean on r a ring word inside = ap (λ f. f a) (register_leaves h k q x).memory.soiled ∙ d.clean r a ring word inside
  kept_clean is k (Bell s t) d clean on r a ring word inside = ap (λ f. f a) (bell_leaves h k s t).memory.soiled ∙ d.clean r a ring word inside
  kept_clean is k (Read b) d clean on r a ring word inside = ap (λ f. f a) (read_soiled k b) ∙ d.clean r a ring word inside
  kept_clean is k (RegRead q x) d clean on r a ring word inside = ap (λ f. f a) (status_leaves h k q x).memory.soiled ∙ d.clean r a ring word inside
  kept_clean is k row d clean on r a ring word inside = d.clean r a ring word inside
