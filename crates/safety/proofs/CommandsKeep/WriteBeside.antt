-- A write leaves what unfinished commands read of contexts and device contexts
use Rattle.safety.proofs.MiddleLaws.{[], ◌≡◌, ◌≢◌, ◌+◌, ◌*◌, ◌/◌, ◌<◌, ◌≤◌, ◌==◌, ◌&&◌, ◌∙◌, ℕ, not, Bool, true, false, nat_le, nat_lt, Option, None, Some, option_and_then, arith, refl, sym, ap, inl, inr, lt-ltb, le-leb, rules, or_parts, or_from, and_left, and_from, false≢true, none-some, same_Some, is_in, is_inside, overlap, cases_option, address_inside, gives_is, put_elsewhere, Command, AddressDevice, named_context, is_disabled, is_off, device_context_bytes, input_context_bytes, Header, Write, IsHeader, shape_of, command_id, Known, learned, no_device, taken_device, device_named, command_given, is_bad_area, is_soiled, lenient, IsUnfinished, CommandKeeps, DriverKeeps, has_bad_context, is_bad_command, put_same, ring_shape, clean_word, AreaParts, area_parts, area_from, not_in_other, overlap_turned, word_elsewhere, is_soiled_from, device_apart, devices_apart, context_free, lease_free, apart_or_same, at_number, write_leaves, taken, written_memory, written_device, written_device_none, written_soiled, written_soiled_none, GivesCommand, AgreeIn, Beside, context_good, covers, open_ranges, list_any}
use Rattle.safety.proofs.RunKeeps.KeptClean.{taking, not_in_area}
use Rattle.safety.proofs.DevicesKeep.TakenDevices.{DeviceRules, taken_rules}

module _ (h : Header) (k : Known) where
  pub record ContextParts (n : ℕ) : Type 0 where
    pub area : is_bad_area h k n (input_context_bytes h.context_size) ≡ false
    pub clean : is_soiled k n (input_context_bytes h.context_size) ≡ false

  pub context_parts : (n : ℕ) → has_bad_context h k (Some n) ≡ false → ContextParts n
  unfolding has_bad_context
  context_parts n good = search (rules, or_parts, is_bad_area, input_context_bytes, is_soiled)

  pub context_from : (n : ℕ) → is_bad_area h k n (input_context_bytes h.context_size) ≡ false → is_soiled k n (input_context_bytes h.context_size) ≡ false →
      has_bad_context h k (Some n) ≡ false
  unfolding has_bad_context
  context_from n area clean = or_from (is_bad_area h k n (input_context_bytes h.context_size)) (is_soiled k n (input_context_bytes h.context_size)) area clean

module _ (h : Header) (is : IsHeader h) (k : Known) (d : DriverKeeps h k) (a w : ℕ) (clean : lenient h k (Write a w) ≡ []) where
  abbrev l : Known
  l = learned h k (Write a w)

  -- a range under lease has the word as it was
  pub word_stays : (b len : ℕ) → (list_any (covers h a 4) (open_ranges h k) ≡ false → overlap a 4 b len ≡ false) → (x : ℕ) → b ≤ x → x < b + len → l.memory x ≡ k.memory x
  word_stays b len apart x low high = search (rules, l, written_memory, apart_or_same, put_elsewhere, word_elsewhere, put_same)

  -- a device context that is taken
  pub rules_of : (e : ℕ × ℕ) (at : taken h k a w ≡ Some e) → DeviceRules h k e.0 e.1 (taking h k a w e clean at).takes.context
  rules_of e at = taken_rules h k d a w e.0 e.1 (taking h k a w e clean at)

  -- ---- an input context whose words stay, apart from the device context that is taken

  module _ (n : ℕ) (good : has_bad_context h k (Some n) ≡ false) (agree : AgreeIn h.context_size k.memory l.memory n)
      (apart : (e : ℕ × ℕ) → taken h k a w ≡ Some e → overlap e.1 (device_context_bytes h.context_size) n (input_context_bytes h.context_size) ≡ false) where
    parts : ContextParts h k n
    parts = context_parts h k n good

    areas : AreaParts h k n (input_context_bytes h.context_size)
    areas = area_parts h k n (input_context_bytes h.context_size) parts.area

    old_apart : (t e : ℕ) → k.device t ≡ Some e → overlap n (input_context_bytes h.context_size) e (device_context_bytes h.context_size) ≡ false
    old_apart t e at = let s = (d.devices t e at).slot in device_apart h k n (input_context_bytes h.context_size) t e areas s.0 s.1 at

    now_clean : (i : ℕ) → i < input_context_bytes h.context_size / 4 → l.soiled (n + 4 * i) ≡ false
    now_clean i low =
        let kept = and_left (k.soiled (n + 4 * i)) (not (n + 4 * i == a)) (clean_word k n (input_context_bytes h.context_size) i parts.clean low) in
        elim (cases_option (taken h k a w)) [
          | inl none ↦ written_soiled_none h k a w none (n + 4 * i) ∙ kept
          | inr some ↦
              written_soiled h k a w some.0 some.1 (n + 4 * i)
              ∙ or_from (is_in (n + 4 * i) some.0.1 (device_context_bytes h.context_size)) (k.soiled (n + 4 * i) && not (n + 4 * i == a))
              (not_in_other some.0.1 (device_context_bytes h.context_size) n (input_context_bytes h.context_size) (n + 4 * i) (apart some.0 some.1) (omega arith) (omega arith)) kept
        ]

    still_good : has_bad_context h l (Some n) ≡ false
    still_good = search (rules, l, context_from, area_from, areas, devices_apart, cases_option, taken, old_apart, written_device_none, at_number, overlap_turned, same_Some, written_device, is_soiled_from, now_clean)

  -- ---- device contexts under lease stay there

  pub device_stays : (s : ℕ) → k.device s ≢ None → l.device s ≢ None
  device_stays s some none = search (rules, l, cases_option, taken, written_device_none, at_number, none-some, written_device)

  taken_is : (s n : ℕ) (bsr : Bool) → command_given h k a w ≡ Some (AddressDevice s bsr n) → k.device s ≡ None → taken h k a w ≡ Some (s, device_named k s)
  unfolding taken_device no_device
  taken_is s n bsr given none = ap (λ o. option_and_then (taken_device k) o) given ∙ ap (λ o. no_device o s (device_named k s)) none

  pub device_now : (s n : ℕ) (bsr : Bool) → command_given h k a w ≡ Some (AddressDevice s bsr n) → l.device s ≢ None
  device_now s n bsr given none =
      elim (cases_option (k.device s)) [
        | inl fresh ↦
            let e : ℕ × ℕ = (s, device_named k s) in
            at_number (λ (o : Option ℕ). o ≡ None → ⊥) k.device s (Some (device_named k s)) s (λ same here. none-some (device_named k s) (sym here)) (λ other before. other refl)
            (ap (λ g. g s) (sym (written_device h k a w (s, device_named k s) (taken_is s n bsr given fresh))) ∙ none)
        | inr some ↦ device_stays s (λ empty. none-some some.0 (sym empty ∙ some.1)) none
      ]

  -- ---- commands

  beside_with : (c : Command) → ((n : ℕ) → named_context c ≡ Some n → AgreeIn h.context_size k.memory l.memory n) →
      ((n : ℕ) → named_context c ≡ Some n → (e : ℕ × ℕ) → taken h k a w ≡ Some e → overlap e.1 (device_context_bytes h.context_size) n (input_context_bytes h.context_size) ≡ false) →
      is_bad_command h k c ≡ false → ((s n : ℕ) (bsr : Bool) → c ≡ AddressDevice s bsr n → l.device s ≢ None) → Beside h k l c
  beside_with c agree apart good device =
      let leaves = write_leaves h k a w in
      let of : (n : ℕ) → named_context c ≡ Some n → has_bad_context h k (Some n) ≡ false = λ n at. ap (λ o. has_bad_context h k o) (sym at) ∙ context_good h k c good in
      record {
        memory = agree;
        context = λ n at. still_good n (of n at) (agree n at) (apart n at);
        slot = λ s at on. ap (λ f. is_disabled (f s)) leaves.slots.slot_state ∙ on;
        off = λ s i at. ap (λ f. is_off (f s i)) leaves.endpoint_state;
        device = device;
      }

  pub beside_old : (p : ℕ) (c : Command) → IsUnfinished h k p c → Beside h k l c
  beside_old p c u =
      let keeps : CommandKeeps h k p c = d.unfinished p c u in
      beside_with c
      (λ n at. word_stays n (input_context_bytes h.context_size) (λ free. context_free h k a 4 free p n c u at))
      (λ n at e some.
      context_free h k e.1 (device_context_bytes h.context_size) (lease_free h k e.1 (device_context_bytes h.context_size) (rules_of e some).free) p n c u at)
      keeps.good (λ s n bsr at. device_stays s (keeps.device s n bsr at))

  -- the context of the command that is given
  given_apart : (p : ℕ) (c : Command) → GivesCommand h k a w p c → (n : ℕ) → named_context c ≡ Some n → (e : ℕ × ℕ) → taken h k a w ≡ Some e →
      overlap e.1 (device_context_bytes h.context_size) n (input_context_bytes h.context_size) ≡ false
  given_apart p c g n at e some =
      let t = taking h k a w e clean some in
      let same : t.command ≡ c = same_Some t.command c (sym t.given ∙ g.command) in
      let context : t.takes.context ≡ n = same_Some t.takes.context n (ap named_context (sym t.takes.command) ∙ ap named_context same ∙ at) in
      ap (λ x. overlap e.1 (device_context_bytes h.context_size) x (input_context_bytes h.context_size)) (sym context) ∙ (rules_of e some).context_apart

  given_word : (p : ℕ) (c : Command) → GivesCommand h k a w p c → is_bad_command h k c ≡ false → (n : ℕ) → named_context c ≡ Some n → (x : ℕ) → n ≤ x →
      x < n + input_context_bytes h.context_size → x ≢ a
  given_word p c g good n at x low high same =
      let writes = gives_is (shape_of h (command_id h)) (k.ring (command_id h)).floor p a w g.gives in
      let inside : is_inside (shape_of h (command_id h)) a ≡ true =
      ap (λ y. is_inside (shape_of h (command_id h)) y) writes.at ∙ address_inside (shape_of h (command_id h)) (ring_shape h is (command_id h) g.ring).is p 12 (omega arith) in
      let context = context_parts h k n (ap (λ o. has_bad_context h k o) (sym at) ∙ context_good h k c good) in
      let outside = not_in_area h (command_id h) a n (input_context_bytes h.context_size) g.ring inside (area_parts h k n (input_context_bytes h.context_size) context.area).rings in
      false≢true (sym outside ∙ and_from (nat_le n a) (nat_lt a (n + input_context_bytes h.context_size)) (le-leb n a (omega arith)) (lt-ltb a (n + input_context_bytes h.context_size) (omega arith)))

  pub beside_new : (p : ℕ) (c : Command) → GivesCommand h k a w p c → is_bad_command h k c ≡ false → Beside h k l c
  beside_new p c g good =
      beside_with c (λ n at x low high. ap (λ f. f x) (written_memory h k a w) ∙ put_elsewhere k.memory a w x (given_word p c g good n at x low high)) (given_apart p c g) good (λ s n bsr at. device_now s n bsr (g.command ∙ ap (λ x. Some x) at))
