-- What is known behind a write: the word, what it gives, and the device context that it takes
use Rattle.safety.proofs.LowerLaws.{◌≡◌, ◌<◌, ◌==◌, ◌&&◌, ◌||◌, ◌⊎◌, ◌∙◌, ℕ, not, true, false, Contains, Option, None, Some, option_and_then, slice_get, unwrap_or, arith, sym, ap, inl, inr, rules, cases_Bool, cond_both, or_cases, false≢true, mod_below, none-some, same_Some, put, Block, kind, slot, is_command_left_out, is_in, RingView, Writes, changed, is_due, gives, positions_given, position_given, positions_given-one, Command, command_of, command_by_kind, named_slot, device_context_bytes, Header, Write, IsHeader, shape_of, command_id, Known, learned, command_at, with_device, with_word, written, taken_device, command_given, IsDriverRing, IsUnfinished, ring_shape, due_has_ring}

-- ---- a command names a slot below 256

slot_or : Option Command → ℕ
slot_or None = 0
slot_or (Some c) = unwrap_or (named_slot c) 0

pub slot_low : (b : Block) → slot b < 256
slot_low b = mod_below _ 256 (omega arith)

pub command_slot_low : (b : Block) (c : Command) (s : ℕ) → command_of b ≡ Some c → named_slot c ≡ Some s → s < 256
unfolding slot_or
command_slot_low b c s of is =
    let low : slot_or (command_of b) < 256 =
    cond_both (is_command_left_out b) None (command_by_kind (kind b) b) (λ o. slot_or o < 256) (λ out. omega arith) (λ here. (grind (arith, slot_low))) in
    omega (arith, low, ap slot_or of, ap (λ o. unwrap_or o 0) is)

module _ (h : Header) (k : Known) (a w : ℕ) where
  abbrev pub after_write : Known
  after_write = learned h k (Write a w)

  -- the device context that the write takes, by its slot and its address
  abbrev pub taken : Option (ℕ × ℕ)
  taken = option_and_then (taken_device k) (command_given h k a w)

  kept_by_device : (m : Known) (o : Option (ℕ × ℕ)) → ((with_device h m o).ring ≡ m.ring) × ((with_device h m o).memory ≡ m.memory)
  unfolding with_device
  kept_by_device m o = grind arith

  pub written_ring : (q : ℕ) → after_write.ring q ≡ changed (shape_of h q) (k.ring q) (Writes a w)
  unfolding learned written with_word
  written_ring q = ap (λ f. f q) (kept_by_device (with_word h k a w) taken).0

  pub written_memory : after_write.memory ≡ put k.memory a w
  unfolding learned written with_word
  written_memory = (kept_by_device (with_word h k a w) taken).1

  pub written_device_none : taken ≡ None → after_write.device ≡ k.device
  unfolding learned written with_word with_device
  written_device_none none = grind (arith, none-some)

  pub written_device : (e : ℕ × ℕ) → taken ≡ Some e → after_write.device ≡ put k.device e.0 (Some e.1)
  unfolding learned written with_word with_device
  written_device e some = grind (arith, none-some, put, (with_word h k a w).device, same_Some)

  pub written_soiled : (e : ℕ × ℕ) → taken ≡ Some e → (x : ℕ) → after_write.soiled x ≡ (is_in x e.1 (device_context_bytes h.context_size) || (k.soiled x && not (x == a)))
  unfolding learned written with_word with_device
  written_soiled e some x = grind (arith, none-some, is_in, device_context_bytes, (with_word h k a w).soiled, same_Some)

  soiled_none : (m : Known) (o : Option (ℕ × ℕ)) → o ≡ None → (with_device h m o).soiled ≡ m.soiled
  unfolding with_device
  soiled_none m o none = grind (arith, none-some)

  pub written_soiled_none : taken ≡ None → (x : ℕ) → after_write.soiled x ≡ (k.soiled x && not (x == a))
  unfolding learned written with_word
  written_soiled_none none x = ap (λ f. f x) (soiled_none (with_word h k a w) taken none)

  -- ---- what is unfinished

  -- the write gives position p of the command ring, with this command
  pub record GivesCommand (p : ℕ) (c : Command) : Type 0 where
    pub ring : IsDriverRing h (command_id h)
    pub fresh : (k.ring (command_id h)).given p ≡ false
    pub gives : gives (shape_of h (command_id h)) (k.ring (command_id h)).floor p a w ≡ true
    pub command : command_given h k a w ≡ Some c

  module _ (is : IsHeader h) where
    one_given : (p : ℕ) (c : Command) → IsDriverRing h (command_id h) → Contains (positions_given (shape_of h (command_id h)) (k.ring (command_id h)) a w) p → command_at h k p ≡ Some c →
        command_given h k a w ≡ Some c
    unfolding command_given
    one_given p c ring here at = search (rules, positions_given-one, ring_shape, option_and_then, slice_get)

    pub unfinished_written : (p : ℕ) (c : Command) → IsUnfinished h after_write p c → IsUnfinished h k p c ⊎ GivesCommand p c
    unfolding command_at
    unfinished_written p c u =
        let v : RingView = k.ring (command_id h) in
        let same = written_ring (command_id h) in
        let due = ap (λ (x : RingView). is_due (shape_of h (command_id h)) x.floor p) (sym same) ∙ u.due in
        let command = ap (λ (x : RingView). option_and_then command_of (slice_get x.queue p)) (sym same) ∙ u.command in
        let given = ap (λ (x : RingView). x.given p) (sym same) ∙ u.given in
        elim (cases_Bool (v.given p)) [
          | inl before ↦ inl (record { due = due; given = before; command = command })
          | inr fresh ↦
              let ring = due_has_ring h is (k.ring (command_id h)).floor p due in
              let now : gives (shape_of h (command_id h)) (k.ring (command_id h)).floor p a w ≡ true =
              elim (or_cases (v.given p) (gives (shape_of h (command_id h)) v.floor p a w) given) [ inl old ↦ absurd (false≢true (sym fresh ∙ old)) | inr new ↦ new ] in
              inr (record {
                ring = ring;
                fresh = fresh;
                gives = now;
                command = one_given p c ring (position_given (shape_of h (command_id h)) (k.ring (command_id h)) a w p fresh now) command;
              })
        ]
