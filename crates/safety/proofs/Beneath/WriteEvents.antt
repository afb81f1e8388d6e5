-- A write that gives no command leaves what an event reads, so that the event stays possible and does the same
use Rattle.safety.proofs.MiddleLaws.{spot_same, add_flag_same, type_same, typed_by_context, [], ◌≡◌, ◌<◌, ◌&&◌, ◌∷◌, ◌∙◌, ℕ, true, false, map, nat_le, None, Some, option_and_then, arith, refl, ap, subst, ltb-true, fun_ext, put, Block, ceiling, writes_more, Command, AddressDevice, ConfigureEndpoint, Running, named_context, SlotGoesOn, Disables, Places, changes, placed_by_context, ContextSize, added_endpoints, is_dropped, context_pointer, context_cycle, Header, Write, Read, IsHeader, shape_of, command_id, Known, command_at, next_command, with_device, with_word, written, taken_device, command_given, learned, may_be_taken, lenient, DriverKeeps, IsUnfinished, rules, AgreeIn, map_same, added_indices, added_same, drop_flag_same, pointer_same, cycle_same, written_memory, Alike, held_same}
use Rattle.safety.proofs.RingsKeep.KeptRings.{next_unfinished}
use Rattle.safety.proofs.CommandsKeep.WriteBeside.{beside_old}
use Rattle.safety.proofs.AlikeEvents.AlikeEvents.{EventAlike, ReadAlike, read_alike}
use Rattle.safety.proofs.AlikeEvents.HeldFurther.{EverySlot, command_same, targets_are}

-- ---- what a success does is read of the input context

module _ (size : ContextSize) (f g : ℕ → ℕ) where
  placed_agree : (s x i : ℕ) → AgreeIn size f g x → i < 32 → placed_by_context size g s x i ≡ placed_by_context size f s x i
  placed_agree s x i same low =
      ap (λ p. Places s i p (context_cycle size g x i) Running) (pointer_same size f g x same i low)
      ∙ ap (λ c. Places s i (context_pointer size f x i) c Running) (cycle_same size f g x same i low)

  dropped_agree : (x : ℕ) → AgreeIn size f g x → is_dropped g x ≡ is_dropped f x
  dropped_agree x same = fun_ext (λ i. ap (λ b. nat_le 2 i && b) (drop_flag_same size f g x same i))

  types_agree : (s x : ℕ) → AgreeIn size f g x → typed_by_context size g s x ≡ typed_by_context size f s x
  types_agree s x same = grind (arith, add_flag_same, type_same)

  pub changes_agree : (n : ℕ) (c : Command) → ((x : ℕ) → named_context c ≡ Some x → AgreeIn size f g x) → changes size g n c ≡ changes size f n c
  unfolding changes
  changes_agree n (AddressDevice s bsr x) same = ap (λ p. SlotGoesOn s ∷ p ∷ []) (placed_agree s x 1 (same x refl) (omega arith))
  changes_agree n (ConfigureEndpoint s false x) same =
      let here : AgreeIn size f g x = same x refl in
      ap (λ t. SlotGoesOn s ∷ t ∷ Disables s (is_dropped g x) ∷ map (placed_by_context size g s x) (added_endpoints g x)) (types_agree s x here)
      ∙ ap (λ t. SlotGoesOn s ∷ typed_by_context size f s x ∷ Disables s t ∷ map (placed_by_context size g s x) (added_endpoints g x)) (dropped_agree x here)
      ∙ ap (λ xs. SlotGoesOn s ∷ typed_by_context size f s x ∷ Disables s (is_dropped f x) ∷ map (placed_by_context size g s x) xs) (added_same size f g x here)
      ∙ ap (λ all. SlotGoesOn s ∷ typed_by_context size f s x ∷ Disables s (is_dropped f x) ∷ all)
      (map_same (placed_by_context size g s x) (placed_by_context size f s x) (added_endpoints f x) (added_indices f x) (λ i low. placed_agree s x i here low))
  changes_agree n _ same = refl

-- ---- the write

-- where no command is given no device context is taken
pub written_word : (h : Header) (k : Known) (a w : ℕ) → command_given h k a w ≡ None → learned h k (Write a w) ≡ with_word h k a w
unfolding learned written with_device
written_word h k a w none = ap (λ o. with_device h (with_word h k a w) (option_and_then (taken_device k) o)) none

module _ (h : Header) (k : Known) (a w : ℕ) where
  pub word_alike : Alike EverySlot k (with_word h k a w)
  unfolding with_word
  word_alike = search (rules, held_same, writes_more)

  module _ (is : IsHeader h) (d : DriverKeeps h k) (clean : lenient h k (Write a w) ≡ []) (started : k.started ≡ true) where
    taken_below : may_be_taken h k ≡ true → next_command h k < ceiling (shape_of h (command_id h)) (k.ring (command_id h))
    unfolding may_be_taken
    taken_below may = ltb-true (next_command h k) (ceiling (shape_of h (command_id h)) (k.ring (command_id h))) may

    context_agrees : (c : Command) → may_be_taken h k ≡ true → command_at h k (next_command h k) ≡ Some c → (x : ℕ) → named_context c ≡ Some x → AgreeIn h.context_size k.memory (put k.memory a w) x
    context_agrees c may at x named =
        let u : IsUnfinished h k (next_command h k) c = next_unfinished h is k d started (taken_below may) c at in
        subst (λ m. AgreeIn h.context_size k.memory m x) (written_memory h k a w) ((beside_old h is k d a w clean (next_command h k) c u).memory x named)

    word_events : EventAlike h k (with_word h k a w)
    unfolding with_word
    word_events = record {
      started = refl;
      stopped = refl;
      reads = refl;
      room = omega arith;
      config = refl;
      names = λ e r t has below at. spot_same h k (with_word h k a w) e r refl refl ∙ at;
      command = record {
        command = λ c may at. command_same h k (with_word h k a w) (next_command h k) refl ∙ at;
        does = λ n c may at. changes_agree h.context_size k.memory (put k.memory a w) n c (context_agrees c may at);
        targets = λ n c may at. targets_are h EverySlot c k (with_word h k a w) word_alike (λ q. refl) (changes h.context_size k.memory n c);
      };
    }

    pub word_read : (e : Block) → lenient h k (Read e) ≡ [] → ReadAlike h EverySlot k (with_word h k a w) e
    word_read e may = read_alike h EverySlot k (with_word h k a w) word_alike word_events e may
