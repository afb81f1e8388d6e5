-- A completion keeps what is kept of the commands that stay unfinished
use Rattle.safety.proofs.MiddleLaws.{◌≡◌, ◌≢◌, ◌==◌, if◌then◌else◌, ◌∙◌, ℕ, not, true, false, nat_lt, Option, None, Some, arith, refl, sym, ap, subst, inl, inr, ltb-true, cases_Bool, cond-true, cond-false, or_parts, and_parts, not-false, false≢true, Block, code, slot, Spot, after, Reaches, ceiling, Command, NoOp, EnableSlot, DisableSlot, AddressDevice, ConfigureEndpoint, EvaluateContext, ResetEndpoint, StopEndpoint, SetTrDequeue, ResetDevice, exclude, named_slot, may_answer_slot, is_disabled, can_succeed, Header, Config, IsHeader, shape_of, command_id, register_or_zero, Known, command_at, next_command, on_ring, succeeded, stop_ended, finished, completed, may_be_taken, can_finish, was_stop_seen, is_impossible_completion, IsDriverRing, IsUnfinished, DriverKeeps, CommandsKeep, names_disabled_slot, rules, ring_shape, ceiling_given, AtFloor, at_floor, command_is_ring, completion_same, IsPart, OtherSlots, same_others, both_others, on_others, Concerns, not_both, own_keeps, pair_keeps, commands_stay, changed_slot, changed_part, OfCommand, Commands, of_slot, success_others, named_if_taken, Bool}
use Rattle.safety.proofs.DevicesKeep.TakenDevices.{slot_above, slot_named}
use Rattle.safety.proofs.CommandsKeep.CommandsFinished.{beside_finished, rings_finished, unfinished_before}

-- an Enable Slot succeeds with a slot that was Disabled
enabled_slot : (k : Known) (n : ℕ) → can_succeed k.slot_state k.endpoint_state (register_or_zero k.register Config) n EnableSlot ≡ true → is_disabled (k.slot_state n) ≡ true
unfolding can_succeed
enabled_slot k n can = grind (arith, false≢true)

stop_others : (h : Header) (k x : Known) (s : ℕ) (part : Option (ℕ → Bool)) (B : ℕ → Type 0) (e : Command) → OtherSlots k x s part B → OtherSlots k (stop_ended h x e) s part B
unfolding stop_ended
stop_others h k x s part B (StopEndpoint t i) o = search rules
stop_others h k x s part B _ o = o

module _ (h : Header) (is : IsHeader h) (k : Known) (d : DriverKeeps h k) (b : Block) (e : Command) (here : command_at h k (next_command h k) ≡ Some e) (ends : IsUnfinished h k (next_command h k) e)
    (ring : IsDriverRing h (command_id h)) where
  abbrev l : Known
  l = completed h k b

  -- all that changed is of one slot, or of one endpoint, or a ring that the command names, or the command ring
  finished_others : (s : ℕ) (part : Option (ℕ → Bool)) → OtherSlots k (if code b == 1 then succeeded h k (slot b) e else k) s part (OfCommand h k s part e) →
      OtherSlots k l s part (OfCommand h k s part e)
  unfolding completed finished
  finished_others s part o =
      let m : Known = finished h k b (Some e) in
      let t : Spot = after (shape_of h (command_id h)) (next_command h k) in
      let stopped : OtherSlots k (finished h k b (Some e)) s part (OfCommand h k s part e) =
      stop_others h k (if code b == 1 then succeeded h k (slot b) e else k) s part (OfCommand h k s part e) e o in
      subst (λ x. OtherSlots k (on_ring h (finished h k b x) (command_id h) (Reaches (after (shape_of h (command_id h)) (next_command h k)))) s part (OfCommand h k s part e)) (sym here)
      (both_others s part (OfCommand h k s part e) k m (on_ring h m (command_id h) (Reaches t)) stopped
      (on_others s part (OfCommand h k s part e) h m stopped.within (command_id h) (Reaches t) (Commands refl)))

  -- ---- commands that concern nothing that changed

  named_above : (p : ℕ) (c : Command) (t : ℕ) → IsUnfinished h k p c → named_slot c ≡ Some t → names_disabled_slot k (Some t) ≡ false
  named_above p c t u named = ap (λ o. names_disabled_slot k o) (sym named) ∙ slot_named h k c (d.unfinished p c u).good

  not_zero : (p : ℕ) (c : Command) (t : ℕ) → IsUnfinished h k p c → named_slot c ≡ Some t → t ≢ 0
  not_zero p c t u named same = let above = slot_above h k d t (named_above p c t u named) in absurd (omega arith)

  not_concerned : (f : Command) (n p : ℕ) (c : Command) (t i : ℕ) → can_succeed k.slot_state k.endpoint_state (register_or_zero k.register Config) n f ≡ true → IsUnfinished h k p c →
      exclude k.memory f c ≡ false → Concerns k.memory c t i → t ≡ changed_slot f n → IsPart (changed_part k.memory f) i → ⊥
  unfolding names_disabled_slot
  not_concerned NoOp n p c t i can u apart its same part = not_zero p c t u its.0 same
  not_concerned EnableSlot n p c t i can u apart its same part =
      false≢true (sym ((named_above p c t u its.0)) ∙ ap (λ x. is_disabled (k.slot_state x)) same ∙ enabled_slot k n can)
  not_concerned (DisableSlot s) n p c t i can u apart its same part = not_both k.memory (DisableSlot s) c t i apart (ap (λ x. Some x) (sym same), refl) its
  not_concerned (AddressDevice s bsr x) n p c t i can u apart its same part = not_both k.memory (AddressDevice s bsr x) c t i apart (ap (λ x. Some x) (sym same), refl) its
  not_concerned (ConfigureEndpoint s dc x) n p c t i can u apart its same part = not_both k.memory (ConfigureEndpoint s dc x) c t i apart (ap (λ x. Some x) (sym same), part) its
  not_concerned (EvaluateContext s x) n p c t i can u apart its same part = not_both k.memory (EvaluateContext s x) c t i apart (ap (λ x. Some x) (sym same), part) its
  not_concerned (ResetEndpoint s j) n p c t i can u apart its same part = not_both k.memory (ResetEndpoint s j) c t i apart (ap (λ x. Some x) (sym same), part) its
  not_concerned (StopEndpoint s j) n p c t i can u apart its same part = not_both k.memory (StopEndpoint s j) c t i apart (ap (λ x. Some x) (sym same), part) its
  not_concerned (SetTrDequeue s j x cycle) n p c t i can u apart its same part = not_both k.memory (SetTrDequeue s j x cycle) c t i apart (ap (λ x. Some x) (sym same), part) its
  not_concerned (ResetDevice s) n p c t i can u apart its same part = not_both k.memory (ResetDevice s) c t i apart (ap (λ x. Some x) (sym same), refl) its

  -- what the command changed when it ended: no other unfinished command concerns any of it
  pub record Changed : Type 0 where
    pub slot : ℕ
    pub part : Option (ℕ → Bool)
    pub others : OtherSlots k l slot part (OfCommand h k slot part e)
    pub apart : (p : ℕ) (c : Command) (t i : ℕ) → IsUnfinished h k p c → p ≢ next_command h k → Concerns k.memory c t i → t ≡ slot → IsPart part i → ⊥

  pub changed_by_code : (if code b == 1 then can_succeed k.slot_state k.endpoint_state (register_or_zero k.register Config) (slot b) e else not (was_stop_seen k e)) ≡ true → Changed
  changed_by_code may =
      elim (cases_Bool (code b == 1)) [
        | inl success ↦
            let can = sym (cond-true (code b == 1) (can_succeed k.slot_state k.endpoint_state (register_or_zero k.register Config) (slot b) e) (not (was_stop_seen k e)) success) ∙ may in
            let s : ℕ = changed_slot e (slot b) in
            record {
              slot = s;
              part = changed_part k.memory e;
              others = finished_others s (changed_part k.memory e)
                  (subst (λ x. OtherSlots k x s (changed_part k.memory e) (OfCommand h k s (changed_part k.memory e) e)) (sym (cond-true (code b == 1) (succeeded h k (slot b) e) k success))
                  (success_others h k (slot b) e (d.unfinished (next_command h k) e ends).moves_on));
              apart = λ p c t i u other. not_concerned e (slot b) p c t i can u ((d.unfinished p c u).alone (next_command h k) e ends (λ same. other (sym same)));
            }
        | inr fails ↦
            record {
              slot = 0;
              part = None;
              others = finished_others 0 None
                  (subst (λ x. OtherSlots k x 0 None (OfCommand h k 0 None e)) (sym (cond-false (code b == 1) (succeeded h k (slot b) e) k fails))
                  (same_others 0 None (OfCommand h k 0 None e) k (of_slot h k 0 None e)));
              apart = λ p c t i u other its same part. not_zero p c t u its.0 same;
            }
      ]

  -- ---- the commands that stay

  staying : Changed → CommandsKeep h l
  staying c =
      let before = unfinished_before h is k d b ring in
      let driver = completion_same h k b in
      commands_stay h k l (λ p f u. own_keeps h k p f (d.unfinished p f (before p f u).0))
      (λ p q f g u v other. pair_keeps h k p q f g (d.unfinished p f (before p f u).0) (before q g v).0 other)
      (λ p f u. (d.unfinished p f (before p f u).0).restored)
      (λ p f u. let was = before p f u in
      beside_finished h is k d (next_command h k) e ends c.slot c.part l driver c.others p f was.0 was.1 (λ t i its. c.apart p f t i was.0 was.1 its))
      (λ p f u. let was = before p f u in
      rings_finished h is k d (next_command h k) e ends c.slot c.part l driver c.others p f was.0 was.1 (λ t i its. c.apart p f t i was.0 was.1 its))

module _ (h : Header) (is : IsHeader h) (k : Known) (d : DriverKeeps h k) (b : Block) where
  pub may_answer : (o : Option Command) → can_finish k b o ≡ true → (e : Command) × (o ≡ Some e)
      × ((if code b == 1 then can_succeed k.slot_state k.endpoint_state (register_or_zero k.register Config) (slot b) e else not (was_stop_seen k e)) ≡ true)
  unfolding can_finish
  may_answer o can = grind (arith, false≢true, and_parts, may_answer_slot, slot)

  -- the command that ends
  record Ending : Type 0 where
    pub command : Command
    pub here : command_at h k (next_command h k) ≡ Some command
    pub unfinished : IsUnfinished h k (next_command h k) command
    pub ring : IsDriverRing h (command_id h)
    pub may : (if code b == 1 then can_succeed k.slot_state k.endpoint_state (register_or_zero k.register Config) (slot b) command else not (was_stop_seen k command)) ≡ true

  ending : k.started ≡ true → is_impossible_completion h k b ≡ false → Ending
  unfolding is_impossible_completion may_be_taken
  ending on possible =
      let three = or_parts _ (not (can_finish k b (command_at h k (next_command h k)))) possible in
      let two = or_parts _ (code b == 0) three.0 in
      let one = or_parts (not (nat_lt (next_command h k) (ceiling (shape_of h (command_id h)) (k.ring (command_id h))))) _ two.0 in
      let below = ltb-true (next_command h k) (ceiling (shape_of h (command_id h)) (k.ring (command_id h)))
      (not-false (nat_lt (next_command h k) (ceiling (shape_of h (command_id h)) (k.ring (command_id h)))) one.0) in
      let ring : IsDriverRing h (command_id h) = command_is_ring h k d (named_if_taken h k d on below) in
      let high = ceiling_given (shape_of h (command_id h)) (ring_shape h is (command_id h) ring).is k.memory (k.ring (command_id h)) (d.rings (command_id h) ring) in
      let floor : AtFloor h k = at_floor h is k d ring (omega arith) in
      let answer = may_answer (command_at h k (next_command h k)) (not-false (can_finish k b (command_at h k (next_command h k))) three.1) in
      record { command = answer.0; here = answer.1; unfinished = record { due = floor.due; given = floor.given; command = answer.1 }; ring = ring; may = answer.2 }

  pub completion_commands : k.started ≡ true → is_impossible_completion h k b ≡ false → CommandsKeep h (completed h k b)
  completion_commands on possible =
      let e : Ending = ending on possible in
      staying h is k d b e.command e.here e.unfinished e.ring (changed_by_code h is k d b e.command e.here e.unfinished e.ring e.may)

  -- no device context comes under lease
  pub completion_devices : k.started ≡ true → is_impossible_completion h k b ≡ false → (t c : ℕ) → (completed h k b).device t ≡ Some c → k.device t ≡ Some c
  completion_devices on possible =
      let e : Ending = ending on possible in
      (changed_by_code h is k d b e.command e.here e.unfinished e.ring e.may).others.fewer
