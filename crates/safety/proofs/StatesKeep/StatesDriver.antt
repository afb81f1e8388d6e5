-- Declarations, writes of memory and of registers keep what is known of states
use Rattle.safety.proofs.MiddleLaws.{[], ◌≡◌, ◌≢◌, ◌≤◌, ◌⊎◌, ◌∙◌, ℕ, List, Option, None, Some, option_and_then, slice_get, arith, refl, sym, ap, subst, inl, inr, ne_eqb, rules, cond-false, or_parts, false≢true, none-some, slice_get_within, Block, Shape, RingView, Declares, Writes, changed, floor_number, ceiling, cases_option, slice_get-append, given_count-writes, ceiling_held, Command, SlotState, Disabled, Enabled, Configured, command_of, Header, Register, Sub, Write, Reg, IsHeader, shape_of, command_id, Known, command_at, with_device, with_word, written, command_given, taken_device, learned, names_disabled_slot, is_bad_command, lenient, StatesKeep, DriverKeeps, ceiling_declares, endpoints_of, view_after, next_is, SlotsStand, StopsNext, endpoints_part, slots_part, seen_part, from_parts, endpoints_same, slots_same, seen_same, DeclarationLeaves, WriteLeaves, RegisterLeaves, declaration_leaves, write_leaves, written_view, register_leaves, RegRead, StatusLeaves, status_leaves}
use Rattle.safety.proofs.StatesKeep.EndpointHistories.{row_keeps}
use Rattle.segments.proofs.Named.{ceiling_open}
use Rattle.safety.proofs.RunKeeps.KeptClean.{CleanTaking, taking}

-- the next command stays where it is, and no fewer may be finished
pub record ViewGoesOn (shape : Shape) (v w : RingView) : Type 0 where
  pub floor : floor_number w ≡ floor_number v
  pub ceiling : ceiling shape v ≤ ceiling shape w
  pub queue : (p : ℕ) (d : Block) → slice_get v.queue p ≡ Some d → slice_get w.queue p ≡ Some d

pub view_same : (shape : Shape) (v w : RingView) → w ≡ v → ViewGoesOn shape v w
view_same shape v w same = search (rules, ceiling)

view_writes : (shape : Shape) (v : RingView) (a w : ℕ) → ViewGoesOn shape v (changed shape v (Writes a w))
view_writes shape v a w = record {
  floor = refl;
  ceiling =
      elim (cases_option v.held) [
        | inl none ↦ omega (arith, ceiling_open shape v none, ceiling_open shape (changed shape v (Writes a w)) none, given_count-writes shape (λ x. 0) v a w)
        | inr some ↦ omega (arith, ceiling_held shape v some.0 some.1, ceiling_held shape (changed shape v (Writes a w)) some.0 some.1)
      ];
  queue = λ p d at. at;
}

module _ (h : Header) where
  command_by : (o : Option Block) (c : Command) → option_and_then command_of o ≡ Some c → (d : Block) × (o ≡ Some d) × (command_of d ≡ Some c)
  command_by o c at = grind (arith, none-some)

  command_stays : (k l : Known) → ViewGoesOn (shape_of h (command_id h)) (k.ring (command_id h)) (l.ring (command_id h)) → (p : ℕ) (c : Command) → command_at h k p ≡ Some c → command_at h l p ≡ Some c
  unfolding command_at
  command_stays k l goes p c at =
      let found = command_by (slice_get (k.ring (command_id h)).queue p) c at in
      ap (λ o. option_and_then command_of o) (goes.queue p found.0 found.1) ∙ found.2

  pub stops_on : (k l : Known) → ViewGoesOn (shape_of h (command_id h)) (k.ring (command_id h)) (l.ring (command_id h)) → (s i : ℕ) → StopsNext h k s i → StopsNext h l s i
  stops_on k l goes s i stops = search (rules, next_is, command_stays)

  declared_view : (k : Known) (r : ℕ) (blocks : List Block) → ViewGoesOn (shape_of h (command_id h)) (k.ring (command_id h)) ((learned h k (Sub r blocks)).ring (command_id h))
  unfolding learned
  declared_view k r blocks =
      view_after h (ViewGoesOn (shape_of h (command_id h)) (k.ring (command_id h))) k r (Declares blocks) (command_id h)
      (λ same. subst (λ n. ViewGoesOn (shape_of h (command_id h)) (k.ring (command_id h)) (changed (shape_of h n) (k.ring n) (Declares blocks))) same
      (search (rules, ceiling_declares, slice_get-append, slice_get_within)))
      (λ other. view_same (shape_of h (command_id h)) (k.ring (command_id h)) (k.ring (command_id h)) refl)

  -- ---- a declaration

  pub states_declared : IsHeader h → (k : Known) (r : ℕ) (blocks : List Block) → DriverKeeps h k → StatesKeep h (learned h k (Sub r blocks))
  states_declared is k r blocks d =
      let l : Known = learned h k (Sub r blocks) in
      let same : DeclarationLeaves k l = declaration_leaves h k r blocks in
      let held : (q : ℕ) → (l.ring q).held ≡ (k.ring q).held = λ q. (same.pointers q).held in
      from_parts h l (row_keeps h is k (Sub r blocks) (endpoints_of h k d.states)) (endpoints_same k l same.slots.ring_of same.endpoint_state held (endpoints_part h k d.states))
      (slots_same k l same.slots.slot_state same.slots.ring_of same.memory.device (slots_part h k d.states))
      (seen_same h k l same.slots.stop_seen same.endpoint_state same.slots.ring_of held (stops_on k l (declared_view k r blocks)) (seen_part h k d.states))

  -- ---- a register write

  pub states_registered : IsHeader h → (k : Known) (r : Register) (x : ℕ) → DriverKeeps h k → StatesKeep h (learned h k (Reg r x))
  states_registered is k r x d =
      let l : Known = learned h k (Reg r x) in
      let same : RegisterLeaves k l = register_leaves h k r x in
      let held : (q : ℕ) → (l.ring q).held ≡ (k.ring q).held = λ q. ap (λ f. (f q).held) same.ring in
      from_parts h l (row_keeps h is k (Reg r x) (endpoints_of h k d.states)) (endpoints_same k l same.slots.ring_of same.endpoint_state held (endpoints_part h k d.states))
      (slots_same k l same.slots.slot_state same.slots.ring_of same.memory.device (slots_part h k d.states))
      (seen_same h k l same.slots.stop_seen same.endpoint_state same.slots.ring_of held
      (stops_on k l (view_same (shape_of h (command_id h)) (k.ring (command_id h)) (l.ring (command_id h)) (ap (λ f. f (command_id h)) same.ring))) (seen_part h k d.states))

  pub states_status : IsHeader h → (k : Known) (r : Register) (x : ℕ) → DriverKeeps h k → StatesKeep h (learned h k (RegRead r x))
  states_status is k r x d =
      let l : Known = learned h k (RegRead r x) in
      let same : StatusLeaves k l = status_leaves h k r x in
      let held : (q : ℕ) → (l.ring q).held ≡ (k.ring q).held = λ q. ap (λ f. (f q).held) same.ring in
      from_parts h l (row_keeps h is k (RegRead r x) (endpoints_of h k d.states)) (endpoints_same k l same.slots.ring_of same.endpoint_state held (endpoints_part h k d.states))
      (slots_same k l same.slots.slot_state same.slots.ring_of same.memory.device (slots_part h k d.states))
      (seen_same h k l same.slots.stop_seen same.endpoint_state same.slots.ring_of held
      (stops_on k l (view_same (shape_of h (command_id h)) (k.ring (command_id h)) (l.ring (command_id h)) (ap (λ f. f (command_id h)) same.ring))) (seen_part h k d.states))

  -- ---- a write of memory

  no_more : (k : Known) (a w s : ℕ) → ((e : ℕ × ℕ) → option_and_then (taken_device k) (command_given h k a w) ≡ Some e → s ≢ e.0) → (learned h k (Write a w)).device s ≡ k.device s
  unfolding learned written with_device with_word
  no_more k a w s others = grind (arith, cond-false, k.device, ne_eqb)

  written_slots : (k : Known) (a w : ℕ) → lenient h k (Write a w) ≡ [] → SlotsStand k → SlotsStand (learned h k (Write a w))
  unfolding is_bad_command names_disabled_slot
  written_slots k a w clean e =
      let l : Known = learned h k (Write a w) in
      let same : WriteLeaves k l = write_leaves h k a w in record {
        no_slot = ap (λ f. f 0) same.slots.slot_state ∙ e.no_slot;
        each = λ s. record {
          slots = λ i r at.
              subst (λ (f : ℕ → SlotState). (f s ≢ Disabled) × (f s ≢ Enabled) × ((i ≡ 1) ⊎ (f s ≡ Configured))) (sym same.slots.slot_state)
              ((e.each s).slots i r (ap (λ f. f s i) (sym same.slots.ring_of) ∙ at));
          first =
              subst (λ (f : ℕ → SlotState). (f s ≡ Disabled) ⊎ (f s ≡ Enabled) ⊎ (l.ring_of s 1 ≢ None)) (sym same.slots.slot_state)
              (subst (λ (f : ℕ → ℕ → Option ℕ). (k.slot_state s ≡ Disabled) ⊎ (k.slot_state s ≡ Enabled) ⊎ (f s 1 ≢ None)) (sym same.slots.ring_of) (e.each s).first);
          no_device = λ disabled.
              let before : k.slot_state s ≡ Disabled = ap (λ f. f s) (sym same.slots.slot_state) ∙ disabled in
              no_more k a w s (λ t takes here.
              let taken : CleanTaking h k a w t.0 t.1 = taking h k a w t clean takes in
              search (rules, or_parts, false≢true))
              ∙ (e.each s).no_device before;
        };
      }

  pub states_written : IsHeader h → (k : Known) (a w : ℕ) → DriverKeeps h k → lenient h k (Write a w) ≡ [] → StatesKeep h (learned h k (Write a w))
  states_written is k a w d clean =
      let l : Known = learned h k (Write a w) in
      let same : WriteLeaves k l = write_leaves h k a w in
      let held : (q : ℕ) → (l.ring q).held ≡ (k.ring q).held = λ q. (same.pointers q).held in
      from_parts h l (row_keeps h is k (Write a w) (endpoints_of h k d.states)) (endpoints_same k l same.slots.ring_of same.endpoint_state held (endpoints_part h k d.states))
      (written_slots k a w clean (slots_part h k d.states))
      (seen_same h k l same.slots.stop_seen same.endpoint_state same.slots.ring_of held
      (stops_on k l (subst (λ v. ViewGoesOn (shape_of h (command_id h)) (k.ring (command_id h)) v) (sym (written_view h k a w (command_id h)))
      (view_writes (shape_of h (command_id h)) (k.ring (command_id h)) a w))) (seen_part h k d.states))
