-- A Command Completion Event keeps what is known of states
use Rattle.safety.proofs.MiddleLaws.{typed, typed_by_context, [], ◌≡◌, ◌==◌, if◌then◌else◌, ◌∙◌, ℕ, true, Option, None, Some, refl, sym, ap, cond_both, cond-true, and_parts, false≢true, same_Some, Block, code, slot, Spot, after, Reaches, Command, StopEndpoint, may_answer_slot, changes, Header, Config, IsHeader, shape_of, command_id, register_or_zero, Known, on_ring, command_at, next_command, succeeded, stop_ended, finished, completed, can_finish, CommandKeeps, DriverKeeps, ◌∷◌, Bool, List, rules, target, Stopped, is_off, Change, Places, Stops, ring_having, set_to, bound_to, moved_to, moved, pointed, disabled, in_state, held_at_ceiling, changed_by, changed_by_all, ◌≢◌, false, inl, inr, NoOp, EnableSlot, DisableSlot, AddressDevice, ConfigureEndpoint, EvaluateContext, ResetEndpoint, SetTrDequeue, ResetDevice, named_slot, Resets, RingsKeep, StillHolds, EndpointsKeep, ◌&&◌, nat_le, nat_lt, map, subst, eq-eqb, leb-false, ltb-true, cond-false, and_from, and_right, none-some, EndpointState, Off, Running, SlotGoesOn, DeviceLeft, Disables, placed_by_context, is_above_control, added_endpoints, is_dropped, context_pointer, context_cycle, is_bad_command, arith, endpoints_of, rings_of, view_after, SeenStand, endpoints_part, slots_part, seen_part, endpoints_same, slots_same, EndpointsStand, SlotsStand, SlotStands, at_pair, IsPlaced, placed_is, pointed_on, on_is, some_ring, GetsRing, stops_slot, resets_slot, placed_leaves, SameSlot, placed_of_slot, placed_all, RestsThere, changes_stand, slot_deconfigured, slot_reset, state_after, slot_enabled, slot_disabled, slot_addressed, slot_configured, cases_eq, fun_ext}
use Rattle.safety.proofs.Behind.SlotFrames.{changes_elsewhere, KeepsRings}
use Rattle.safety.proofs.RingsKeep.KeptRings.{CompletionFacts, next_unfinished, command_holds}
use Rattle.safety.proofs.StatesKeep.StatesFit.{Succeeds, succeeds_is, moving_rests, slot_there, no_slot_zero, success_fits}
use Rattle.safety.proofs.StatesKeep.StatesTransfer.{PartsStand}

pub slots_as : (k l : Known) → SlotsStand k → ((t : ℕ) → SameSlot k l t) → SlotsStand l
slots_as k l was same = search (rules)

-- all slots but one are as they were
but_one : (k l : Known) (s : ℕ) → s ≢ 0 → SlotsStand k → ((t : ℕ) → t ≢ s → SameSlot k l t) → SlotStands (l.slot_state s) (l.ring_of s) (l.device s) → SlotsStand l
but_one k l s slot was others here = record {
  no_slot = (others 0 (λ e. slot (sym e))).state ∙ was.no_slot;
  each = λ t. elim (cases_eq t s) [
    | inl same ↦ subst (λ n. SlotStands (l.slot_state n) (l.ring_of n) (l.device n)) (sym same) here
    | inr apart ↦ let o = others t apart in record_of t o (was.each t)
  ];
}
  where
    record_of : (t : ℕ) → SameSlot k l t → SlotStands (k.slot_state t) (k.ring_of t) (k.device t) → SlotStands (l.slot_state t) (l.ring_of t) (l.device t)
    record_of t o stands =
        subst (λ x. SlotStands x (l.ring_of t) (l.device t)) (sym o.state)
        (subst (λ x. SlotStands (k.slot_state t) x (l.device t)) (sym (fun_ext o.rings)) (subst (λ x. SlotStands (k.slot_state t) (k.ring_of t) x) (sym o.device) stands))

off_runs : {x : EndpointState} → x ≡ Off → x ≡ Running → ⊥
off_runs a b = cc

-- endpoint 1 stays where those above it are disabled, or some of them
first_stays : (s : ℕ) (drops : Bool) (o : Option ℕ) → drops ≡ false → o ≢ None → (if s == s && drops then None else o) ≢ None
first_stays s drops o not has none = has (sym (cond-false (s == s && drops) None o (and_right (s == s) drops not)) ∙ none)

only_first : (s i r : ℕ) (o : Option ℕ) → (i ≡ 0 → o ≡ None) → (if s == s && nat_le 2 i then None else o) ≡ Some r → i ≡ 1
only_first s i r o zero at = search (rules, nat_le, none-some, cond-true, and_from, eq-eqb, cond-false, and_right, leb-false)

module _ (h : Header) (k : Known) (was : SlotsStand k) (e : EndpointsStand k) where
  slot_goes : (c : Command) (s : ℕ) → (changed_by h c k (SlotGoesOn s)).slot_state s ≡ state_after c (k.slot_state s)
  unfolding changed_by
  slot_goes c s = cond-true (s == s) (state_after c (k.slot_state s)) (k.slot_state s) (eq-eqb s s refl)

  pub enabled_slots : (config n : ℕ) → Succeeds k.slot_state k.endpoint_state config n EnableSlot → SlotsStand (changed_by_all h EnableSlot k (SlotGoesOn n ∷ []))
  unfolding changed_by_all changed_by
  enabled_slots config n may = search (rules, ltb-true, and_parts, nat_lt, but_one, changes_elsewhere, slot_goes, slot_enabled)

  pub disabled_slots : (config n s : ℕ) → s ≢ 0 → Succeeds k.slot_state k.endpoint_state config n (DisableSlot s) →
      SlotsStand (changed_by_all h (DisableSlot s) k (SlotGoesOn s ∷ DeviceLeft s ∷ Disables s (λ i. true) ∷ []))
  unfolding changed_by_all changed_by disabled typed
  disabled_slots config n s slot may =
      search (rules, changed_by_all, but_one, slot, changes_elsewhere, slot_goes, slot_disabled, cond-true, and_from, eq-eqb)

  pub addressed_slots : (config n s a : ℕ) (bsr : Bool) → s ≢ 0 → Succeeds k.slot_state k.endpoint_state config n (AddressDevice s bsr a) →
      EndpointsStand (changed_by_all h (AddressDevice s bsr a) k (SlotGoesOn s ∷ placed_by_context h.context_size k.memory s a 1 ∷ [])) →
      SlotsStand (changed_by_all h (AddressDevice s bsr a) k (SlotGoesOn s ∷ placed_by_context h.context_size k.memory s a 1 ∷ []))
  unfolding changed_by_all changed_by
  addressed_slots config n s a bsr slot may after =
      let c : Command = AddressDevice s bsr a in
      let p : ℕ = context_pointer h.context_size k.memory a 1 in
      let cycle : Bool = context_cycle h.context_size k.memory a 1 in
      let m : Known = changed_by h c k (SlotGoesOn s) in
      let l : Known = changed_by h c m (Places s 1 p cycle Running) in
      let gets : GetsRing m l s 1 = placed_leaves h c m s 1 p cycle Running in
      let placed : IsPlaced (pointed h m s 1 p cycle) l s 1 Running = placed_is h c m s 1 p cycle Running in
      let runs : l.endpoint_state s 1 ≡ Running =
      ap (λ f. f s 1) placed.states ∙ at_pair (λ x. x ≡ Running) (pointed h m s 1 p cycle).endpoint_state s 1 Running s 1 (λ x y. refl) (λ other. absurd (other refl refl)) in
      but_one k l s slot was (λ t other. changes_elsewhere h c k s (SlotGoesOn s ∷ Places s 1 p cycle Running ∷ []) t (refl, (refl, tt)) other)
      (subst (λ x. SlotStands x (l.ring_of s) (l.device s)) (sym (ap (λ f. f s) gets.slot_state ∙ slot_goes c s))
      (slot_addressed (k.ring_of s) (l.ring_of s) (k.device s) (l.device s) s a bsr (k.slot_state s) may.slot (was.each s)
      (λ i r at. elim (gets.rings s i) [ inl here ↦ inl here.1 | inr same ↦ inr (refl ∙ sym same ∙ at) ])
      (λ none. off_runs (after.off s 1 none) runs)))

  pub configured_slots : (config n s a : ℕ) → s ≢ 0 → Succeeds k.slot_state k.endpoint_state config n (ConfigureEndpoint s false a) →
      SlotsStand (changed_by_all h (ConfigureEndpoint s false a) k (SlotGoesOn s ∷ typed_by_context h.context_size k.memory s a ∷ Disables s (is_dropped k.memory a) ∷ map (placed_by_context h.context_size k.memory s a) (added_endpoints k.memory a)))
  unfolding changed_by_all changed_by disabled typed
  configured_slots config n s a slot may =
      let c : Command = ConfigureEndpoint s false a in
      let adds : List Change = map (placed_by_context h.context_size k.memory s a) (added_endpoints k.memory a) in
      let types : Change = typed_by_context h.context_size k.memory s a in
      let d : Known = changed_by h c (changed_by h c (changed_by h c k (SlotGoesOn s)) types) (Disables s (is_dropped k.memory a)) in
      let l : Known = changed_by_all h c d adds in
      let keeps : KeepsRings h d l = placed_all h c d h.context_size k.memory s a (added_endpoints k.memory a) in
      but_one k l s slot was
      (λ t other. changes_elsewhere h c k s (SlotGoesOn s ∷ types ∷ Disables s (is_dropped k.memory a) ∷ adds) t (refl, (refl, (refl, placed_of_slot h h.context_size k.memory s a (added_endpoints k.memory a)))) other)
      (subst (λ x. SlotStands x (l.ring_of s) (l.device s)) (sym (ap (λ f. f s) keeps.slot_state ∙ refl ∙ slot_goes c s))
      (slot_configured (k.ring_of s) (l.ring_of s) (k.device s) (l.device s) s a (k.slot_state s) may.slot (was.each s)
      (λ has. keeps.some s 1 (first_stays s ((is_dropped k.memory a) 1) (k.ring_of s 1) refl has))))

  pub above_slots : (c : Command) (s : ℕ) → s ≢ 0 →
      ((after : ℕ → Option ℕ) (left : Option ℕ) → ((i r : ℕ) → after i ≡ Some r → i ≡ 1) → (k.ring_of s 1 ≢ None → after 1 ≢ None) → SlotStands (state_after c (k.slot_state s)) after left) →
      SlotsStand (changed_by_all h c k (SlotGoesOn s ∷ Disables s is_above_control ∷ []))
  unfolding changed_by_all changed_by disabled typed
  above_slots c s slot here =
      let all : List Change = SlotGoesOn s ∷ Disables s is_above_control ∷ [] in
      let l : Known = changed_by_all h c k all in
      but_one k l s slot was (λ t other. changes_elsewhere h c k s all t (refl, (refl, tt)) other)
      (subst (λ x. SlotStands x (l.ring_of s) (l.device s)) (sym (slot_goes c s))
      (here (l.ring_of s) (l.device s)
      (λ i r at. only_first s i r (k.ring_of s i) (λ zero. e.no_endpoint s i (inr zero)) at) (λ has. first_stays s false (k.ring_of s 1) refl has)))

-- The success of an unfinished command keeps what is kept of endpoints and slots
pub record Stand (k : Known) : Type 0 where
  pub endpoints : EndpointsStand k
  pub slots : SlotsStand k

module _ (h : Header) (k : Known) (was : SlotsStand k) (e : EndpointsStand k) where
  -- an endpoint that is there keeps its ring where that is moved
  dequeued_slots : (c : Command) (s i p : ℕ) (cycle : Bool) → RestsThere (k.endpoint_state s i) → SlotsStand (changed_by_all h c k (Places s i p cycle Stopped ∷ []))
  unfolding changed_by_all
  dequeued_slots c s i p cycle rests = search (rules, changed_by, placed_leaves, some_ring, slots_same, placed_is, pointed_on, on_is)

  stopped_slots : (c : Command) (s i : ℕ) → SlotsStand (changed_by_all h c k (Stops s i ∷ []))
  unfolding changed_by_all
  stopped_slots c s i = slots_as k (changed_by h c k (Stops s i)) was (stops_slot h c k s i)

  reset_slots : (c : Command) (s i : ℕ) → SlotsStand (changed_by_all h c k (Resets s i ∷ []))
  unfolding changed_by_all
  reset_slots c s i = slots_as k (changed_by h c k (Resets s i)) was (resets_slot h c k s i)

  still_slots : (c : Command) → SlotsStand (changed_by_all h c k [])
  unfolding changed_by_all
  still_slots c = was

  -- any command that names no slot 0
  success_slots : (config n : ℕ) (c : Command) → ((s : ℕ) → named_slot c ≡ Some s → s ≢ 0) → Succeeds k.slot_state k.endpoint_state config n c →
      EndpointsStand (changed_by_all h c k (changes h.context_size k.memory n c)) → SlotsStand (changed_by_all h c k (changes h.context_size k.memory n c))
  unfolding changes
  success_slots config n NoOp slot may after = still_slots NoOp
  success_slots config n EnableSlot slot may after = enabled_slots h k was e config n may
  success_slots config n (DisableSlot s) slot may after = disabled_slots h k was e config n s (slot s refl) may
  success_slots config n (AddressDevice s bsr a) slot may after = addressed_slots h k was e config n s a bsr (slot s refl) may after
  success_slots config n (ConfigureEndpoint s false a) slot may after = configured_slots h k was e config n s a (slot s refl) may
  success_slots config n (ConfigureEndpoint s true a) slot may after =
      above_slots h k was e (ConfigureEndpoint s true a) s (slot s refl)
      (λ fewer left one first. slot_deconfigured (k.ring_of s) fewer (k.device s) left s a (k.slot_state s) may.slot (was.each s) one first)
  success_slots config n (EvaluateContext s a) slot may after = still_slots (EvaluateContext s a)
  success_slots config n (ResetEndpoint s i) slot may after = reset_slots (ResetEndpoint s i) s i
  success_slots config n (StopEndpoint s i) slot may after = stopped_slots (StopEndpoint s i) s i
  success_slots config n (SetTrDequeue s i p cycle) slot may after =
      dequeued_slots (SetTrDequeue s i p cycle) s i p cycle (moving_rests s i p cycle (k.endpoint_state s i) may.endpoint)
  success_slots config n (ResetDevice s) slot may after =
      above_slots h k was e (ResetDevice s) s (slot s refl) (λ fewer left one first. slot_reset (k.ring_of s) fewer (k.device s) left s (k.slot_state s) may.slot (was.each s) one first)

module _ (h : Header) (is : IsHeader h) where
  pub success_stands : (k : Known) (config n : ℕ) (c : Command) → EndpointsKeep h k → RingsKeep h k → EndpointsStand k → SlotsStand k → is_bad_command h k c ≡ false → StillHolds h k c →
      Succeeds k.slot_state k.endpoint_state config n c → Stand (succeeded h k n c)
  unfolding succeeded
  success_stands k config n c bound rings e was good still may = search (rules, success_fits, changes_stand, success_slots, no_slot_zero, slot_there)

-- Behind a completion no Stopped event is known: that of the finished Stop Endpoint was the only one
module _ (h : Header) where
  pub changes_seen : (c : Command) (k : Known) (all : List Change) → (changed_by_all h c k all).stop_seen ≡ k.stop_seen
  unfolding changed_by_all changed_by disabled typed in_state pointed bound_to moved moved_to set_to on_ring held_at_ceiling
  changes_seen c k [] = refl
  changes_seen c k (change ∷ rest) = changes_seen c (changed_by h c k change) rest ∙ (grind (arith, is_off, bound_to, ring_having, moved, target, shape_of, in_state, k.ring_of))

  -- where only the finished command's can have been known
  pub none_seen : (k m : Known) (c : Command) → m.stop_seen ≡ k.stop_seen → ((t j : ℕ) → k.stop_seen t j ≡ true → c ≡ StopEndpoint t j) → (t j : ℕ) → (stop_ended h m c).stop_seen t j ≡ true → ⊥
  unfolding stop_ended
  none_seen k m o same was t j = grind (arith, at_pair, false≢true)

module _ (h : Header) where
  stop_stands : (m : Known) (c : Command) → Stand m → Stand (stop_ended h m c)
  unfolding stop_ended
  stop_stands m (StopEndpoint s i) stand = search (rules, endpoints_same, slots_same)
  stop_stands m _ stand = stand

  pub reached_fields : (k : Known) (r : ℕ) (t : Spot) →
      ((on_ring h k r (Reaches t)).ring_of ≡ k.ring_of) × ((on_ring h k r (Reaches t)).endpoint_state ≡ k.endpoint_state) × ((on_ring h k r (Reaches t)).slot_state ≡ k.slot_state)
      × ((on_ring h k r (Reaches t)).device ≡ k.device) × ((on_ring h k r (Reaches t)).stop_seen ≡ k.stop_seen)
  unfolding on_ring
  reached_fields k r t = (refl, refl, refl, refl, refl)

  pub reached_held : (k : Known) (r : ℕ) (t : Spot) (q : ℕ) → ((on_ring h k r (Reaches t)).ring q).held ≡ (k.ring q).held
  reached_held k r t q = view_after h (λ v. v.held ≡ (k.ring q).held) k r (Reaches t) q (λ same. ap (λ n. (k.ring n).held) (sym same)) (λ other. refl)

  reached_stands : (k : Known) (r : ℕ) (t : Spot) → Stand k → Stand (on_ring h k r (Reaches t))
  reached_stands k r t stand = search (rules, on_ring, reached_fields, endpoints_same, reached_held, slots_same)

  succeeded_seen : (k : Known) (n : ℕ) (c : Command) → (succeeded h k n c).stop_seen ≡ k.stop_seen
  unfolding succeeded
  succeeded_seen k n c = changes_seen h c k (changes h.context_size k.memory n c)

  no_more_seen : (k : Known) → ((t j : ℕ) → k.stop_seen t j ≡ true → ⊥) → SeenStand h k
  no_more_seen k none = record { command = λ s i is. absurd (none s i is); runs = λ s i is. absurd (none s i is); held = λ s i r is. absurd (none s i is) }

  module _ (is : IsHeader h) (k : Known) (d : DriverKeeps h k) (b : Block) (started : k.started ≡ true) (facts : CompletionFacts h k b) where
    before : Stand k
    before = record { endpoints = endpoints_part h k d.states; slots = slots_part h k d.states }

    -- the command succeeds, or changes nothing
    pub can_be : (c : Command) → can_finish k b (Some c) ≡ true → (code b == 1) ≡ true → Succeeds k.slot_state k.endpoint_state (register_or_zero k.register Config) (slot b) c
    unfolding can_finish
    can_be c can success = search (rules, and_parts, may_answer_slot, slot, succeeds_is, register_or_zero, cond-true, code)

    effect_stands : (c : Command) → command_at h k (next_command h k) ≡ Some c → can_finish k b (Some c) ≡ true → Stand (if code b == 1 then succeeded h k (slot b) c else k)
    effect_stands c at can =
        let keeps : CommandKeeps h k (next_command h k) c = d.unfinished (next_command h k) c (next_unfinished h is k d started facts.below c at) in
        cond_both (code b == 1) (succeeded h k (slot b) c) k Stand
        (λ success.
        success_stands h is k (register_or_zero k.register Config) (slot b) c (endpoints_of h k d.states) (rings_of h k d) before.endpoints before.slots keeps.good (command_holds h k (next_command h k) c keeps)
        (can_be c can success))
        (λ fails. before)

    effect_seen : (c : Command) → (if code b == 1 then succeeded h k (slot b) c else k).stop_seen ≡ k.stop_seen
    effect_seen c = cond_both (code b == 1) (succeeded h k (slot b) c) k (λ l. l.stop_seen ≡ k.stop_seen) (λ success. succeeded_seen k (slot b) c) (λ fails. refl)

    finished_stands : (o : Option Command) → command_at h k (next_command h k) ≡ o → can_finish k b o ≡ true → Stand (finished h k b o) × ((t j : ℕ) → (finished h k b o).stop_seen t j ≡ true → ⊥)
    unfolding finished can_finish
    finished_stands None at can = absurd (false≢true can)
    finished_stands (Some c) at can =
        let m : Known = if code b == 1 then succeeded h k (slot b) c else k in (
          stop_stands m c (effect_stands c at can),
          none_seen h k m c (effect_seen c) (λ t j seen. same_Some c (StopEndpoint t j) (sym at ∙ ((seen_part h k d.states).command t j seen).command)),
        )

    pub completion_stands : PartsStand h (completed h k b)
    unfolding completed
    completion_stands =
        let l : Known = finished h k b (command_at h k (next_command h k)) in
        let t : Spot = after (shape_of h (command_id h)) (next_command h k) in
        let parts = finished_stands (command_at h k (next_command h k)) refl facts.finishes in
        let stand : Stand (on_ring h l (command_id h) (Reaches t)) = reached_stands l (command_id h) t parts.0 in
        search (rules, no_more_seen, on_ring, command_id, reached_fields)
