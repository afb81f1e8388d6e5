-- The end of the next command, where the driver has kept the rules
use Rattle.event_rows.proofs.LowerLaws.{named_if_taken, rules, ◌≡◌, ◌+◌, ◌≤◌, ◌==◌, ◌∙◌, ◌∷◌, ◌^◌, ℕ, true, false, Some, None, ap, sym, refl, arith, eq-eqb, ne_eqb, cons_option, cond-true, cond-false, false≢true, or_parts, nat_tests, put, Block, code, slot, after, RingView, Reaches, floor_number, input_context_bytes, Command, DisableSlot, StopEndpoint, named_context, changes, Header, IsHeader, command_id, shape_of, HasRoom, Known, command_at, next_command, on_ring, unfinished, completed, finished, stop_ended, unfinished_completed, has_bad_context, can_finish, is_impossible_completion, IsDriverRing, CommandKeeps, DriverKeeps, MayChangeAll, area_parts, bad_command_context, rings_of, endpoints_of, finish_elsewhere, ring_shape, CompletionFacts, by_completion, command_holds, next_at_floor, next_unfinished, ceiling_given, still_places, AtFloor, command_is_ring, AreSlots, IsNextGiven, succeeded_if, none_finishes, devices_by, disable_one, finished_rest, others_none}

-- ---- what stops

pub stops_not : (h : Header) (k : Known) (c : Command) → ((s i : ℕ) → c ≡ StopEndpoint s i → ⊥) → k ≡ stop_ended h k c
unfolding stop_ended
stops_not h k c e = search rules

pub ended_is : (h : Header) (k : Known) (b : Block) (c : Command) → stop_ended h (succeeded_if h k b c) c ≡ finished h k b (Some c)
unfolding finished
ended_is h k b c = refl

pub stop_keeps_rings : (h : Header) (k : Known) (c : Command) → (stop_ended h k c).ring ≡ k.ring
unfolding stop_ended
stop_keeps_rings h k c = search rules

-- ---- the device contexts

module _ (h : Header) (k : Known) (b : Block) (c : Command) where
  pub devices_failed : (code b ≡ 1 → ⊥) → k.device ≡ (finished h k b (Some c)).device
  devices_failed other = sym ((finished_rest h k b c).device ∙ cond-false (code b == 1) (devices_by (changes h.context_size k.memory (slot b) c) k.device) k.device (ne_eqb (code b) 1 other))

  devices_succeeded : code b ≡ 1 → (finished h k b (Some c)).device ≡ devices_by (changes h.context_size k.memory (slot b) c) k.device
  devices_succeeded one = (finished_rest h k b c).device ∙ cond-true (code b == 1) (devices_by (changes h.context_size k.memory (slot b) c) k.device) k.device (eq-eqb (code b) 1 one)

  pub devices_others : code b ≡ 1 → ((s : ℕ) → c ≡ DisableSlot s → ⊥) → k.device ≡ (finished h k b (Some c)).device
  devices_others one other = sym (devices_succeeded one ∙ others_none h.context_size k.memory (slot b) c k.device other)

  pub devices_disabled : code b ≡ 1 → (s : ℕ) → c ≡ DisableSlot s → put k.device s None ≡ (finished h k b (Some c)).device
  devices_disabled one s is = sym (devices_succeeded one ∙ disable_one h.context_size k.memory (slot b) s c k.device is)

-- ---- what the driver has kept

context_room : (h : Header) (k : Known) (n : ℕ) → has_bad_context h k (Some n) ≡ false → n + input_context_bytes h.context_size ≤ 2 ^ 64
unfolding has_bad_context
context_room h k n good = grind (arith, area_parts h k n (input_context_bytes h.context_size), or_parts, nat_tests)

room_of : (h : Header) (k : Known) (c : Command) → has_bad_context h k (named_context c) ≡ false → HasRoom h.context_size c
room_of h k c e = search (rules, context_room)

pub slots_of : (h : Header) (k : Known) → DriverKeeps h k → AreSlots k
slots_of h k d s a at = (d.devices s a at).slot

next_same : (h : Header) (k l : Known) → l.ring (command_id h) ≡ k.ring (command_id h) → next_command h l ≡ next_command h k
unfolding next_command
next_same h k l same = ap (λ (v : RingView). floor_number v) same

given_still : (h : Header) (k l : Known) → l.ring (command_id h) ≡ k.ring (command_id h) → IsNextGiven h k → IsNextGiven h l
unfolding next_command
given_still h k l same n = search rules

module _ (h : Header) (headed : IsHeader h) (k : Known) (d : DriverKeeps h k) (on : k.started ≡ true) (b : Block) (possible : is_impossible_completion h k b ≡ false) where
  facts : CompletionFacts h k b
  facts = by_completion h k b possible

  pub has_next : {X : Type 0} → command_at h k (next_command h k) ≡ None → X
  has_next none = absurd (false≢true (sym (ap (λ o. can_finish k b o) none ∙ none_finishes k b) ∙ facts.finishes))

  floor : AtFloor h k
  floor = next_at_floor h headed k d on facts.below

  ring : IsDriverRing h (command_id h)
  ring = command_is_ring h k d (named_if_taken h k d on facts.below)

  next_given : IsNextGiven h k
  next_given = search (rules, floor, (d.rings (command_id h) ring).given_declared, ring, facts, ceiling_given (shape_of h (command_id h)) (ring_shape h headed (command_id h) ring).is k.memory (k.ring (command_id h)) (d.rings (command_id h) ring))

  module _ (c : Command) (here : command_at h k (next_command h k) ≡ Some c) where
    keeps : CommandKeeps h k (next_command h k) c
    keeps = d.unfinished (next_command h k) c (next_unfinished h headed k d on facts.below c here)

    pub may_change : MayChangeAll h c k (changes h.context_size k.memory (slot b) c)
    may_change = still_places h headed k (rings_of h k d) (endpoints_of h k d.states) (slot b) c (command_holds h k (next_command h k) c keeps)

    pub has_room : HasRoom h.context_size c
    has_room = room_of h k c (bad_command_context h k c keeps.good)

    abbrev pub done : Known
    done = finished h k b (Some c)

    apart : done.ring (command_id h) ≡ k.ring (command_id h)
    apart = finish_elsewhere h headed k b (Some c) (endpoints_of h k d.states)

    pub done_given : IsNextGiven h done
    done_given = given_still h k done apart next_given

    pub completed_is : on_ring h done (command_id h) (Reaches (after (shape_of h (command_id h)) (next_command h done))) ≡ completed h k b
    unfolding completed
    completed_is = search (rules, next_same, apart)

    pub unfinished_is : unfinished h k ≡ c ∷ unfinished h (completed h k b)
    unfinished_is =
        unfinished_completed h k b (ap (λ o. (finished h k b o).ring (command_id h)) here ∙ apart) floor.given (d.rings (command_id h) ring).given_within
        ∙ ap (λ o. cons_option o (unfinished h (completed h k b))) here
