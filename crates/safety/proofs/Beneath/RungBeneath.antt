-- The doorbell of an endpoint whose ring is held beneath an event that isn't read yet: the two may change places
use Rattle.safety.proofs.UpperLaws.{[], ◌≡◌, ◌==◌, ◌||◌, ◌∙◌, ℕ, true, false, not, Option, None, Some, refl, sym, ap, subst, MayCome, cond-false, false≢true, Block, Opens, is_open, is_running, is_stopped, Header, Bell, Read, IsHeader, command_id, Known, on_ring, endpoint_rung, rung, learned, is_touched, is_bad_bell, lenient, DriverKeeps, HeldMore, is_open_if, is_idle, Square, ◌≢◌, ◌&&◌, nat_lt, slice_get, option_and_then, rules, or_parts, or_from, not-false, BlockKind, TransferEvent, CommandCompletion, kind, code, slot, is_transfer_event, Command, changes, Config, register_or_zero, command_at, next_command, completed, event_read, touches_endpoint, is_in_profile, may_be_taken, can_finish, is_impossible_completion, is_impossible_by_kind, CommandKeeps, if◌then◌else◌, List, is_some, and_parts, and_from, cond-true, after, RingView, Reaches, floor_number, command_of, can_succeed, Change, shape_of, changed_by_all, succeeded, stop_ended, finished, was_stop_seen, arith, clean_tests, EventFacts, event_facts, bell_facts, SameDriver, both_drivers, endpoints_of, rings_of, endpoints_part, unfinished_fails, Woken, woken_reach, woken_seen, read_same, read_both, flip_driver, woken_more, EndpointHolds, bell_untouched, bell_state, free_same, CompletionFacts, by_completion, next_unfinished, command_holds, can_be, success_fits, one_of, Owns, flipped, changes_woken, rung_woken, rung_driver, transfer_rung, FitAll, both_sides_if, is_asked}
use Rattle.safety.proofs.Beneath.EndpointBeneath.{not_command}
use Rattle.safety.proofs.AlikeEvents.HeldFurther.{counted}
use Rattle.safety.proofs.Behind.HeldBehind.{read_holds, still_held, good_behind}
use Rattle.safety.proofs.Beneath.BellBeneath.{ReadWoken, bell_clean, read_woken}
use Rattle.safety.proofs.Behind.UntouchedCompletion.{touches_any}

-- Behind the doorbell of an endpoint whose ring is held, and that no unfinished command touches, each event may be read that might be
-- before, and leaves the endpoint woken

-- A Command Completion Event that is possible where an endpoint's ring is held and no unfinished command touches it: it is so where the
-- ring was woken, and leaves it woken
module _ (h : Header) (r s i : ℕ) (k l : Known) (w : Woken h r (one_of s i) k l) (d : SameDriver k l) where
  pub finish_same : (b : Block) (c : Command) → touches_endpoint h k s i c ≡ false → can_finish k b (Some c) ≡ true → can_finish l b (Some c) ≡ true
  unfolding can_finish can_succeed touches_endpoint changes was_stop_seen
  finish_same b c apart may = search (rules, and_parts, and_from, cond-true, is_some, flipped, or_parts, cond-false)

  stop_woken : (m n : Known) → Woken h r (one_of s i) m n → (c : Command) → Woken h r (one_of s i) (stop_ended h m c) (stop_ended h n c)
  unfolding stop_ended
  stop_woken m n x o = grind (arith, woken_seen, one_of, false)

  module _ (is : IsHeader h) (o : Owns h r s i k) (b : Block) (c : Command) (apart : touches_endpoint h k s i c ≡ false)
      (fits : (code b == 1) ≡ true → FitAll h c k (changes h.context_size k.memory (slot b) c)) where
    finished_woken : Woken h r (one_of s i) (finished h k b (Some c)) (finished h l b (Some c))
    unfolding finished succeeded touches_endpoint
    finished_woken =
        let all : List Change = changes h.context_size k.memory (slot b) c in
        let theirs : List Change = changes h.context_size l.memory (slot b) c in
        stop_woken (if code b == 1 then changed_by_all h c k all else k) (if code b == 1 then changed_by_all h c l theirs else l)
        (both_sides_if (Woken h r (one_of s i)) (code b == 1) (changed_by_all h c k all) k (changed_by_all h c l theirs) l
        (λ success. subst (λ m. Woken h r (one_of s i) (changed_by_all h c k all) (changed_by_all h c l (changes h.context_size m (slot b) c))) (sym d.memory)
        (changes_woken h r s i is c k l w o all (touches_any h.context_size k.memory (slot b) s i c ∙ apart) (fits success))) (λ fails. w)) c

    pub completed_woken : command_id h ≢ r → command_at h k (next_command h k) ≡ Some c → Woken h r (one_of s i) (completed h k b) (completed h l b)
    unfolding completed next_command command_at
    completed_woken other at =
        let q : ℕ = command_id h in
        let n : ℕ = next_command h k in
        subst (λ v. Woken h r (one_of s i) (completed h k b) (completed_as v)) (sym (w.rings q other))
        (subst (λ x. Woken h r (one_of s i) (on_ring h (finished h k b x) q (Reaches (after (shape_of h q) n))) (on_ring h (finished h l b x) q (Reaches (after (shape_of h q) n)))) (sym at)
        (woken_reach h r (one_of s i) (finished h k b (Some c)) (finished h l b (Some c)) finished_woken q (after (shape_of h q) n)))
      where
        completed_as : RingView → Known
        completed_as v =
            on_ring h (finished h l b (option_and_then command_of (slice_get v.queue (floor_number v)))) (command_id h) (Reaches (after (shape_of h (command_id h)) (floor_number v)))

-- the command ring is as it was, and the command can be finished still
possible_woken : (h : Header) (r s i : ℕ) (k l : Known) → Woken h r (one_of s i) k l → SameDriver k l → command_id h ≢ r → (b : Block) (c : Command) →
    command_at h k (next_command h k) ≡ Some c → touches_endpoint h k s i c ≡ false → is_impossible_completion h k b ≡ false → is_impossible_completion h l b ≡ false
unfolding is_impossible_completion may_be_taken next_command command_at
possible_woken h r s i k l w d other b c at apart possible = search (rules, one_of, or_parts, finish_same, not-false, or_from, nat_lt, option_and_then, slice_get)

module _ (h : Header) (k : Known) (s t r : ℕ) (has : k.ring_of s t ≡ Some r) (may : (is_running (k.endpoint_state s t) || is_stopped (k.endpoint_state s t)) ≡ true)
    (is : IsHeader h) (d : DriverKeeps h k) (held : is_open (k.ring r) ≡ false) (untouched : is_touched h k s t ≡ false) where
  abbrev woken : Known
  woken = endpoint_rung h k s t (Some r)

  awake : Woken h r (one_of s t) k woken
  awake = rung_woken h k s t r has may

  driver : SameDriver k woken
  driver = rung_driver h k s t r has may

  -- ---- a Command Completion Event

  module _ (b : Block) (started : k.started ≡ true) (possible : is_impossible_completion h k b ≡ false) where
    facts : CompletionFacts h k b
    facts = by_completion h k b possible

    -- the command is unfinished, and so doesn't touch the endpoint
    next_apart : (c : Command) → command_at h k (next_command h k) ≡ Some c → touches_endpoint h k s t c ≡ false
    unfolding is_touched
    next_apart c at = unfinished_fails h k (touches_endpoint h k s t) (next_command h k) c untouched (next_unfinished h is k d started facts.below c at)

    next_fits : (c : Command) → command_at h k (next_command h k) ≡ Some c → can_finish k b (Some c) ≡ true → (code b == 1) ≡ true → FitAll h c k (changes h.context_size k.memory (slot b) c)
    next_fits c at can success =
        let keeps : CommandKeeps h k (next_command h k) c = d.unfinished (next_command h k) c (next_unfinished h is k d started facts.below c at) in
        success_fits h is k (register_or_zero k.register Config) (slot b) c d.states.no_slot (rings_of h k d) (endpoints_part h k d.states) keeps.good (command_holds h k (next_command h k) c keeps)
        (can_be h is k d b started facts c can success)

    next_rung : (o : Option Command) → command_at h k (next_command h k) ≡ o → can_finish k b o ≡ true →
        (is_impossible_completion h woken b ≡ false) × Woken h r (one_of s t) (completed h k b) (completed h woken b)
    unfolding can_finish
    next_rung None at can = search (rules, possible_woken, completed_woken)
    next_rung (Some c) at can = search (rules, possible_woken, awake, driver, not_command, next_apart, completed_woken, endpoints_of, endpoints_part, next_fits)

    pub completion_rung : (is_impossible_completion h woken b ≡ false) × Woken h r (one_of s t) (completed h k b) (completed h woken b)
    completion_rung = next_rung (command_at h k (next_command h k)) refl facts.finishes

  -- ---- any event

  kind_rung : (e : Block) → k.started ≡ true → (n : BlockKind) → is_impossible_by_kind h k n e ≡ false → (is_transfer_event n && not (is_in_profile h k e)) ≡ false →
      (is_impossible_by_kind h woken n e ≡ false) × Woken h r (one_of s t) (event_read h k n e) (event_read h woken n e)
  unfolding is_impossible_by_kind event_read
  kind_rung e started TransferEvent possible inside = transfer_rung h k s t r has may is d held e possible (not-false (is_in_profile h k e) inside)
  kind_rung e started CommandCompletion possible inside = completion_rung e started possible
  kind_rung e started _ possible inside = (refl, awake)

  pub rung_read : (e : Block) → lenient h k (Read e) ≡ [] → ReadWoken h r (one_of s t) k woken e
  rung_read e clean =
      let facts : EventFacts h k e = event_facts h k e clean in
      read_woken h r (one_of s t) k woken e driver (awake.isochronous) clean (kind_rung e facts.started (kind e) facts.possible facts.inside)

module _ (h : Header) (s t : ℕ) (endpoint : (s == 0) ≡ false) where
  -- ---- a doorbell that isn't idle has a ring, and it is held

  pub rung_ring : (k : Known) → is_idle h k (Bell s t) ≡ false → (r : ℕ) × (k.ring_of s t ≡ Some r) × (is_open (k.ring r) ≡ false)
  rung_ring k awake = grind (arith, false≢true)

  -- ---- what the doorbell of an endpoint does

  bell_endpoint : (k : Known) (r : ℕ) → k.ring_of s t ≡ Some r → learned h k (Bell s t) ≡ endpoint_rung h k s t (Some r)
  unfolding learned rung
  bell_endpoint k r has = cond-false (s == 0) (on_ring h k (command_id h) Opens) (endpoint_rung h k s t (k.ring_of s t)) endpoint ∙ ap (λ o. endpoint_rung h k s t o) has

  module _ (is : IsHeader h) (k : Known) (d : DriverKeeps h k) (r : ℕ) (has : k.ring_of s t ≡ Some r) (held : is_open (k.ring r) ≡ false) where
    pub bell_square : (e : Block) → MayCome h k (Bell s t) → lenient h k (Read e) ≡ [] → Square h k (Bell s t) e
    bell_square e clean may =
        let good : is_bad_bell h k s t ≡ false = sym (cond-false (s == 0) (not (t == 0)) (is_bad_bell h k s t) endpoint) ∙ (bell_facts h k s t clean.0).good in
        let untouched : is_touched h k s t ≡ false = bell_untouched h k d s t good in
        let state : (is_running (k.endpoint_state s t) || is_stopped (k.endpoint_state s t)) ≡ true = bell_state h k d s t good in
        let k_read : Known = learned h k (Read e) in
        let l : Known = endpoint_rung h k s t (Some r) in
        let x : Known = endpoint_rung h k_read s t (Some r) in
        let y : Known = learned h l (Read e) in
        let read : ReadWoken h r (one_of s t) k l e = rung_read h k s t r has state is d held untouched e may in
        let same : SameDriver (counted h k) k_read = read_same h k e in
        let holds : EndpointHolds k k_read s t = read_holds h is k d s t r has held untouched e may in
        let has_still : k_read.ring_of s t ≡ Some r = holds.ring_of ∙ has in
        let state_still : (is_running (k_read.endpoint_state s t) || is_stopped (k_read.endpoint_state s t)) ≡ true = ap (λ z. is_running z || is_stopped z) holds.state ∙ state in
        let driver : SameDriver x y =
        both_drivers x k_read y (flip_driver k_read x (rung_driver h k_read s t r has_still state_still)) (read_both h k l e (rung_driver h k s t r has state)) in
        record {
          event = subst (λ z. lenient h z (Read e) ≡ []) (sym (bell_endpoint k r has)) read.possible;
          row = (
            bell_clean h k_read s t (same.stopped ∙ (clean_tests h k (Read e) may).0) (same.started ∙ (event_facts h k e may).started)
                (ap is_asked same.halt ∙ (bell_facts h k s t clean.0).on) (cond-false (s == 0) (not (t == 0)) (is_bad_bell h k_read s t) endpoint ∙ (good_behind h is k d s t r has held untouched e may good)),
            λ q at p. ap (λ f. f p) (free_same h k (Read e) q) ∙ clean.1 q (sym holds.ring_of ∙ at) p,
          );
          after = subst (λ z. HeldMore z (learned h (learned h k (Bell s t)) (Read e))) (sym (bell_endpoint k_read r has_still))
              (subst (λ z. HeldMore x (learned h z (Read e))) (sym (bell_endpoint k r has))
              (woken_more h r (one_of s t) k_read x y (rung_woken h k_read s t r has_still state_still) read.after driver));
          awake = cond-false (s == 0) (is_open (k_read.ring (command_id h))) (is_open_if k_read (k_read.ring_of s t)) endpoint
              ∙ ap (λ o. is_open_if k_read o) has_still ∙ still_held h is k d s t r has held untouched e may;
        }
