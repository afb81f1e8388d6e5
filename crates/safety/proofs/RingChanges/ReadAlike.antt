-- What is read is possible, and learned, as it was where other rings are there
use Rattle.safety.proofs.MiddleLaws.{told_over, is_code_of_profile, code_told, is_stopping, [], ◌≡◌, ◌+◌, ◌==◌, ◌&&◌, ◌||◌, if◌then◌else◌, ◌∷◌, ◌∙◌, ℕ, not, Bool, true, false, List, map, All, Option, Some, None, nat_lt, option_and_then, slice_get, refl, sym, ap, subst, rules, or_parts, false≢true, cond-true, All-head, All-tail, Block, BlockKind, TransferEvent, CommandCompletion, kind, code, slot, endpoint, pointer, is_success, is_halting, is_trb_error, is_command_completion, Spot, after, floor_number, address_of, RingView, Reaches, ceiling, is_data_below, is_open, is_stop_spot, Command, NoOp, DisableSlot, AddressDevice, ConfigureEndpoint, EvaluateContext, SetTrDequeue, ResetDevice, command_of, is_stop_of, is_off, is_running, may_answer_slot, can_succeed, register_or_zero, placed_by_context, changes, added_endpoints, Header, Read, IsHeader, Ring, shape_of, command_id, Known, RingSpot, on_ring, event_at, command_at, next_command, succeeded, stop_ended, finished, completed, event_read, learned, Binding, binding_in, binds, can_finish, may_be_taken, is_stopping_now, is_working, can_report, can_report_at, is_in_profile, is_impossible_transfer, is_impossible_completion, is_impossible_by_kind, is_past_room, is_impossible, event_tests, lenient_tests, lenient, changed_by, is_bad_command, names_disabled_endpoint, IsUnfinished, DriverKeeps, arith, EventFacts, event_facts, transfer_slots, ChangesAlike, HasKept, HavesAlike, changes_alike, event_at_alike, event_kept, on_alike, other, transfer_alike, KeepsRings, ◌<◌, lt-ltb, cases_Bool, inl, inr, Config, Register, unwrap_or, was_stop_seen, NextAlike}
use Rattle.safety.proofs.RingsKeep.KeptRings.{completion_facts, next_unfinished}

-- where no command may have been taken, none is completed
untaken : (h : Header) (k : Known) (b : Block) → may_be_taken h k ≡ false → is_impossible_completion h k b ≡ true
unfolding is_impossible_completion
untaken h k b none = ap (λ m. not m || not (pointer b == address_of (shape_of h (command_id h)) (next_command h k)) || code b == 0 || not (can_finish k b (command_at h k (next_command h k)))) none

module _ (h : Header) (rings : List Ring) (over : (ℕ → RingView) → ℕ → RingView) (registers : (Register → Option ℕ) → Register → Option ℕ) (Kept : ℕ → Type 0)
    (o : KeepsRings h rings over registers Kept) where
  abbrev g : Header
  g = record h { rings = rings }

  abbrev l : Known → Known
  l k = other h rings over registers Kept k

  abbrev Has : Known → Type 0
  Has k = HasKept h rings over registers Kept k

  abbrev Haves : ℕ → Type 0
  Haves p = HavesAlike h rings over registers Kept p

  -- the pointers of what unfinished commands bind lie in kept rings
  abbrev pub BindsAlike : Known → Type 0
  BindsAlike k = (p : ℕ) (c : Command) → IsUnfinished h k p c → All (λ b. Haves b.pointer) (binds h k c)

  -- ---- the command ring, where it is the same, and kept

  module _ (command : command_id g ≡ command_id h) (command_kept : Kept (command_id h)) where
    command_shape : shape_of g (command_id g) ≡ shape_of h (command_id h)
    command_shape = ap (λ n. shape_of g n) command ∙ o.shape (command_id h) command_kept

    command_view : (k : Known) → over k.ring (command_id g) ≡ k.ring (command_id h)
    command_view k = ap (over k.ring) command ∙ o.view k.ring (command_id h) command_kept

    next_same : (k : Known) → next_command g (l k) ≡ next_command h k
    unfolding next_command
    next_same k = ap (λ (v : RingView). floor_number v) (command_view k)

    next_is : (k : Known) → command_at g (l k) (next_command g (l k)) ≡ command_at h k (next_command h k)
    unfolding next_command command_at
    next_is k = λ j. option_and_then command_of (slice_get (command_view k j).queue (floor_number (command_view k j)))

    taken_same : (k : Known) → may_be_taken g (l k) ≡ may_be_taken h k
    unfolding may_be_taken next_command
    taken_same k = λ j. nat_lt (floor_number (command_view k j)) (ceiling (command_shape j) (command_view k j))

    pub next_kept : (k : Known) → NextAlike h rings over registers Kept k
    next_kept k = record { taken = taken_same k; ring = λ may. (command, command_kept) }

    config_same : (k : Known) → register_or_zero (registers k.register) Config ≡ register_or_zero k.register Config
    config_same k = ap (λ v. unwrap_or v 0) (o.config k.register)

    seen_same : (k : Known) (c : Command) → was_stop_seen (l k) c ≡ was_stop_seen k c
    unfolding was_stop_seen
    seen_same k c = grind arith

    can_finish_over : (k : Known) (b : Block) (q : Option Command) → can_finish (l k) b q ≡ can_finish k b q
    unfolding can_finish
    can_finish_over k b None = refl
    can_finish_over k b (Some c) = λ j.
        may_answer_slot (Some c) (slot b) && (if code b == 1 then can_succeed k.slot_state k.endpoint_state (config_same k j) (slot b) c else not (seen_same k c j))

    can_finish_same : (k : Known) (b : Block) → can_finish (l k) b (command_at g (l k) (next_command g (l k))) ≡ can_finish k b (command_at h k (next_command h k))
    can_finish_same k b = can_finish_over k b (command_at g (l k) (next_command g (l k))) ∙ ap (can_finish k b) (next_is k)

    completion_same : (k : Known) (b : Block) → is_impossible_completion g (l k) b ≡ is_impossible_completion h k b
    unfolding is_impossible_completion
    completion_same k b = λ j. not (taken_same k j) || not (pointer b == address_of (command_shape j) (next_same k j)) || code b == 0 || not (can_finish_same k b j)

  -- ---- which events are possible

  module _ (k : Known) (n : NextAlike h rings over registers Kept k) where
    stopping_alike : (s i : ℕ) → is_stopping_now g (l k) s i ≡ is_stopping_now h k s i
    unfolding is_stopping_now
    stopping_alike s i =
        elim (cases_Bool (may_be_taken h k)) [
          | inl may ↦ let same = n.ring may in λ j. n.taken j && is_stop_of s i (next_is same.0 same.1 k j)
          | inr none ↦ ap (λ b. b && is_stop_of s i (command_at g (l k) (next_command g (l k)))) (n.taken ∙ none) ∙ sym (ap (λ b. b && is_stop_of s i (command_at h k (next_command h k))) none)
        ]

    completion_possible : (b : Block) → is_impossible_completion g (l k) b ≡ is_impossible_completion h k b
    completion_possible b =
        elim (cases_Bool (may_be_taken h k)) [
          | inl may ↦ let same = n.ring may in completion_same same.0 same.1 k b
          | inr none ↦ untaken g (l k) b (n.taken ∙ none) ∙ sym (untaken h k b none)
        ]

    report_alike : (c s i r : ℕ) (t : Spot) → Kept r → can_report g (l k) c s i r t ≡ can_report h k c s i r t
    unfolding can_report is_working
    report_alike c s i r t kept = λ j.
        if is_success c then is_data_below (ceiling (o.shape r kept j) (o.view k.ring r kept j)) t
        else if is_halting c || is_trb_error c then is_data_below (ceiling (o.shape r kept j) (o.view k.ring r kept j)) t && (is_running (k.endpoint_state s i) && is_open (o.view k.ring r kept j))
        else is_stopping c && ((is_running (k.endpoint_state s i) && is_open (o.view k.ring r kept j)) && stopping_alike s i j && is_stop_spot (o.shape r kept j) (o.view k.ring r kept j) t)

    report_at_alike : (b : Block) (q : Option RingSpot) → ((at : RingSpot) → q ≡ Some at → Kept at.ring) → can_report_at g (l k) b q ≡ can_report_at h k b q
    unfolding can_report_at
    report_at_alike b None kept = refl
    report_at_alike b (Some at) kept =
        ap (λ c. can_report g (l k) c (slot b) (endpoint b) at.ring at.spot) (told_over h rings over registers Kept o k b) ∙ report_alike (code_told h k b) (slot b) (endpoint b) at.ring at.spot (kept at refl)

    profile_over : (b : Block) → is_in_profile g (l k) b ≡ is_in_profile h k b
    unfolding is_in_profile is_code_of_profile
    profile_over b = rw o.version

    transfer_possible : (b : Block) → Has k → is_impossible_transfer g (l k) b ≡ is_impossible_transfer h k b
    unfolding is_impossible_transfer
    transfer_possible b kept =
        let same = ap (can_report_at g (l k) b) (event_at_alike h rings over registers Kept o k b kept) ∙ report_at_alike b (event_at h k b) (λ at is. event_kept h rings over registers Kept o k b at kept is) in
        λ j. profile_over b j && (is_off (k.endpoint_state (slot b) (endpoint b)) || not (same j))

    pub read_possible : (b : Block) → Has k → lenient g (l k) (Read b) ≡ lenient h k (Read b)
    unfolding lenient lenient_tests event_tests is_impossible is_past_room is_impossible_by_kind
    read_possible b kept = search (rules, g, l, nat_lt, profile_over, transfer_possible, completion_possible)

  -- ---- what is learned

  module _ (is : IsHeader h) (k : Known) (d : DriverKeeps h k) (next : NextAlike h rings over registers Kept k) (kept : Has k) (bound : BindsAlike k) where
    places_alike : (c : Command) (s n : ℕ) (is : List ℕ) (x : Known) → All (λ b. Haves b.pointer) (map (binding_in h k n) is) →
        ChangesAlike h rings over registers Kept c x (map (placed_by_context h.context_size k.memory s n) is)
    unfolding binding_in
    places_alike c s n [] x all = tt
    places_alike c s n (i ∷ is) x all =
        let b : Binding = binding_in h k n i in
        ((λ off. All-head (λ b. Haves b.pointer) b (map (binding_in h k n) is) all), places_alike c s n is _ (All-tail (λ b. Haves b.pointer) b (map (binding_in h k n) is) all))

    -- the endpoint of a Set TR Dequeue is there
    there : (s i p : ℕ) (bit : Bool) → is_bad_command h k (SetTrDequeue s i p bit) ≡ false → is_off (k.endpoint_state s i) ≡ false
    unfolding is_bad_command names_disabled_endpoint
    there s i p bit good = search (rules, or_parts)

    success_alike : (n p : ℕ) (c : Command) → IsUnfinished h k p c → ChangesAlike h rings over registers Kept c k (changes h.context_size k.memory n c)
    unfolding changes binds binding_in changed_by
    success_alike n p NoOp u = tt
    success_alike n p (DisableSlot s) u = (tt, (tt, (tt, tt)))
    success_alike n p (AddressDevice s bsr m) u = (
      tt,
      (
        (λ off. All-head (λ b. Haves b.pointer) (binding_in h k m 1) []
            (subst (λ bs. All (λ b. Haves b.pointer) bs) (cond-true (is_off (k.endpoint_state s 1)) (binding_in h k m 1 ∷ []) [] off) (bound p (AddressDevice s bsr m) u))),
        tt,
      ),
    )
    success_alike n p (ConfigureEndpoint s false m) u = (tt, (tt, (tt, places_alike (ConfigureEndpoint s false m) s m (added_endpoints k.memory m) _ (bound p (ConfigureEndpoint s false m) u))))
    success_alike n p (ConfigureEndpoint s true m) u = (tt, (tt, tt))
    success_alike n p (EvaluateContext s m) u = tt
    success_alike n p (SetTrDequeue s i a bit) u =
        ((λ off. absurd (false≢true (sym (there s i a bit (d.unfinished p (SetTrDequeue s i a bit) u).good) ∙ off))), tt)
    success_alike n p (ResetDevice s) u = (tt, (tt, tt))
    success_alike n p _ u = (tt, tt)

    ended_has : (x : Known) (c : Command) → (stop_ended h x c).ring_of ≡ x.ring_of
    unfolding stop_ended
    ended_has x o = grind arith

    abbrev Alike : Known → Known → Type 0
    Alike x y = (y ≡ l x) × Has x

    by_code : (n p : ℕ) (c : Command) (b : Bool) → IsUnfinished h k p c → Alike (if b then succeeded h k n c else k) (if b then succeeded g (l k) n c else l k)
    unfolding succeeded
    by_code n p c true u = changes_alike h rings over registers Kept o c (changes h.context_size k.memory n c) k kept (success_alike n p c u)
    by_code n p c false u = (refl, kept)

    finished_alike : (b : Block) (q : Option Command) → ((c : Command) → q ≡ Some c → (p : ℕ) × IsUnfinished h k p c) → Alike (finished h k b q) (finished g (l k) b q)
    unfolding finished stop_ended
    finished_alike b None u = (refl, kept)
    finished_alike b (Some c) u =
        let its = u c refl in
        let both = by_code (slot b) its.0 c (code b == 1) its.1 in
        let x : Known = if code b == 1 then succeeded h k (slot b) c else k in
        (ap (λ y. stop_ended g y c) both.0 ∙ (grind arith), λ s i r at. both.1 s i r (ap (λ f. f s i) (sym (ended_has x c)) ∙ at))

    completed_alike : (b : Block) → may_be_taken h k ≡ true → ((c : Command) → command_at h k (next_command h k) ≡ Some c → (p : ℕ) × IsUnfinished h k p c) →
        Alike (completed h k b) (completed g (l k) b)
    unfolding completed on_ring
    completed_alike b may u =
        let command = (next.ring may).0 in
        let command_kept = (next.ring may).1 in
        let q : Option Command = command_at h k (next_command h k) in
        let f = finished_alike b q u in
        let to = Reaches (after (shape_of h (command_id h)) (next_command h k)) in (
          (λ j. on_ring g (finished g (l k) b (next_is command command_kept k j)) (command j) (Reaches (after (command_shape command command_kept j) (next_same command command_kept k j))))
              ∙ ap (λ x. on_ring g x (command_id h) to) f.0 ∙ on_alike h rings over registers Kept o (finished h k b q) (command_id h) to command_kept,
          f.1,
        )

    module _ (b : Block) (may : lenient h k (Read b) ≡ []) where
      facts : EventFacts h k b
      facts = event_facts h k b may

      may_be : next_command h k < ceiling (shape_of h (command_id h)) (k.ring (command_id h)) → may_be_taken h k ≡ true
      unfolding may_be_taken
      may_be below = lt-ltb (next_command h k) (ceiling (shape_of h (command_id h)) (k.ring (command_id h))) below

      read_kind : (n : BlockKind) → kind b ≡ n → Alike (event_read h k n b) (event_read g (l k) n b)
      unfolding event_read
      read_kind TransferEvent at = (transfer_alike h rings over registers Kept o k b kept, λ s i r has. kept s i r (ap (λ f. f s i) (sym (transfer_slots h k b).ring_of) ∙ has))
      read_kind CommandCompletion at =
          let below = (completion_facts h k b (ap is_command_completion at) facts.possible).below in
          completed_alike b (may_be below) (λ c here. (next_command h k, next_unfinished h is k d facts.started below c here))
      read_kind _ at = (refl, kept)

      -- the event is learned, and endpoints have kept rings still
      pub read_alike : Alike (learned h k (Read b)) (learned g (l k) (Read b))
      unfolding learned
      read_alike = let r = read_kind (kind b) refl in ((λ j. record (r.0 j) { reads = k.reads + 1 }), r.1)
