-- What an event that is read asks for stays below the floors behind it, or below what is needed later; and it is few looks
use Rattle.safety.proofs.UpperLaws.{None, code_told, rules, [], ◌≡◌, ◌+◌, ◌<◌, ◌≤◌, ◌==◌, ◌&&◌, ◌||◌, ◌∷◌, ◌∙◌, ℕ, true, false, List, Some, nat_lt, arith, refl, sym, ap, subst, inl, inr, eqb-true, ltb-true, cases_Bool, cond_both, false≢true, and_parts, Block, BlockKind, TransferEvent, CommandCompletion, kind, code, slot, endpoint, is_transfer_event, is_success, is_halting, is_trb_error, is_stopping, Spot, number, after, number-after, floor_number, is_open, Header, Row, Read, IsHeader, shape_of, command_id, Known, RingSpot, next_command, learned, lenient, transferred, IsDriverRing, IsTransferRing, DriverKeeps, command_is_ring, event_facts, found_in, transfer_driver, transfer_not_command, need, number_behind, number_reported, is_report_of_success, is_shape, driver_test, each_passes, header_parts, command_taken, lazy_goals, open_goals, report_goals, stop_goal, stopped_goals, taken_up_to, event_at, number_taken, AreFew, no_goal, command_goal, ring_goal, two_goals, TransferFacts, transfer_facts, stop_code, may_be_taken, lt-ltb, next_is, Option, Command, StopEndpoint, command_at, completion_says, is_command_completion, stopping_taken, named_if_taken, ◌≢◌}
use Rattle.safety.proofs.LazyRuns.Farthest.{event_slack, farthest, farthest_command, farthest_other, floor_reached, some_slack}
use Rattle.safety.proofs.LazyRuns.TransferGoals.{read_is, success_floor, error_ring, stop_ring}

-- each goal's number is at most that of its ring
abbrev pub AreWithin : (ℕ → ℕ) → List RingSpot → Type 0
AreWithin top [] = Unit {0}
AreWithin top (goal ∷ rest) = (number goal.spot ≤ top goal.ring) × AreWithin top rest

module _ (h : Header) (k : Known) (b : Block) (clean : lenient h k (Read b) ≡ []) (later : List Row) where
  abbrev l : Known
  l = learned h k (Read b)

  -- how far a pointer may be behind the event
  abbrev pub top : ℕ → ℕ
  top r = farthest h l later r

  top_floor : (r n : ℕ) → n ≤ floor_number (l.ring r) → n ≤ top r
  top_floor r n low = floor_reached h l later r n low

  top_need : (r : ℕ) → r ≢ command_id h → need h l r later ≤ top r
  top_need r other = omega (arith, farthest_other h l later r other)

  -- ---- how far the floor of its ring is behind a Transfer Event

  module _ (transfer : is_transfer_event (kind b) ≡ true) (f : TransferFacts h k b) where
    record IsPassed : Type 0 where
      spot : number f.spot ≤ floor_number (l.ring f.ring)
      block : is_stopping (code_told h k b) ≡ false → number f.spot + 1 ≤ floor_number (l.ring f.ring)
      success : is_success (code_told h k b) ≡ true → number f.spot + 1 ≤ floor_number (l.ring f.ring)

    m : Known
    m = transferred h k (code_told h k b) (slot b) (endpoint b) f.ring f.spot

    floor_is : floor_number (l.ring f.ring) ≡ floor_number (m.ring f.ring)
    unfolding m
    floor_is = ap (λ (x : Known). floor_number (x.ring f.ring)) (read_is h k b transfer f)

    behind : (m.ring f.ring).floor ≡ after (shape_of h f.ring) (number f.spot) → number f.spot + 1 ≤ floor_number (l.ring f.ring)
    behind floor = omega (arith, floor_is, ap (λ t. number t) floor, number-after (shape_of h f.ring) (number f.spot))

    by_block : number f.spot + 1 ≤ floor_number (l.ring f.ring) → IsPassed
    by_block on = record { spot = omega (arith, on); block = λ _. on; success = λ _. on }

    is_passed : IsPassed
    unfolding m
    is_passed =
        elim (cases_Bool (is_success (code_told h k b))) [
          | inl success ↦ by_block (behind (success_floor h k b transfer f (code_told h k b) (slot b) (endpoint b) f.ring f.spot success))
          | inr fails ↦ elim (cases_Bool (is_halting (code_told h k b) || is_trb_error (code_told h k b))) [
            | inl breaks ↦ by_block (behind (error_ring h k b transfer f (code_told h k b) (slot b) (endpoint b) f.ring f.spot fails breaks).floor)
            | inr quiet ↦
                let c = stop_code h k b f fails quiet in
                let there = (stop_ring h k b transfer f (code_told h k b) (slot b) (endpoint b) f.ring f.spot c.success c.halting c.error c.stopping).floor in
                record {
                  spot = omega (arith, floor_is, ap (λ t. number t) there);
                  block = λ goes_on. absurd (false≢true (sym goes_on ∙ c.stopping));
                  success = λ success. absurd (false≢true (sym fails ∙ success));
                }
          ]
        ]

    reported_here : (r : ℕ) → is_success (code_told h k b) ≡ true → number_behind r (Some (record { ring = f.ring; spot = f.spot })) ≤ floor_number (l.ring r)
    unfolding number_behind
    reported_here r success = search (rules, arith, cond_both, number, floor_number, l, eqb-true, is_passed)

  pub reported_most : (r : ℕ) → number_reported h k r (Read b) ≤ floor_number (l.ring r)
  unfolding number_reported number_behind
  reported_most r =
      cond_both (is_report_of_success h k b) (number_behind r (event_at h k b)) 0 (λ n. n ≤ floor_number (l.ring r))
      (λ report.
      let parts = and_parts (is_transfer_event (kind b)) (is_success (code_told h k b)) report in
      elim (transfer_facts h k b clean parts.0) [
        | inl f ↦ subst (λ o. number_behind r o ≤ floor_number (l.ring r)) (sym f.at) (reported_here parts.0 f r parts.1)
        | inr s ↦ subst (λ o. number_behind r o ≤ floor_number (l.ring r)) (sym s.none) (omega arith)
      ]) (λ _. omega arith)

  -- ---- its goals

  abbrev IsWithin : RingSpot → Type 0
  IsWithin goal = number goal.spot ≤ top goal.ring

  taken_within : (n r : ℕ) → n ≤ top r → IsWithin (taken_up_to h r n)
  unfolding taken_up_to
  taken_within n r low = omega (arith, low, number_taken (shape_of h r) n)

  module _ (is : IsHeader h) (d : DriverKeeps h k) where
    -- a ring of transfers
    other_than : (s i r : ℕ) → k.ring_of s i ≡ Some r → r ≢ command_id h
    other_than s i r bound same = transfer_not_command h is r (d.states.transfer s i r bound) same

    command_within : may_be_taken h k ≡ true → IsWithin (command_taken h k)
    unfolding command_taken
    command_within taken =
        let some = some_slack h k (event_facts h k b clean).started taken in
        taken_within (next_command h k + 1) (command_id h) (omega (arith, some, next_is h k, event_slack h is k d b, farthest_command h l later (command_id h) refl))

    open_within : (s i : ℕ) (o : Option ℕ) → k.ring_of s i ≡ o → AreWithin top (open_goals h k later b o)
    unfolding open_goals taken_up_to
    open_within s i None bound = tt
    open_within s i (Some r) bound =
        cond_both (is_open (k.ring r)) (taken_up_to h r (need h l r later) ∷ []) [] (AreWithin top) (λ _. (taken_within (need h l r later) r (top_need r (other_than s i r bound)), tt)) (λ _. tt)

    stopped_within : (o : Option Command) → AreWithin top (stopped_goals h k later b o)
    unfolding stopped_goals
    stopped_within (Some (StopEndpoint s i)) = cond_both (code b == 1) (open_goals h k later b (k.ring_of s i)) [] (AreWithin top) (λ _. open_within s i (k.ring_of s i) refl) (λ _. tt)
    stopped_within _ = tt

    completion_taken : is_command_completion (kind b) ≡ true → may_be_taken h k ≡ true
    unfolding may_be_taken
    completion_taken completion = lt-ltb (next_command h k) _ (completion_says h k b completion clean).below

    module _ (transfer : is_transfer_event (kind b) ≡ true) (f : TransferFacts h k b) where
      abbrev at : RingSpot
      at = record { ring = f.ring; spot = f.spot }

      stop_within : (n : ℕ) → n ≤ top f.ring → IsWithin (stop_goal h at n)
      unfolding stop_goal
      stop_within n low =
          cond_both (n == number f.spot + 1) (taken_up_to h f.ring n) at IsWithin
          (λ _. taken_within n f.ring low) (λ _. top_floor f.ring (number f.spot) (is_passed transfer f).spot)

      report_within : AreWithin top (report_goals h k later b (Some at))
      unfolding report_goals
      report_within =
          cond_both (is_stopping (code_told h k b)) (command_taken h k ∷ stop_goal h at (need h l f.ring later) ∷ []) (taken_up_to h f.ring (number f.spot + 1) ∷ []) (AreWithin top)
          (λ stopping. (command_within (stopping_taken h k b f stopping), (stop_within (need h l f.ring later) (top_need f.ring (other_than (slot b) (endpoint b) f.ring f.bound)), tt)))
          (λ goes_on. (taken_within (number f.spot + 1) f.ring (top_floor f.ring (number f.spot + 1) ((is_passed transfer f).block goes_on)), tt))

    kind_within : (n : BlockKind) → kind b ≡ n → AreWithin top (lazy_goals h k later n b)
    unfolding lazy_goals report_goals stopped_goals open_goals
    kind_within TransferEvent is_kind =
        elim (transfer_facts h k b clean (ap is_transfer_event is_kind)) [
          | inl f ↦ subst (λ o. AreWithin top (report_goals h k later b o)) (sym f.at) (report_within (ap is_transfer_event is_kind) f)
          | inr s ↦ subst (λ o. AreWithin top (report_goals h k later b o)) (sym s.none) tt
        ]
    kind_within CommandCompletion is_kind = (command_within (completion_taken (ap is_command_completion is_kind)), stopped_within (command_at h k (next_command h k)))
    kind_within _ is_kind = tt

    pub goals_within : AreWithin top (lazy_goals h k later (kind b) b)
    goals_within = kind_within (kind b) refl

    -- ---- how many looks they are

    low_id : (r : ℕ) → IsDriverRing h r → r < 256
    low_id r ring =
        let found = found_in (λ q. q.id == r) h.rings ring.ring ring.found in
        let allowed = and_parts (nat_lt ring.ring.id 256) (is_shape ring.ring.shape) (each_passes (λ q. nat_lt q.id 256 && is_shape q.shape) h.rings ring.ring (header_parts h is).0 found.0) in
        omega (arith, ltb-true ring.ring.id 256 allowed.0, eqb-true ring.ring.id r found.1)

    module _ (pointers : ℕ → Spot) where
      -- the goal is on a transfer ring
      ring_few : (goal : RingSpot) → IsTransferRing h goal.ring → AreFew h pointers (goal ∷ [])
      ring_few goal ring = search (rules, transfer_driver, ring_goal, low_id, driver_test, transfer_not_command)

      taken_on : (r n : ℕ) → IsTransferRing h r → IsTransferRing h (taken_up_to h r n).ring
      unfolding taken_up_to
      taken_on r n ring = ring

    -- or on the command ring, where the next command can have been taken
    module _ (pointers : ℕ → Spot) (taken : may_be_taken h k ≡ true) where
      command_ring : IsDriverRing h (command_id h)
      unfolding may_be_taken
      command_ring = command_is_ring h k d (named_if_taken h k d (event_facts h k b clean).started (ltb-true (next_command h k) _ taken))

      command_few : AreFew h pointers (command_taken h k ∷ [])
      unfolding command_taken taken_up_to
      command_few = command_goal h pointers (command_taken h k) (low_id (command_id h) command_ring) (driver_test h (command_id h) command_ring) refl

      both_few : (goal : RingSpot) → IsTransferRing h goal.ring → AreFew h pointers (command_taken h k ∷ goal ∷ [])
      unfolding command_taken taken_up_to
      both_few goal ring = search (rules, transfer_driver, two_goals, transfer_not_command, low_id, command_ring, driver_test)

    module _ (pointers : ℕ → Spot) where
      module _ (transfer : is_transfer_event (kind b) ≡ true) (f : TransferFacts h k b) where
        on_ring : IsTransferRing h f.ring
        on_ring = d.states.transfer (slot b) (endpoint b) f.ring f.bound

        stop_on : (n : ℕ) → IsTransferRing h (stop_goal h (at transfer f) n).ring
        unfolding stop_goal
        stop_on n =
            cond_both (n == number f.spot + 1) (taken_up_to h f.ring n) (at transfer f) (λ (g : RingSpot). IsTransferRing h g.ring) (λ _. taken_on pointers f.ring n on_ring) (λ _. on_ring)

        report_few : AreFew h pointers (report_goals h k later b (Some (at transfer f)))
        unfolding report_goals
        report_few =
            cond_both (is_stopping (code_told h k b)) (command_taken h k ∷ stop_goal h (at transfer f) (need h l f.ring later) ∷ []) (taken_up_to h f.ring (number f.spot + 1) ∷ []) (AreFew h pointers)
            (λ stopping. both_few pointers (stopping_taken h k b f stopping) (stop_goal h (at transfer f) (need h l f.ring later)) (stop_on (need h l f.ring later)))
            (λ _. ring_few pointers (taken_up_to h f.ring (number f.spot + 1)) (taken_on pointers f.ring (number f.spot + 1) on_ring))

      open_few : may_be_taken h k ≡ true → (s i : ℕ) (o : Option ℕ) → k.ring_of s i ≡ o → AreFew h pointers (command_taken h k ∷ open_goals h k later b o)
      unfolding open_goals
      open_few taken s i None bound = command_few pointers taken
      open_few taken s i (Some r) bound =
          let goal : RingSpot = taken_up_to h r (need h l r later) in
          cond_both (is_open (k.ring r)) (goal ∷ []) [] (λ list. AreFew h pointers (command_taken h k ∷ list))
          (λ _. both_few pointers taken goal (taken_on pointers r (need h l r later) (d.states.transfer s i r bound))) (λ _. command_few pointers taken)

      stopped_few : may_be_taken h k ≡ true → (o : Option Command) → AreFew h pointers (command_taken h k ∷ stopped_goals h k later b o)
      unfolding stopped_goals
      stopped_few taken (Some (StopEndpoint s i)) =
          cond_both (code b == 1) (open_goals h k later b (k.ring_of s i)) [] (λ list. AreFew h pointers (command_taken h k ∷ list)) (λ _. open_few taken s i (k.ring_of s i) refl)
          (λ _. command_few pointers taken)
      stopped_few taken _ = command_few pointers taken

      kind_few : (n : BlockKind) → kind b ≡ n → AreFew h pointers (lazy_goals h k later n b)
      unfolding lazy_goals report_goals stopped_goals open_goals
      kind_few TransferEvent is_kind =
          elim (transfer_facts h k b clean (ap is_transfer_event is_kind)) [
            | inl f ↦ subst (λ o. AreFew h pointers (report_goals h k later b o)) (sym f.at) (report_few (ap is_transfer_event is_kind) f)
            | inr s ↦ subst (λ o. AreFew h pointers (report_goals h k later b o)) (sym s.none) (no_goal h pointers)
          ]
      kind_few CommandCompletion is_kind = stopped_few (completion_taken (ap is_command_completion is_kind)) (command_at h k (next_command h k))
      kind_few _ is_kind = no_goal h pointers

      pub goals_few : AreFew h pointers (lazy_goals h k later (kind b) b)
      goals_few = kind_few (kind b) refl
