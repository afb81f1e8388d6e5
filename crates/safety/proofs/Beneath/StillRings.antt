-- Behind an event an endpoint whose doorbell does nothing stays one
use Rattle.safety.proofs.UpperLaws.{code_told, [], ◌≡◌, ◌==◌, ◌&&◌, ◌∙◌, ℕ, not, true, false, Option, Some, refl, sym, ap, subst, inl, inr, eqb-true, eq-eqb, rules, list_any, cases_Bool, and_parts, or_from, and_from, not-false, false≢true, false_from_ne_true, Block, BlockKind, TransferEvent, CommandCompletion, kind, slot, endpoint, is_transfer_event, is_command_completion, Spot, number, after, Command, StopEndpoint, changes, Header, Read, IsHeader, shape_of, Known, RingSpot, on_ring, event_at, next_command, passed, broken_off, transferred, transferred_at, transfer_read, event_read, learned, touches_endpoint, is_touched, is_in_profile, is_stopping_now, can_report, can_report_at, is_impossible_by_kind, lenient, some_of, any_of, DriverKeeps, IsIdleEndpoint, MayRing, arith, EventFacts, event_facts, at_pair, event_same, StopsNext, stops_is, event_ring_of, chain, unfinished_fails, completion_facts, next_unfinished, reached_held, stop_touches, TransferLeaves, transferred_leaves, listed_before, EndpointHolds}
use Rattle.commands.specs.Changes.{touches}
use Rattle.safety.proofs.StatesKeep.StatesTransfer.{reported}
use Rattle.safety.proofs.Behind.UntouchedCompletion.{completion_holds}
use Rattle.safety.proofs.Beneath.RowRuns.{StillRingsLaw}

module _ (h : Header) where
  -- an endpoint that is left is idle still
  idle_held : (k l : Known) (s i : ℕ) → EndpointHolds k l s i → IsIdleEndpoint h k s i → IsIdleEndpoint h l s i
  idle_held k l s i holds idle = search rules

  -- ---- a Transfer Event, for the endpoint of slot s at index i and its ring r

  module _ (k : Known) (s i r : ℕ) where
    passed_rest : (t : Spot) → ((passed h k r t).endpoint_state ≡ k.endpoint_state) × ((passed h k r t).ring_of ≡ k.ring_of) × ((passed h k r t).must_move ≡ k.must_move)
    unfolding passed on_ring
    passed_rest t = (refl, refl, refl)

    passed_held : (t : Spot) (q : ℕ) → ((passed h k r t).ring q).held ≡ (k.ring q).held
    unfolding passed
    passed_held t q = reached_held h k r (after (shape_of h r) (number t)) q

    pub passed_holds : (t : Spot) → EndpointHolds k (passed h k r t) s i
    passed_holds t = let rest = passed_rest t in record { state = ap (λ f. f s i) rest.0; ring_of = ap (λ f. f s i) rest.1; must_move = ap (λ f. f s i) rest.2; held = λ q at. passed_held t q }

    -- on the endpoint itself, which isn't being stopped
    transferred_idle : (c : ℕ) (t : Spot) → can_report h k c s i r t ≡ true → (is_stopping_now h k s i ≡ true → ⊥) → IsIdleEndpoint h k s i → IsIdleEndpoint h (transferred h k c s i r t) s i
    unfolding transferred can_report broken_off
    transferred_idle c t can never idle = search (rules, chain, idle_held, passed_holds, at_pair, and_parts, or_from)

  module _ (is : IsHeader h) (k : Known) (d : DriverKeeps h k) (s i : ℕ) where
    -- no unfinished command stops it
    not_stopping : k.started ≡ true → is_touched h k s i ≡ false → is_stopping_now h k s i ≡ true → ⊥
    unfolding is_touched
    not_stopping started none now =
        let stops : StopsNext h k s i = stops_is h k s i now in
        let u = next_unfinished h is k d started stops.below (StopEndpoint s i) stops.command in
        false≢true (sym (unfinished_fails h k (touches_endpoint h k s i) (next_command h k) (StopEndpoint s i) none u) ∙ stop_touches h is k d s i)

    -- an event for another endpoint
    pub other_holds : (t j r : ℕ) (l : Known) → (s ≡ t → i ≡ j → ⊥) → k.ring_of t j ≡ Some r → TransferLeaves k l t j r → EndpointHolds k l s i
    other_holds t j r l other bound leaves = search rules

    module _ (started : k.started ≡ true) (may : MayRing h k s i) where
      on_ring_idle : (c t j r : ℕ) (spot : Spot) → k.ring_of t j ≡ Some r → can_report h k c t j r spot ≡ true → IsIdleEndpoint h (transferred h k c t j r spot) s i
      on_ring_idle c t j r spot bound can =
          elim (cases_Bool (s == t && i == j)) [
            | inl same ↦
                let parts = and_parts (s == t) (i == j) same in
                let slots : s ≡ t = eqb-true s t parts.0 in
                let indices : i ≡ j = eqb-true i j parts.1 in
                let there : can_report h k c s i r spot ≡ true = ap (λ n. can_report h k c n i r spot) slots ∙ ap (λ n. can_report h k c t n r spot) indices ∙ can in
                subst (λ n. IsIdleEndpoint h (transferred h k c n j r spot) s i) slots
                (subst (λ n. IsIdleEndpoint h (transferred h k c s n r spot) s i) indices
                (transferred_idle k s i r c spot there (not_stopping started may.untouched) may.state))
            | inr other ↦
                idle_held k (transferred h k c t j r spot) s i
                (other_holds t j r (transferred h k c t j r spot) (λ a b. false≢true (sym other ∙ and_from (s == t) (i == j) (eq-eqb s t a) (eq-eqb i j b))) bound
                (transferred_leaves h k t j r c spot can)) may.state
          ]

      at_idle : (b : Block) (o : Option RingSpot) → event_at h k b ≡ o → can_report_at h k b o ≡ true → IsIdleEndpoint h (transferred_at h k b o) s i
      unfolding transferred_at can_report_at
      at_idle b o found can = grind (arith, on_ring_idle, code_told, slot, endpoint, event_ring_of)

      -- ---- any event

      event_idle : (b : Block) (n : BlockKind) → kind b ≡ n → is_impossible_by_kind h k n b ≡ false → (is_transfer_event n && not (is_in_profile h k b)) ≡ false → IsIdleEndpoint h (event_read h k n b) s i
      unfolding event_read is_impossible_by_kind transfer_read
      event_idle b TransferEvent at possible inside = at_idle b (event_at h k b) refl (reported h is k d b possible (not-false (is_in_profile h k b) inside))
      event_idle b CommandCompletion at possible inside =
          idle_held k (event_read h k CommandCompletion b) s i
          (completion_holds h s i is k d b started (completion_facts h k b (ap is_command_completion at) (ap (λ m. is_impossible_by_kind h k m b) at ∙ possible)) may.untouched) may.state
      event_idle b _ at possible inside = may.state

  -- ---- what is unfinished

  touches_same : (k : Known) (e : Block) (s i : ℕ) (c : Command) → touches_endpoint h (learned h k (Read e)) s i c ≡ touches_endpoint h k s i c
  unfolding touches_endpoint learned
  touches_same k e s i c = ap (λ m. list_any (touches s i) (changes h.context_size m 0 c)) ((event_same h k (kind e) e).memory)

  pub untouched_behind : IsHeader h → (k : Known) (d : DriverKeeps h k) (e : Block) → lenient h k (Read e) ≡ [] → (s i : ℕ) → is_touched h k s i ≡ false → is_touched h (learned h k (Read e)) s i ≡ false
  unfolding is_touched
  untouched_behind is k d e clean s i none = search (rules, false_from_ne_true, some_of, false≢true, any_of, listed_before, touches_same)

  pub still_rings : StillRingsLaw h
  unfolding learned
  still_rings k s t e is d may clean =
      let facts : EventFacts h k e = event_facts h k e clean in
      record {
        untouched = untouched_behind is k d e clean s t may.untouched;
        state = (event_idle is k d s t facts.started may e (kind e) refl facts.possible facts.inside);
      }
