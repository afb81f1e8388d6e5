-- Where more is declared of rings, an unfinished command places endpoints at the same targets
use Rattle.safety.proofs.MiddleLaws.{typed, Types, has_isochronous, input_add_flag, [], ◌≡◌, ◌≤◌, ◌==◌, ◌&&◌, if◌then◌else◌, ◌∷◌, ◌∙◌, ℕ, not, Bool, true, false, List, map, All, Some, arith, refl, sym, ap, eq-eqb, subst, get_or, ◌≢◌, false≢true, or_parts, not-false, All-head, All-tail, declared, floor_number, ceiling, target, is_move, given_count_declared, floor_given, ceiling_within, Command, NoOp, DisableSlot, AddressDevice, ConfigureEndpoint, EvaluateContext, SetTrDequeue, ResetDevice, EndpointState, Off, Running, is_off, is_at_rest, Change, SlotGoesOn, Disables, changes, placed_by_context, added_endpoints, is_dropped, context_pointer, context_cycle, Header, IsHeader, shape_of, ring_having, Known, disabled, changed_by, is_bad_dequeue, is_bad_move, IsDriverRing, DriverKeeps, StillHolds, RingView, binds, has_repeats, is_placement, binding_in, is_among, same_Some, list_any, ring_bound, is_ring, put_pair, rules, ring_shape, transfer_driver, each_fails, any_of_map, transfer_ring, rings_of, having_transfer, Ready, ReadyAt, BoundThere, ring_at, at_rest_on, address_ready, all_ready, ready_next, placed_there, map_map, target_still}
use Rattle.safety.proofs.AlikeEvents.AlikeChanges.{TargetsAre}

module _ (h : Header) where
  slot_on : (c : Command) (k : Known) (s : ℕ) → ((changed_by h c k (SlotGoesOn s)).endpoint_state ≡ k.endpoint_state) × ((changed_by h c k (SlotGoesOn s)).ring_of ≡ k.ring_of)
      × ((changed_by h c k (SlotGoesOn s)).ring ≡ k.ring)
  unfolding changed_by
  slot_on c k s = (refl, refl, refl)

  -- of a ring more is declared
  record DeclaresMore (v w : RingView) : Type 0 where
    pub floor : w.floor ≡ v.floor
    pub more : declared v ≤ declared w

  module _ (is : IsHeader h) (memory : ℕ → ℕ) where
    ready_target : (k l : Known) (s i p : ℕ) (cycle : Bool) (b : Ready h k memory s i p cycle) → DeclaresMore (k.ring b.ring) (l.ring b.ring) → (r : ℕ) → ring_having h p ≡ Some r →
        target (shape_of h r) (l.ring r) p cycle ≡ target (shape_of h r) (k.ring r) p cycle
    unfolding is_placement
    ready_target k l s i p cycle b m r at =
        let driver : IsDriverRing h b.ring = transfer_driver h b.ring (transfer_ring h b.ring (having_transfer h is p b.ring b.named)) in
        let allowed = (ring_shape h is b.ring driver).is in
        let within = ceiling_within (shape_of h b.ring) allowed memory (k.ring b.ring) b.keeps in
        let low = floor_given (shape_of h b.ring) allowed memory (k.ring b.ring) b.keeps in
        let high = given_count_declared (shape_of h b.ring) allowed memory (k.ring b.ring) b.keeps in
        subst (λ n. target (shape_of h n) (l.ring n) p cycle ≡ target (shape_of h n) (k.ring n) p cycle) (same_Some b.ring r (sym b.named ∙ at))
        (target_still (shape_of h b.ring) (k.ring b.ring) (l.ring b.ring) m.floor m.more p cycle (ceiling (shape_of h b.ring) (k.ring b.ring)) (floor_number (k.ring b.ring)) within.0 (omega arith) b.placed)

    abbrev MoreAt : Known → Known → ℕ → ℕ → Type 0
    MoreAt k l n i = (r : ℕ) → ring_at h is memory n i ≡ Some r → DeclaresMore (k.ring r) (l.ring r)

    -- each in turn
    each_targets : (c : Command) (s n : ℕ) (indices : List ℕ) (k l : Known) → l.endpoint_state ≡ k.endpoint_state → All (ReadyAt h is k memory s n) indices → All (MoreAt k l n) indices →
        has_repeats (map (ring_at h is memory n) indices) ≡ false → TargetsAre h c k l (map (placed_by_context h.context_size memory s n) indices)
    unfolding has_repeats is_among
    each_targets c s n [] k l same ready more apart = tt
    each_targets c s n (i ∷ rest) k l same ready more apart =
        let first : ReadyAt h is k memory s n i = All-head (ReadyAt h is k memory s n) i rest ready in
        let later : All (ReadyAt h is k memory s n) rest = All-tail (ReadyAt h is k memory s n) i rest ready in
        let p : ℕ = context_pointer h.context_size memory n i in
        let cycle : Bool = context_cycle h.context_size memory n i in
        let r : ℕ = first.ring in
        let change : Change = placed_by_context h.context_size memory s n i in
        let off : is_off (l.endpoint_state s i) ≡ true = ap (λ (f : ℕ → ℕ → EndpointState). is_off (f s i)) same ∙ first.off in
        let mine : BoundThere h is k (changed_by h c k change) s i r = placed_there h is c k s i p r cycle first.off first.named in
        let theirs : BoundThere h is l (changed_by h c l change) s i r = placed_there h is c l s i p r cycle off first.named in
        let parts = or_parts (is_among (map (ring_at h is memory n) rest) (ring_at h is memory n i)) (has_repeats (map (ring_at h is memory n) rest)) apart in
        let none : list_any (is_ring r) (map (ring_at h is memory n) rest) ≡ false = sym (ap (is_among (map (ring_at h is memory n) rest)) first.named) ∙ parts.0 in
        let others : All (λ j. is_ring r (ring_at h is memory n j) ≡ false) rest =
        each_fails (λ j. is_ring r (ring_at h is memory n j)) rest (sym (any_of_map (is_ring r) (ring_at h is memory n) rest) ∙ none) in (
          record {
            binds = λ is_here q at. ready_target k l s i p cycle first (All-head (MoreAt k l n) i rest more r first.named) q at;
            moves = λ on q has. absurd (false≢true (sym on ∙ first.off));
          },
          each_targets c s n rest (changed_by h c k change) (changed_by h c l change) (theirs.states ∙ ap (λ (f : ℕ → ℕ → EndpointState). put_pair f s i Running) same ∙ sym mine.states)
              (λ y e inside. ready_next h is c k memory s n i r (get_or rest y e) first.off first.named (later y e inside) (others y e inside))
              (λ y e inside q at.
              let not_r : q ≢ r = λ is_r. false≢true (sym (others y e inside) ∙ ap (is_ring r) at ∙ eq-eqb q r is_r) in
              let m : DeclaresMore (k.ring q) (l.ring q) = All-tail (MoreAt k l n) i rest more y e inside q at in
              subst (λ v. DeclaresMore v ((changed_by h c l change).ring q)) (sym (mine.rings q not_r)) (subst (λ v. DeclaresMore (k.ring q) v) (sym (theirs.rings q not_r)) m))
              parts.1,
        )

  -- behind the drops
  dropped_states : (c : Command) (k : Known) (s : ℕ) (added isochronous which : ℕ → Bool) →
      (changed_by h c (changed_by h c (changed_by h c k (SlotGoesOn s)) (Types s added isochronous)) (Disables s which)).endpoint_state ≡ (λ t i. if t == s && which i then Off else k.endpoint_state t i)
  unfolding changed_by disabled typed
  dropped_states c k s added isochronous which = refl

  dropped_rings : (c : Command) (k : Known) (s : ℕ) (added isochronous which : ℕ → Bool) →
      (changed_by h c (changed_by h c (changed_by h c k (SlotGoesOn s)) (Types s added isochronous)) (Disables s which)).ring ≡ k.ring
  unfolding changed_by disabled typed
  dropped_rings c k s added isochronous which = refl

  module _ (is : IsHeader h) (k l : Known) (d : DriverKeeps h k) (floors : (r : ℕ) → (l.ring r).floor ≡ (k.ring r).floor) (more : (r : ℕ) → declared (k.ring r) ≤ declared (l.ring r))
      (states : l.endpoint_state ≡ k.endpoint_state) where
    dequeue_target : (s i p : ℕ) (cycle : Bool) → is_bad_move h k (SetTrDequeue s i p cycle) ≡ false → (r : ℕ) → k.ring_of s i ≡ Some r →
        target (shape_of h r) (l.ring r) p cycle ≡ target (shape_of h r) (k.ring r) p cycle
    unfolding is_bad_move is_bad_dequeue
    dequeue_target s i p cycle good r has =
        let parts = or_parts (not (is_at_rest (k.endpoint_state s i))) (is_bad_dequeue h k (k.ring_of s i) p cycle) good in
        let driver : IsDriverRing h r = transfer_driver h r (d.states.transfer s i r has) in
        let high : ℕ = ceiling (shape_of h r) (k.ring r) in
        target_still (shape_of h r) (k.ring r) (l.ring r) (floors r) (more r) p cycle high (declared (k.ring r))
        (ceiling_within (shape_of h r) (ring_shape h is r driver).is k.memory (k.ring r) (d.rings r driver)).0 (omega arith)
        (not-false (is_move (shape_of h r) (k.ring r) p cycle high (declared (k.ring r))) (sym (ap (λ o. is_bad_dequeue h k o p cycle) has) ∙ parts.1))

    address_target : (s n : ℕ) (bsr : Bool) → StillHolds h k (AddressDevice s bsr n) → is_off (k.endpoint_state s 1) ≡ false → (r : ℕ) → k.ring_of s 1 ≡ Some r →
        target (shape_of h r) (l.ring r) (context_pointer h.context_size k.memory n 1) (context_cycle h.context_size k.memory n 1)
        ≡ target (shape_of h r) (k.ring r) (context_pointer h.context_size k.memory n 1) (context_cycle h.context_size k.memory n 1)
    address_target s n bsr still on r has =
        let driver : IsDriverRing h r = transfer_driver h r (d.states.transfer s 1 r has) in
        let allowed = (ring_shape h is r driver).is in
        let low = floor_given (shape_of h r) allowed k.memory (k.ring r) (d.rings r driver) in
        let high = given_count_declared (shape_of h r) allowed k.memory (k.ring r) (d.rings r driver) in
        target_still (shape_of h r) (k.ring r) (l.ring r) (floors r) (more r) (context_pointer h.context_size k.memory n 1) (context_cycle h.context_size k.memory n 1)
        (floor_number (k.ring r)) (floor_number (k.ring r)) (omega arith) (omega arith) (still.moves_on on r has)

    first_target : (s n : ℕ) (bsr : Bool) → StillHolds h k (AddressDevice s bsr n) → is_off (k.endpoint_state s 1) ≡ true → (r : ℕ) → ring_having h (context_pointer h.context_size k.memory n 1) ≡ Some r →
        target (shape_of h r) (l.ring r) (context_pointer h.context_size k.memory n 1) (context_cycle h.context_size k.memory n 1)
        ≡ target (shape_of h r) (k.ring r) (context_pointer h.context_size k.memory n 1) (context_cycle h.context_size k.memory n 1)
    first_target s n bsr still off r at =
        let b = address_ready h is k (rings_of h k d) s n bsr still off in
        ready_target is k.memory k l s 1 (context_pointer h.context_size k.memory n 1) (context_cycle h.context_size k.memory n 1) b (record { floor = floors b.ring; more = more b.ring }) r at

    no_repeats : (s a : ℕ) → StillHolds h k (ConfigureEndpoint s false a) → has_repeats (map (ring_at h is k.memory a) (added_endpoints k.memory a)) ≡ false
    unfolding binds binding_in ring_bound
    no_repeats s a still = ap has_repeats (sym (map_map h is (ring_bound h) (binding_in h k a) (added_endpoints k.memory a))) ∙ still.repeats

    rest_on : (s i p : ℕ) (cycle : Bool) → is_bad_move h k (SetTrDequeue s i p cycle) ≡ false → is_off (k.endpoint_state s i) ≡ true → ⊥
    unfolding is_bad_move
    rest_on s i p cycle good off = search (rules, at_rest_on, k.endpoint_state, not-false, is_at_rest, or_parts, not, is_bad_dequeue, k.ring_of)

    -- of any command of which holds still what was tested
    pub placed_targets : (n : ℕ) (c : Command) → StillHolds h k c → TargetsAre h c k l (changes h.context_size k.memory n c)
    unfolding changes
    placed_targets n NoOp still = tt
    placed_targets n (DisableSlot s) still = (tt, (tt, (tt, tt)))
    placed_targets n (AddressDevice s bsr a) still =
        let c : Command = AddressDevice s bsr a in
        let mine = slot_on c k s in
        let theirs = slot_on c l s in
        let p : ℕ = context_pointer h.context_size k.memory a 1 in
        let cycle : Bool = context_cycle h.context_size k.memory a 1 in (
          tt,
          (
            record {
              binds = λ off r at.
                  ap (λ f. target (shape_of h r) (f r) p cycle) theirs.2
                  ∙ first_target s a bsr still (ap (λ f. is_off (f s 1)) (sym mine.0) ∙ off) r at
                  ∙ ap (λ f. target (shape_of h r) (f r) p cycle) (sym mine.2);
              moves = λ on r has.
                  ap (λ f. target (shape_of h r) (f r) p cycle) theirs.2
                  ∙ address_target s a bsr still (ap (λ f. is_off (f s 1)) (sym mine.0) ∙ on) r (ap (λ f. f s 1) (sym mine.1) ∙ has)
                  ∙ ap (λ f. target (shape_of h r) (f r) p cycle) (sym mine.2);
            },
            tt,
          ),
        )
    placed_targets n (ConfigureEndpoint s false a) still =
        let c : Command = ConfigureEndpoint s false a in
        let added : ℕ → Bool = input_add_flag k.memory a in
        let isochronous : ℕ → Bool = has_isochronous h.context_size k.memory a in
        let types : Change = Types s added isochronous in
        let m : Known = changed_by h c (changed_by h c (changed_by h c k (SlotGoesOn s)) types) (Disables s (is_dropped k.memory a)) in
        let x : Known = changed_by h c (changed_by h c (changed_by h c l (SlotGoesOn s)) types) (Disables s (is_dropped k.memory a)) in
        let rings : k.ring ≡ m.ring = sym (dropped_rings c k s added isochronous (is_dropped k.memory a)) in
        let others : l.ring ≡ x.ring = sym (dropped_rings c l s added isochronous (is_dropped k.memory a)) in (
          tt,
          (
            tt,
            (
              tt,
              each_targets is k.memory c s a (added_endpoints k.memory a) m x
                  (dropped_states c l s added isochronous (is_dropped k.memory a)
                  ∙ ap {B = ℕ → ℕ → EndpointState} (λ (f : ℕ → ℕ → EndpointState) (t i : ℕ). if t == s && is_dropped k.memory a i then Off else f t i) states
                  ∙ sym (dropped_states c k s added isochronous (is_dropped k.memory a)))
                  (all_ready h is k (rings_of h k d) s a still)
                  (λ y e inside r at. subst (λ (f : ℕ → RingView). DeclaresMore (f r) (x.ring r)) rings (subst (λ (f : ℕ → RingView). DeclaresMore (k.ring r) (f r)) others (record { floor = floors r; more = more r })))
                  (no_repeats s a still),
            ),
          ),
        )
    placed_targets n (ConfigureEndpoint s true a) still = (tt, (tt, tt))
    placed_targets n (EvaluateContext s a) still = tt
    placed_targets n (SetTrDequeue s i p cycle) still = (record { binds = λ off. absurd (rest_on s i p cycle still.moves_on off); moves = λ on r has. dequeue_target s i p cycle still.moves_on r has }, tt)
    placed_targets n (ResetDevice s) still = (tt, (tt, tt))
    placed_targets n _ still = (tt, tt)
