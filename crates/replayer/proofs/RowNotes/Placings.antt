-- The rings that the success of a command binds or moves
use Rattle.replayer.proofs.Words.{rules, cond_both, ◌≡◌, ℕ, suc, ◌+◌, ◌-◌, ◌<◌, ◌∙◌, List, [], ◌∷◌, ◌++◌, Bool, true, false, Option, map, refl, ap, sym, arith, get_or, ◌==◌, All, filter, cases_Bool, cond-true, cond-false, or_parts, none-some, All-head, All-tail, All-nil, All-cons, All-append, Block, code, slot, ContextSize, added_endpoints, context_pointer, input_add_flag, Command, AddressDevice, ConfigureEndpoint, SetTrDequeue, EndpointState, Stopped, is_off, Change, Places, changes, placed_by_context, Header, IsHeader, is_ring, ring_having, Known, changed_by, is_among, has_repeats, binds, binding_in, ring_bound, EndpointsKeep, DriverKeeps, IsTransferRing, StillHolds, RingsKeep, endpoints_of, transfer_ring, change_keeps, ReadyAt, all_ready, dropped, map_map, ready_next, ring_at, having_transfer, each_fails, any_of_map, ring_placed, listed, placed, placed_by, placed_by_all, rings_added, cons_option, filter_map, list_any, range_with_len}

listed_alone : (o : Option ℕ) → listed o ++ [] ≡ listed o
listed_alone o = grind arith

listed_before : (o : Option ℕ) (xs : List ℕ) → listed o ++ xs ≡ cons_option o xs
listed_before o xs = grind arith

module _ (h : Header) where
  -- ---- one endpoint

  pub placed_off : (k : Known) (s i p : ℕ) (cycle : Bool) (state : EndpointState) → is_off (k.endpoint_state s i) ≡ true → ring_placed h k (Places s i p cycle state) ≡ ring_having h p
  unfolding ring_placed
  placed_off k s i p cycle state off = cond-true (is_off (k.endpoint_state s i)) (ring_having h p) (k.ring_of s i) off

  pub placed_on : (k : Known) (s i p : ℕ) (cycle : Bool) (state : EndpointState) → is_off (k.endpoint_state s i) ≡ false → ring_placed h k (Places s i p cycle state) ≡ k.ring_of s i
  unfolding ring_placed
  placed_on k s i p cycle state on = cond-false (is_off (k.endpoint_state s i)) (ring_having h p) (k.ring_of s i) on

  -- ---- the endpoints that are added

  pub pointed_from : (memory : ℕ → ℕ) (a i : ℕ) (size : ContextSize) (p : ℕ) → size ≡ h.context_size → p ≡ context_pointer size memory a i →
      ring_having h p ≡ ring_having h (context_pointer h.context_size memory a i)
  pointed_from memory a i size p same is = ap (λ q. ring_having h q) (is ∙ ap (λ (z : ContextSize). context_pointer z memory a i) same)

  module _ (memory : ℕ → ℕ) (a i : ℕ) where
    range_is : i < 32 → range_with_len i (32 - i) ≡ i ∷ range_with_len (i + 1) (32 - (i + 1))
    range_is below = ap (λ n. range_with_len i n) (let e : 32 - i ≡ suc (32 - (i + 1)) = omega arith in e)

    abbrev begins : ℕ → Option ℕ
    begins j = ring_having h (context_pointer h.context_size memory a j)

    abbrev later : List ℕ
    later = filter (input_add_flag memory a) (range_with_len (i + 1) (32 - (i + 1)))

    pub added_next : i < 32 → input_add_flag memory a i ≡ true → listed (begins i) ++ rings_added h memory a (i + 1) ≡ rings_added h memory a i
    unfolding rings_added
    added_next below e = rw (range_is below, e) (listed_before (begins i) (filter_map begins later))

    pub added_later : i < 32 → input_add_flag memory a i ≡ false → rings_added h memory a (i + 1) ≡ rings_added h memory a i
    unfolding rings_added
    added_later below e = rw (range_is below, e) refl

  pub added_end : (memory : ℕ → ℕ) (a i : ℕ) → i ≡ 32 → rings_added h memory a i ≡ []
  unfolding rings_added
  added_end memory a i e = grind arith

  module _ (is : IsHeader h) where
    -- each that is added is off when its turn comes
    placed_each : (c : Command) (memory : ℕ → ℕ) (s a : ℕ) (indices : List ℕ) (l : Known) → All (ReadyAt h is l memory s a) indices → has_repeats (map (ring_at h is memory a) indices) ≡ false →
        placed_by_all h c l (map (placed_by_context h.context_size memory s a) indices) ≡ filter_map (ring_at h is memory a) indices
    unfolding placed_by_all has_repeats is_among
    placed_each c memory s a [] l ready apart = refl
    placed_each c memory s a (i ∷ rest) l ready apart =
        let here : ReadyAt h is l memory s a i = All-head (ReadyAt h is l memory s a) i rest ready in
        let later : All (ReadyAt h is l memory s a) rest = All-tail (ReadyAt h is l memory s a) i rest ready in
        let r : ℕ = here.ring in
        let parts = or_parts (is_among (map (ring_at h is memory a) rest) (ring_at h is memory a i)) (has_repeats (map (ring_at h is memory a) rest)) apart in
        let none : list_any (is_ring r) (map (ring_at h is memory a) rest) ≡ false = sym (ap (is_among (map (ring_at h is memory a) rest)) here.named) ∙ parts.0 in
        let others : All (λ j. is_ring r (ring_at h is memory a j) ≡ false) rest =
        each_fails (λ j. is_ring r (ring_at h is memory a j)) rest (sym (any_of_map (is_ring r) (ring_at h is memory a) rest) ∙ none) in
        let change : Change = placed_by_context h.context_size memory s a i in
        let next : Known = changed_by h c l change in
        let more = placed_each c memory s a rest next (λ x d inside. ready_next h is c l memory s a i r (get_or rest x d) here.off here.named (later x d inside) (others x d inside)) parts.1 in
        grind (arith, listed, placed_by_all, placed_by_context, placed_off, ring_at, listed_before, filter_map)

    configured_places : (k : Known) → RingsKeep h k → (n s a : ℕ) → StillHolds h k (ConfigureEndpoint s false a) →
        placed_by_all h (ConfigureEndpoint s false a) k (changes h.context_size k.memory n (ConfigureEndpoint s false a)) ≡ rings_added h k.memory a 2
    unfolding changes placed_by_all ring_placed binds binding_in ring_bound rings_added added_endpoints
    configured_places k rings n s a still =
        let c : Command = ConfigureEndpoint s false a in
        placed_each c k.memory s a (added_endpoints k.memory a) (dropped h is c k s a) (all_ready h is k rings s a still)
        (ap has_repeats (sym (map_map h is (ring_bound h) (binding_in h k a) (added_endpoints k.memory a))) ∙ still.repeats)

    pub of_configure : (c : Command) (k : Known) → RingsKeep h k → (n s a : ℕ) → c ≡ ConfigureEndpoint s false a → StillHolds h k c →
        placed_by_all h c k (changes h.context_size k.memory n c) ≡ rings_added h k.memory a 2
    of_configure c k rings n s a e still = rw e (configured_places k rings n s a (rw e at still))

    -- ---- each is a transfer ring

    one_transfer : (l : Known) → EndpointsKeep h l → (change : Change) → All (IsTransferRing h) (listed (ring_placed h l change))
    unfolding ring_placed
    one_transfer l keeps change = grind (arith, Option, All-nil, All-cons, transfer_ring, cases_Bool, having_transfer, placed_off, placed_on, none-some)

    pub all_transfer : (c : Command) (all : List Change) (l : Known) → EndpointsKeep h l → All (IsTransferRing h) (placed_by_all h c l all)
    unfolding placed_by_all
    all_transfer c [] l keeps = All-nil (IsTransferRing h)
    all_transfer c (change ∷ rest) l keeps = search (rules, All-append, one_transfer, all_transfer c rest (changed_by h c l change) (change_keeps h is c l change keeps))

    by_transfer : (k : Known) → EndpointsKeep h k → (n : ℕ) (o : Option Command) → All (IsTransferRing h) (placed_by h k n o)
    unfolding placed_by
    by_transfer k keeps n o = grind (arith, All-nil, all_transfer)

    pub placed_transfer : (k : Known) → DriverKeeps h k → (b : Block) → All (IsTransferRing h) (placed h k b)
    unfolding placed
    placed_transfer k d b = cond_both (code b == 1) _ [] (All (IsTransferRing h)) (λ _. by_transfer k (endpoints_of h k d.states) (slot b) _) (λ _. All-nil (IsTransferRing h))

  -- ---- the other commands

  module _ (k : Known) (n : ℕ) where
    abbrev rings_of : Command → List ℕ
    rings_of c = placed_by_all h c k (changes h.context_size k.memory n c)

    pub of_address : (c : Command) (s a : ℕ) (bsr : Bool) → c ≡ AddressDevice s bsr a → rings_of c ≡ listed (ring_placed h k (placed_by_context h.context_size k.memory s a 1))
    unfolding changes placed_by_all ring_placed changed_by
    of_address c s a bsr e = rw e (listed_alone (ring_placed h k (placed_by_context h.context_size k.memory s a 1)))

    pub of_dequeue : (c : Command) (s i p : ℕ) (cycle : Bool) → c ≡ SetTrDequeue s i p cycle → rings_of c ≡ listed (ring_placed h k (Places s i p cycle Stopped))
    unfolding changes placed_by_all
    of_dequeue c s i p cycle e = rw e (listed_alone (ring_placed h k (Places s i p cycle Stopped)))

    pub of_deconfigure : (c : Command) (s a : ℕ) → c ≡ ConfigureEndpoint s true a → rings_of c ≡ []
    unfolding changes placed_by_all ring_placed
    of_deconfigure c s a e = rw e refl

    pub of_others : (c : Command) → ((s : ℕ) (bsr : Bool) (a : ℕ) → c ≡ AddressDevice s bsr a → ⊥) → ((s : ℕ) (dc : Bool) (a : ℕ) → c ≡ ConfigureEndpoint s dc a → ⊥) →
        ((s i p : ℕ) (cycle : Bool) → c ≡ SetTrDequeue s i p cycle → ⊥) → rings_of c ≡ []
    unfolding changes placed_by_all ring_placed
    of_others c address configure dequeue = grind arith
