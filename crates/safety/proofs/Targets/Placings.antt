-- A command of which what was tested still holds places endpoints where it may
use Rattle.safety.proofs.LowerLaws.{typed, typed_by_context, [], ◌≡◌, ◌≢◌, ◌<◌, ◌≤◌, ◌==◌, ◌&&◌, ◌||◌, if◌then◌else◌, ◌∷◌, ◌∙◌, ℕ, Bool, true, false, List, map, length, All, Option, Some, arith, refl, sym, ap, get_or, eq-eqb, ne_eqb, subst, rules, EndpointRestored, IsShape, IsShownTo, Shape, shown_where_restored, list_any, cases_option, none-some, same_Some, cond-true, cond-false, and_from, and_right, or_parts, or_left, not-false, false≢true, All-head, All-tail, list_any_at, length-map, get_or-map, put_pair, Spot, number, RingView, RingKeeps, is_placement, declared, floor_number, ceiling, target, is_move, is_reached, floor_given, given_count_declared, ceiling_within, move_target, added_endpoints, is_dropped, context_pointer, context_cycle, Command, AddressDevice, ConfigureEndpoint, SetTrDequeue, EndpointState, Off, Running, is_off, is_at_rest, Change, SlotGoesOn, Disables, Places, changes, placed_by_context, Header, IsHeader, shape_of, is_ring, ring_having, Known, on_ring, set_to, bound_to, moved_to, moved, pointed, disabled, in_state, changed_by, Binding, drops, is_placed, is_among, has_repeats, binding_in, binds, ring_bound, binds_ring, is_bad_dequeue, is_bad_move, RingsKeep, EndpointsKeep, MayPoint, MayChangeAll, StillHolds, each_fails, any_of_map, shape_allowed, having_transfer, target_here, target_placed}
use Rattle.safety.specs.DriverRings.{IsDriverRing}
use Rattle.safety.proofs.HeaderRings.RingIds.{transfer_driver}
use Rattle.safety.proofs.RingsKeep.DriverRows.{ring_elsewhere}

pub at_rest_on : (state : EndpointState) → is_at_rest state ≡ true → is_off state ≡ true → ⊥
at_rest_on o rest off = grind (arith, false≢true)

-- an endpoint is off, and the ring that it gets is free and stands still where it is placed
pub record Ready (h : Header) (l : Known) (memory : ℕ → ℕ) (s i p : ℕ) (cycle : Bool) : Type 0 where
  pub off : is_off (l.endpoint_state s i) ≡ true
  pub ring : ℕ
  pub named : ring_having h p ≡ Some ring
  pub free : (t j : ℕ) → l.ring_of t j ≢ Some ring
  pub keeps : RingKeeps (shape_of h ring) memory (l.ring ring)
  pub placed : is_placement (shape_of h ring) (l.ring ring) p cycle ≡ true

module _ (h : Header) (is : IsHeader h) where
  -- ---- Set TR Dequeue

  moves_by : (k : Known) → RingsKeep h k → EndpointsKeep h k → (s i r : ℕ) → k.ring_of s i ≡ Some r → (p : ℕ) (cycle : Bool) (least most : ℕ) (t : Spot) →
      floor_number (k.ring r) ≤ least → most ≤ declared (k.ring r) → is_move (shape_of h r) (k.ring r) p cycle least most ≡ true → target (shape_of h r) (k.ring r) p cycle ≡ Some t →
      is_reached (shape_of h r) (k.ring r) t ≡ true
  moves_by k rings endpoints s i r at p cycle least most t low high moves named =
      let driver : IsDriverRing h r = transfer_driver h r (endpoints.transfer s i r at) in
      move_target (shape_of h r) (shape_allowed h is r driver) k.memory (k.ring r) (rings r driver) p cycle least most t low high moves named

  moves_to : (k : Known) → RingsKeep h k → EndpointsKeep h k → (s i p : ℕ) (cycle : Bool) (r : ℕ) (t : Spot) → is_bad_dequeue h k (Some r) p cycle ≡ false →
      k.ring_of s i ≡ Some r → target (shape_of h r) (k.ring r) p cycle ≡ Some t → is_reached (shape_of h r) (k.ring r) t ≡ true
  unfolding is_bad_dequeue
  moves_to k rings endpoints s i p cycle r t good at named =
      let driver : IsDriverRing h r = transfer_driver h r (endpoints.transfer s i r at) in
      let within = ceiling_within (shape_of h r) (shape_allowed h is r driver) k.memory (k.ring r) (rings r driver) in
      moves_by k rings endpoints s i r at p cycle (ceiling (shape_of h r) (k.ring r)) (declared (k.ring r)) t within.0 (omega arith)
      (not-false (is_move (shape_of h r) (k.ring r) p cycle (ceiling (shape_of h r) (k.ring r)) (declared (k.ring r))) good) named

  dequeue_points : (k : Known) → RingsKeep h k → EndpointsKeep h k → (s i p : ℕ) (cycle : Bool) → is_bad_move h k (SetTrDequeue s i p cycle) ≡ false → EndpointRestored k s i → MayPoint h k s i p cycle
  unfolding is_bad_move
  dequeue_points k rings endpoints s i p cycle good restored = search (rules, or_parts, not-false, at_rest_on, moves_to, shown_where_restored)

  -- ---- where a binding is placed

  -- the ring that a binding names, and that it stands still where it is placed
  pub record Placed (k : Known) (b : Binding) : Type 0 where
    pub ring : ℕ
    pub named : ring_bound h b ≡ Some ring
    pub placed : is_placement (shape_of h ring) (k.ring ring) b.pointer b.cycle ≡ true

  pub placed_at : (k : Known) (b : Binding) → is_placed h k (ring_bound h b) b ≡ true → Placed k b
  unfolding is_placed
  placed_at k b placed = search (rules, cases_option, false≢true)

  having_driver : (p r : ℕ) → ring_having h p ≡ Some r → IsDriverRing h r
  having_driver p r at = transfer_driver h r (having_transfer h is p r at)

  -- its target is the spot at which it stands
  ready_reached : (l : Known) (memory : ℕ → ℕ) (s i p : ℕ) (cycle : Bool) → Ready h l memory s i p cycle → (r : ℕ) (t : Spot) → ring_having h p ≡ Some r → target (shape_of h r) (l.ring r) p cycle ≡ Some t →
      is_reached (shape_of h r) (l.ring r) t ≡ true
  unfolding is_placement
  ready_reached l memory s i p cycle b r t at named =
      let allowed = shape_allowed h is b.ring (having_driver p b.ring b.named) in
      let high = given_count_declared (shape_of h b.ring) allowed memory (l.ring b.ring) b.keeps in
      let within = ceiling_within (shape_of h b.ring) allowed memory (l.ring b.ring) b.keeps in
      subst (λ n. target (shape_of h n) (l.ring n) p cycle ≡ Some t → is_reached (shape_of h n) (l.ring n) t ≡ true) (same_Some b.ring r (sym b.named ∙ at))
      (move_target (shape_of h b.ring) allowed memory (l.ring b.ring) b.keeps p cycle (ceiling (shape_of h b.ring) (l.ring b.ring)) (floor_number (l.ring b.ring)) t within.0 (omega arith) b.placed)
      named

  -- what is free and lies below the floor is below the ceiling too
  floor_shown : (shape : Shape) → IsShape shape → (memory : ℕ → ℕ) (v : RingView) → RingKeeps shape memory v → (t : Spot) → number t ≡ floor_number v → IsShownTo shape v (number t)
  floor_shown shape allowed memory v keeps t here p free below = omega (arith, below, here, (ceiling_within shape allowed memory v keeps).0)

  ready_shown : (l : Known) (memory : ℕ → ℕ) (s i p : ℕ) (cycle : Bool) → Ready h l memory s i p cycle → (r : ℕ) (t : Spot) → ring_having h p ≡ Some r → target (shape_of h r) (l.ring r) p cycle ≡ Some t →
      IsShownTo (shape_of h r) (l.ring r) (number t)
  ready_shown l memory s i p cycle b r t at named =
      let allowed = shape_allowed h is b.ring (having_driver p b.ring b.named) in
      let low = floor_given (shape_of h b.ring) allowed memory (l.ring b.ring) b.keeps in
      let high = given_count_declared (shape_of h b.ring) allowed memory (l.ring b.ring) b.keeps in
      let within = ceiling_within (shape_of h b.ring) allowed memory (l.ring b.ring) b.keeps in
      search (rules, target, shape_of, number, same_Some, floor_shown, target_placed, named)

  ready_points : (l : Known) (memory : ℕ → ℕ) (s i p : ℕ) (cycle : Bool) → Ready h l memory s i p cycle → MayPoint h l s i p cycle
  ready_points l memory s i p cycle b = record {
    binds = λ off r t at named. ready_reached l memory s i p cycle b r t at named;
    moves = λ on r t at named. absurd (false≢true (sym on ∙ b.off));
    bound_shown = λ off r t at named. ready_shown l memory s i p cycle b r t at named;
    moved_shown = λ on r t at named. absurd (false≢true (sym on ∙ b.off));
  }

  -- ---- Address Device

  pub address_ready : (k : Known) → RingsKeep h k → (s n : ℕ) (bsr : Bool) → StillHolds h k (AddressDevice s bsr n) → is_off (k.endpoint_state s 1) ≡ true →
      Ready h k k.memory s 1 (context_pointer h.context_size k.memory n 1) (context_cycle h.context_size k.memory n 1)
  unfolding binds_ring binding_in ring_bound drops binds
  address_ready k rings s n bsr still off =
      let one = cond-true (is_off (k.endpoint_state s 1)) (binding_in h k n 1 ∷ []) [] off in
      let at : Placed k (binding_in h k n 1) =
      placed_at k (binding_in h k n 1)
      (All-head (λ b. is_placed h k (ring_bound h b) b ≡ true) (binding_in h k n 1) [] (subst (λ bs. All (λ b. is_placed h k (ring_bound h b) b ≡ true) bs) one still.placed)) in
      let bound : binds_ring h k at.ring (AddressDevice s bsr n) ≡ true =
      ap (λ bs. list_any (λ b. is_ring at.ring (ring_bound h b)) bs) one
      ∙ or_left (is_ring at.ring (ring_bound h (binding_in h k n 1))) false (ap (is_ring at.ring) at.named ∙ eq-eqb at.ring at.ring refl) in
      search (rules, false≢true, having_driver, context_pointer)

  address_points : (k : Known) → RingsKeep h k → EndpointsKeep h k → (s n : ℕ) (bsr : Bool) → StillHolds h k (AddressDevice s bsr n) →
      MayPoint h k s 1 (context_pointer h.context_size k.memory n 1) (context_cycle h.context_size k.memory n 1)
  address_points k rings endpoints s n bsr still =
      let p : ℕ = context_pointer h.context_size k.memory n 1 in
      let cycle : Bool = context_cycle h.context_size k.memory n 1 in
      record {
        binds = λ off r t at named. ready_reached k k.memory s 1 p cycle (address_ready k rings s n bsr still off) r t at named;
        moves = λ on r t at named.
            let driver : IsDriverRing h r = transfer_driver h r (endpoints.transfer s 1 r at) in
            let allowed = shape_allowed h is r driver in
            let low = floor_given (shape_of h r) allowed k.memory (k.ring r) (rings r driver) in
            let high = given_count_declared (shape_of h r) allowed k.memory (k.ring r) (rings r driver) in
            moves_by k rings endpoints s 1 r at p cycle (floor_number (k.ring r)) (floor_number (k.ring r)) t (omega arith) (omega arith) (still.moves_on on r at) named;
        bound_shown = λ off r t at named. ready_shown k k.memory s 1 p cycle (address_ready k rings s n bsr still off) r t at named;
        moved_shown = λ on r t at named.
            let driver : IsDriverRing h r = transfer_driver h r (endpoints.transfer s 1 r at) in
            let allowed = shape_allowed h is r driver in
            let low = floor_given (shape_of h r) allowed k.memory (k.ring r) (rings r driver) in
            let high = given_count_declared (shape_of h r) allowed k.memory (k.ring r) (rings r driver) in
            floor_shown (shape_of h r) allowed k.memory (k.ring r) (rings r driver) t (target_here (shape_of h r) (k.ring r) p cycle t (omega (arith, low, high)) (still.moves_on on r at) named);
      }

  same_points : (k l : Known) (s i p : ℕ) (cycle : Bool) → k.endpoint_state ≡ l.endpoint_state → k.ring_of ≡ l.ring_of → k.ring ≡ l.ring → MayPoint h k s i p cycle → MayPoint h l s i p cycle
  same_points k l s i p cycle states ring_of rings may = search rules

  -- ---- Configure Endpoint

  -- the ring that the context of index i names, in the input context at address a
  abbrev pub ring_at : (ℕ → ℕ) → ℕ → ℕ → Option ℕ
  ring_at memory a i = ring_having h (context_pointer h.context_size memory a i)

  -- the endpoint of slot s at index i may be added
  abbrev pub ReadyAt : Known → (ℕ → ℕ) → ℕ → ℕ → ℕ → Type 0
  ReadyAt l memory s a i = Ready h l memory s i (context_pointer h.context_size memory a i) (context_cycle h.context_size memory a i)

  -- what a binding leaves as it is
  pub record BoundThere (l m : Known) (s i r : ℕ) : Type 0 where
    pub states : m.endpoint_state ≡ put_pair l.endpoint_state s i Running
    pub ring_of : m.ring_of ≡ put_pair l.ring_of s i (Some r)
    pub rings : (q : ℕ) → q ≢ r → m.ring q ≡ l.ring q

  pub pointed_is : (l : Known) (s i p r : ℕ) (cycle : Bool) → is_off (l.endpoint_state s i) ≡ true → ring_having h p ≡ Some r → pointed h l s i p cycle ≡ bound_to h l s i (Some r) p cycle
  unfolding pointed
  pointed_is l s i p r cycle off at = search (rules, cond-true, is_off, bound_to, ring_having, moved)

  pub placed_there : (c : Command) (l : Known) (s i p r : ℕ) (cycle : Bool) → is_off (l.endpoint_state s i) ≡ true → ring_having h p ≡ Some r → BoundThere l (changed_by h c l (Places s i p cycle Running)) s i r
  unfolding changed_by bound_to moved moved_to in_state set_to on_ring
  placed_there c l s i p r cycle off at =
      let there : BoundThere l (in_state h (pointed h l s i p cycle) s i Running) s i r =
      subst (λ m. BoundThere l (in_state h m s i Running) s i r) (sym (pointed_is l s i p r cycle off at)) (search (rules, ring_elsewhere, on_ring, number)) in
      record { states = there.states; ring_of = there.ring_of; rings = there.rings }

  -- another index stays ready
  pub ready_next : (c : Command) (l : Known) (memory : ℕ → ℕ) (s a i r j : ℕ) → is_off (l.endpoint_state s i) ≡ true → ring_at memory a i ≡ Some r → ReadyAt l memory s a j →
      is_ring r (ring_at memory a j) ≡ false → ReadyAt (changed_by h c l (placed_by_context h.context_size memory s a i)) memory s a j
  ready_next c l memory s a i r j off at ready apart =
      let not_r : ready.ring ≢ r = λ same. false≢true (sym apart ∙ ap (is_ring r) ready.named ∙ eq-eqb ready.ring r same) in
      let there : BoundThere l (changed_by h c l (placed_by_context h.context_size memory s a i)) s i r = placed_there c l s i (context_pointer h.context_size memory a i) r (context_cycle h.context_size memory a i) off at in
      search (rules, is_off, cond-false, and_right, ne_eqb, same_Some, cond-true, shape_of, is_placement, context_pointer, context_cycle)

  -- each in turn
  each_points : (c : Command) (memory : ℕ → ℕ) (s a : ℕ) (indices : List ℕ) (l : Known) → All (ReadyAt l memory s a) indices →
      has_repeats (map (ring_at memory a) indices) ≡ false → MayChangeAll h c l (map (placed_by_context h.context_size memory s a) indices)
  unfolding has_repeats is_among
  each_points c memory s a [] l ready apart = tt
  each_points c memory s a (i ∷ rest) l ready apart =
      let here : ReadyAt l memory s a i = All-head (ReadyAt l memory s a) i rest ready in
      let r : ℕ = here.ring in
      let parts = or_parts (is_among (map (ring_at memory a) rest) (ring_at memory a i)) (has_repeats (map (ring_at memory a) rest)) apart in
      let none : list_any (is_ring r) (map (ring_at memory a) rest) ≡ false = sym (ap (is_among (map (ring_at memory a) rest)) here.named) ∙ parts.0 in
      let others : All (λ j. is_ring r (ring_at memory a j) ≡ false) rest =
      each_fails (λ j. is_ring r (ring_at memory a j)) rest (sym (any_of_map (is_ring r) (ring_at memory a) rest) ∙ none) in
      let change : Change = placed_by_context h.context_size memory s a i in (
        ready_points l memory s i (context_pointer h.context_size memory a i) (context_cycle h.context_size memory a i) here,
        each_points c memory s a rest (changed_by h c l change)
            (λ x d inside. ready_next c l memory s a i r (get_or rest x d) here.off here.named ((All-tail (ReadyAt l memory s a) i rest ready) x d inside) (others x d inside)) parts.1,
      )

  pub map_map : {X Y Z : Type 0} (g : Y → Z) (f : X → Y) (xs : List X) → map g (map f xs) ≡ map (λ x. g (f x)) xs
  map_map g f [] = refl
  map_map g f (x ∷ rest) = ap (λ ys. g (f x) ∷ ys) (map_map g f rest)

  -- behind the drops
  abbrev pub dropped : Command → Known → ℕ → ℕ → Known
  dropped c k s a = changed_by h c (changed_by h c (changed_by h c k (SlotGoesOn s)) (typed_by_context h.context_size k.memory s a)) (Disables s (is_dropped k.memory a))

  dropped_rings : (c : Command) (k : Known) (s a : ℕ) → (dropped c k s a).ring ≡ k.ring
  unfolding changed_by disabled typed
  dropped_rings c k s a = refl

  off_then : (off drops : Bool) (state : EndpointState) (s : ℕ) → is_off state ≡ off → (off || drops) ≡ true → is_off (if s == s && drops then Off else state) ≡ true
  off_then off true state s at free = ap is_off (cond-true (s == s && true) Off state (and_from (s == s) true (eq-eqb s s refl) refl))
  off_then true false state s at free = ap is_off (cond-false (s == s && false) Off state (and_right (s == s) false refl)) ∙ at
  off_then false false state s at free = absurd (false≢true free)

  pub all_ready : (k : Known) → RingsKeep h k → (s a : ℕ) → StillHolds h k (ConfigureEndpoint s false a) →
      All (ReadyAt (dropped (ConfigureEndpoint s false a) k s a) k.memory s a) (added_endpoints k.memory a)
  unfolding binds_ring binds binding_in ring_bound changed_by disabled typed drops
  all_ready k rings s a still x d inside =
      let c : Command = ConfigureEndpoint s false a in
      let added : List ℕ = added_endpoints k.memory a in
      let i : ℕ = get_or added x d in
      let mapped : x < length (map (binding_in h k a) added) = omega (arith, length-map added (binding_in h k a)) in
      let at = get_or-map (binding_in h k a) added x d (binding_in h k a d) inside in
      let there : Placed k (binding_in h k a i) =
      placed_at k (binding_in h k a i) (ap (λ b. is_placed h k (ring_bound h b) b) (sym at) ∙ still.placed x (binding_in h k a d) mapped) in
      let bound : binds_ring h k there.ring c ≡ true =
      any_of_map (λ b. is_ring there.ring (ring_bound h b)) (binding_in h k a) added
      ∙ list_any_at (λ j. is_ring there.ring (ring_at k.memory a j)) added x d inside (ap (is_ring there.ring) there.named ∙ eq-eqb there.ring there.ring refl) in
      search (rules, is_off, off_then, is_dropped, dropped, none-some, cond-true, cond-false, false≢true, shape_of, dropped_rings, having_driver, context_pointer, is_placement, context_cycle)

  configures : (k : Known) → RingsKeep h k → (s a : ℕ) → StillHolds h k (ConfigureEndpoint s false a) →
      MayChangeAll h (ConfigureEndpoint s false a) (dropped (ConfigureEndpoint s false a) k s a) (map (placed_by_context h.context_size k.memory s a) (added_endpoints k.memory a))
  unfolding binds binding_in ring_bound
  configures k rings s a still =
      let c : Command = ConfigureEndpoint s false a in
      each_points c k.memory s a (added_endpoints k.memory a) (dropped c k s a) (all_ready k rings s a still)
      (ap has_repeats (sym (map_map (ring_bound h) (binding_in h k a) (added_endpoints k.memory a))) ∙ still.repeats)

  -- ---- any command

  behind_slot : (c : Command) (k : Known) (s : ℕ) → (k.endpoint_state ≡ (changed_by h c k (SlotGoesOn s)).endpoint_state) × (k.ring_of ≡ (changed_by h c k (SlotGoesOn s)).ring_of)
      × (k.ring ≡ (changed_by h c k (SlotGoesOn s)).ring)
  unfolding changed_by
  behind_slot c k s = (refl, refl, refl)

  pub still_places : (k : Known) → RingsKeep h k → EndpointsKeep h k → (n : ℕ) (c : Command) → StillHolds h k c → MayChangeAll h c k (changes h.context_size k.memory n c)
  unfolding changes
  still_places k rings endpoints n z still =
      grind (arith, behind_slot, same_points, changed_by, context_pointer, context_cycle, address_points, rings, configures, dequeue_points)
