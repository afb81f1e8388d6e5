-- The changes that leave the number of each ring's floor as it is
use Rattle.leases.proofs.BaseWords.{◌≡◌, ◌∷◌, ◌∙◌, ℕ, Bool, true, false, List, [], map, All, Option, Some, arith, refl, sym, ap, get_or, list_any, or_parts, false≢true, same_Some, All-head, All-tail, Spot, number, Reaches, Holds, floor_number, ceiling, target, floor_given, given_count_declared, context_pointer, context_cycle, Command, AddressDevice, is_off, Change, Places, placed_by_context, Header, IsHeader, shape_of, is_ring, ring_having, Known, on_ring, set_to, bound_to, moved_to, moved, pointed, disabled, in_state, held_at_ceiling, changed_by, typed, changed_by_all, has_repeats, DriverKeeps, StillHolds, ring_shape, transfer_driver, Ready, ReadyAt, ring_at, ready_next, view_after, each_fails, any_of_map, ceiling_within, having_transfer, target_here, target_placed, rules, transfer_is_driver}
use Rattle.safety.proofs.HeaderRings.RingsOfHeader.{shape_allowed}
use Rattle.ownership_rules.specs.Moves.{is_among}

-- ---- what leaves the floors' numbers

abbrev pub FloorsStay : Known → Known → Type 0
FloorsStay k l = (r : ℕ) → floor_number (l.ring r) ≡ floor_number (k.ring r)

pub stay_none : (k : Known) → FloorsStay k k
stay_none k r = refl

pub stay_twice : (k l m : Known) → FloorsStay k l → FloorsStay l m → FloorsStay k m
stay_twice k l m a b r = b r ∙ a r

module _ (h : Header) where
  -- an endpoint that is off gets a ring, any other one has its ring; the ring stays where it is
  pub record StaysHere (k : Known) (s i p : ℕ) (cycle : Bool) : Type 0 where
    pub binds : is_off (k.endpoint_state s i) ≡ true → (r : ℕ) (t : Spot) → ring_having h p ≡ Some r → target (shape_of h r) (k.ring r) p cycle ≡ Some t → number t ≡ floor_number (k.ring r)
    pub moves : is_off (k.endpoint_state s i) ≡ false → (r : ℕ) (t : Spot) → k.ring_of s i ≡ Some r → target (shape_of h r) (k.ring r) p cycle ≡ Some t → number t ≡ floor_number (k.ring r)

  abbrev pub ChangeStays : Known → Change → Type 0
  ChangeStays k (Places s i p cycle state) = StaysHere k s i p cycle
  ChangeStays k _ = Unit {0}

  abbrev pub ChangesStay : Command → Known → List Change → Type 0
  ChangesStay c k [] = Unit {0}
  ChangesStay c k (change ∷ rest) = ChangeStays k change × ChangesStay c (changed_by h c k change) rest

  reach_stays : (k : Known) (r : ℕ) (t : Spot) → number t ≡ floor_number (k.ring r) → FloorsStay k (on_ring h k r (Reaches t))
  reach_stays k r t here q = search (rules, view_after h (λ v. floor_number v ≡ floor_number (k.ring q)) k r (Reaches t) q)

  pub hold_stays : (k : Known) (r n : ℕ) → FloorsStay k (on_ring h k r (Holds n))
  hold_stays k r n q = view_after h (λ v. floor_number v ≡ floor_number (k.ring q)) k r (Holds n) q (λ same. ap (λ n. floor_number (k.ring n)) (sym same)) (λ _. refl)

  target_stays : (k : Known) (r : ℕ) (o : Option Spot) → ((t : Spot) → o ≡ Some t → number t ≡ floor_number (k.ring r)) → FloorsStay k (moved_to h k r o)
  unfolding moved_to set_to
  target_stays k r o here = grind (arith, stay_none, on_ring, stay_twice, number, reach_stays, hold_stays)

  moved_stays : (k : Known) (o : Option ℕ) (p : ℕ) (cycle : Bool) → ((r : ℕ) (t : Spot) → o ≡ Some r → target (shape_of h r) (k.ring r) p cycle ≡ Some t → number t ≡ floor_number (k.ring r)) →
      FloorsStay k (moved h k o p cycle)
  unfolding moved
  moved_stays k o p cycle here = grind (arith, stay_none, target_stays, target, shape_of)

  bound_stays : (k : Known) (s i : ℕ) (o : Option ℕ) (p : ℕ) (cycle : Bool) →
      ((r : ℕ) (t : Spot) → o ≡ Some r → target (shape_of h r) (k.ring r) p cycle ≡ Some t → number t ≡ floor_number (k.ring r)) → FloorsStay k (bound_to h k s i o p cycle)
  unfolding bound_to
  bound_stays k s i o p cycle here = grind (arith, stay_none, moved_stays)

  change_stays : (c : Command) (k : Known) (change : Change) → ChangeStays k change → FloorsStay k (changed_by h c k change)
  unfolding changed_by typed disabled in_state pointed held_at_ceiling
  change_stays c k change stays = grind (arith, is_off, bound_to, ring_having, moved, bound_stays, moved_stays, stay_none, hold_stays, ceiling, shape_of, in_state)

  pub changes_stay : (c : Command) (k : Known) (all : List Change) → ChangesStay c k all → FloorsStay k (changed_by_all h c k all)
  unfolding changed_by_all
  changes_stay c k [] stay = stay_none k
  changes_stay c k (change ∷ rest) stay = search (rules, stay_twice, change_stays, changes_stay c (changed_by h c k change) rest)

  -- ---- an endpoint that may be added: its ring stands still

  pub ready_stays : (is : IsHeader h) (l : Known) (memory : ℕ → ℕ) (s i p : ℕ) (cycle : Bool) → Ready h l memory s i p cycle → (r : ℕ) (t : Spot) → ring_having h p ≡ Some r →
      target (shape_of h r) (l.ring r) p cycle ≡ Some t → number t ≡ floor_number (l.ring r)
  ready_stays is l memory s i p cycle b r t at named =
      let allowed = shape_allowed h is b.ring (transfer_is_driver h b.ring (having_transfer h is p b.ring b.named)) in
      let low = floor_given (shape_of h b.ring) allowed memory (l.ring b.ring) b.keeps in
      let high = given_count_declared (shape_of h b.ring) allowed memory (l.ring b.ring) b.keeps in
      let within = ceiling_within (shape_of h b.ring) allowed memory (l.ring b.ring) b.keeps in
      search (rules, target, shape_of, number, same_Some, target_placed)

  -- ---- Configure Endpoint: each endpoint that is added is off

  pub each_stays : (is : IsHeader h) (c : Command) (memory : ℕ → ℕ) (s a : ℕ) (indices : List ℕ) (l : Known) → All (ReadyAt h is l memory s a) indices →
      has_repeats (map (ring_at h is memory a) indices) ≡ false → ChangesStay c l (map (placed_by_context h.context_size memory s a) indices)
  unfolding has_repeats is_among
  each_stays is c memory s a [] l ready apart = tt
  each_stays is c memory s a (i ∷ rest) l ready apart =
      let here : ReadyAt h is l memory s a i = All-head (ReadyAt h is l memory s a) i rest ready in
      let later : All (ReadyAt h is l memory s a) rest = All-tail (ReadyAt h is l memory s a) i rest ready in
      let parts = or_parts (is_among (map (ring_at h is memory a) rest) (ring_at h is memory a i)) (has_repeats (map (ring_at h is memory a) rest)) apart in
      let none : list_any (is_ring here.ring) (map (ring_at h is memory a) rest) ≡ false = sym (ap (is_among (map (ring_at h is memory a) rest)) here.named) ∙ parts.0 in
      let others : All (λ j. is_ring here.ring (ring_at h is memory a j) ≡ false) rest = search (rules, each_fails, is_ring, ring_at, any_of_map) in (
        record {
          binds = λ off q t at named. ready_stays is l memory s i (context_pointer h.context_size memory a i) (context_cycle h.context_size memory a i) here q t at named;
          moves = λ on q t at named. absurd (false≢true (sym on ∙ here.off));
        },
        each_stays is c memory s a rest (changed_by h c l (placed_by_context h.context_size memory s a i))
            (λ x d inside. ready_next h is c l memory s a i here.ring (get_or rest x d) here.off here.named (later x d inside) (others x d inside)) parts.1,
      )

  -- ---- Address Device: a second one moves its ring nowhere

  pub address_stays : IsHeader h → (k : Known) → DriverKeeps h k → (s n : ℕ) (bsr : Bool) → StillHolds h k (AddressDevice s bsr n) → (r : ℕ) (t : Spot) →
      is_off (k.endpoint_state s 1) ≡ false → k.ring_of s 1 ≡ Some r →
      target (shape_of h r) (k.ring r) (context_pointer h.context_size k.memory n 1) (context_cycle h.context_size k.memory n 1) ≡ Some t → number t ≡ floor_number (k.ring r)
  address_stays is k d s n bsr still r t on has named =
      let driver = transfer_driver h r (d.states.transfer s 1 r has) in
      let allowed = (ring_shape h is r driver).is in
      target_here (shape_of h r) (k.ring r) (context_pointer h.context_size k.memory n 1) (context_cycle h.context_size k.memory n 1) t
      (omega (arith, floor_given (shape_of h r) allowed k.memory (k.ring r) (d.rings r driver), given_count_declared (shape_of h r) allowed k.memory (k.ring r) (d.rings r driver)))
      (still.moves_on on r has) named
