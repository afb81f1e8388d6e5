-- An event that may be read moves no floor back
use Rattle.safety.proofs.MiddleLaws.{spot_named, spot_ahead, spot_told, code_told, typed, [], ◌≡◌, ◌≤◌, ◌∷◌, ℕ, Bool, true, List, Option, None, Some, arith, refl, ap, eqb-true, rules, cond_both, none-some, same_Some, Block, BlockKind, TransferEvent, CommandCompletion, kind, code, slot, endpoint, is_command_completion, Spot, number, after, Reaches, Holds, floor_number, ceiling, stopped_number, target, number-after, target_ahead, Command, Stopped, is_off, Change, Places, Stops, changes, Header, Read, IsHeader, shape_of, ring_having, Known, RingSpot, on_ring, spot_on, event_at, command_at, next_command, passed, broken_off, stopped_at, transferred, transferred_at, transfer_read, set_to, bound_to, moved_to, moved, pointed, disabled, in_state, held_at_ceiling, changed_by, changed_by_all, succeeded, stop_ended, finished, completed, event_read, learned, lenient, DriverKeeps, EndpointsKeep, MayChange, MayChangeAll, transfer_driver, rings_of, endpoints_of, view_after, still_places, EventFacts, event_facts, finish_elsewhere}
use Rattle.safety.proofs.RingsKeep.KeptRings.{completion_facts, next_unfinished, command_holds}

abbrev pub FloorsGrow : Known → Known → Type 0
FloorsGrow k l = (r : ℕ) → floor_number (k.ring r) ≤ floor_number (l.ring r)

grow_none : (k : Known) → FloorsGrow k k
grow_none k r = omega arith

grow_twice : (k l m : Known) → FloorsGrow k l → FloorsGrow l m → FloorsGrow k m
grow_twice k l m a b r = omega (arith, a r, b r)

module _ (h : Header) where
  reach_grows : (k : Known) (r : ℕ) (t : Spot) → floor_number (k.ring r) ≤ number t → FloorsGrow k (on_ring h k r (Reaches t))
  reach_grows k r t ahead q =
      view_after h (λ v. floor_number (k.ring q) ≤ floor_number v) k r (Reaches t) q
      (λ same. let e : floor_number (k.ring q) ≡ floor_number (k.ring r) = ap (λ n. floor_number (k.ring n)) same in omega arith) (λ _. omega arith)

  hold_grows : (k : Known) (r n : ℕ) → FloorsGrow k (on_ring h k r (Holds n))
  hold_grows k r n q =
      view_after h (λ v. floor_number (k.ring q) ≤ floor_number v) k r (Holds n) q
      (λ same. let e : floor_number (k.ring q) ≡ floor_number (k.ring r) = ap (λ n. floor_number (k.ring n)) same in omega arith) (λ _. omega arith)

  -- ---- a Transfer Event

  module _ (k : Known) (r : ℕ) (t : Spot) (ahead : floor_number (k.ring r) ≤ number t) where
    passed_grows : FloorsGrow k (passed h k r t)
    unfolding passed
    passed_grows = reach_grows k r (after (shape_of h r) (number t)) (omega (arith, number-after (shape_of h r) (number t)))

    stopped_grows : (s i : ℕ) → FloorsGrow k (stopped_at h k s i r t)
    unfolding stopped_at
    stopped_grows s i =
        let n : ℕ = stopped_number (shape_of h r) (k.ring r) t in
        let l : Known = on_ring h k r (Holds n) in
        grow_twice k l (on_ring h l r (Reaches t)) (hold_grows k r n)
        (reach_grows l r t
        (view_after h (λ v. floor_number v ≤ number t) k r (Holds n) r (λ _. ahead) (λ other. absurd (other refl))))

    transferred_grows : (c s i : ℕ) → FloorsGrow k (transferred h k c s i r t)
    unfolding transferred broken_off
    transferred_grows c s i = search (rules, passed_grows, grow_twice, passed, on_ring, number, hold_grows, stopped_grows, grow_none)

  -- the spot that an event names lies on the ring of its endpoint
  found_on : (k : Known) (b : Block) (o : Option ℕ) (at : RingSpot) → spot_on h k b o ≡ Some at → (o ≡ Some at.ring) × (spot_named h k b at.ring ≡ Some at.spot)
  unfolding spot_on
  found_on k b o at e = grind (arith, none-some, same_Some)

  at_grows : (k : Known) (d : DriverKeeps h k) (b : Block) (o : Option RingSpot) → event_at h k b ≡ o → FloorsGrow k (transferred_at h k b o)
  unfolding transferred_at
  at_grows k d b None found = grow_none k
  at_grows k d b (Some at) found =
      let is = found_on k b (k.ring_of (slot b) (endpoint b)) at (spot_told h k b at found) in
      let ring = d.rings at.ring (transfer_driver h at.ring (d.states.transfer (slot b) (endpoint b) at.ring is.0)) in
      transferred_grows k at.ring at.spot (spot_ahead h k b at.ring at.spot ring is.1).from (code_told h k b) (slot b) (endpoint b)

  -- ---- a completion

  set_grows : (k : Known) (r : ℕ) (t : Spot) → floor_number (k.ring r) ≤ number t → FloorsGrow k (set_to h k r t)
  unfolding set_to
  set_grows k r t ahead =
      let l : Known = on_ring h k r (Reaches t) in grow_twice k l (on_ring h l r (Holds (number t))) (reach_grows k r t ahead) (hold_grows l r (number t))

  target_grows : (k : Known) (r : ℕ) (o : Option Spot) → ((t : Spot) → o ≡ Some t → floor_number (k.ring r) ≤ number t) → FloorsGrow k (moved_to h k r o)
  unfolding moved_to
  target_grows k r o ahead = grind (arith, grow_none, set_grows)

  moved_grows : (k : Known) (o : Option ℕ) (p : ℕ) (cycle : Bool) → FloorsGrow k (moved h k o p cycle)
  unfolding moved
  moved_grows k None p cycle = grow_none k
  moved_grows k (Some r) p cycle = target_grows k r (target (shape_of h r) (k.ring r) p cycle) (λ t at. (target_ahead (shape_of h r) (k.ring r) p cycle t at).from)

  bound_grows : (k : Known) (s i : ℕ) (o : Option ℕ) (p : ℕ) (cycle : Bool) → FloorsGrow k (bound_to h k s i o p cycle)
  unfolding bound_to
  bound_grows k s i None p cycle = grow_none k
  bound_grows k s i (Some r) p cycle = moved_grows k (Some r) p cycle

  pointed_grows : (k : Known) (s i p : ℕ) (cycle : Bool) → FloorsGrow k (pointed h k s i p cycle)
  unfolding pointed
  pointed_grows k s i p cycle =
      cond_both (is_off (k.endpoint_state s i)) (bound_to h k s i (ring_having h p) p cycle) (moved h k (k.ring_of s i) p cycle) (FloorsGrow k)
      (λ off. bound_grows k s i (ring_having h p) p cycle) (λ on. moved_grows k (k.ring_of s i) p cycle)

  change_grows : (c : Command) (k : Known) (change : Change) → MayChange h k change → FloorsGrow k (changed_by h c k change)
  unfolding changed_by disabled typed in_state held_at_ceiling
  change_grows c k (Places s i p cycle state) may = pointed_grows k s i p cycle
  change_grows c k (Stops s i) may = (grind (arith, grow_none, hold_grows, ceiling, shape_of, (in_state h k s i Stopped).ring))
  change_grows c k _ may = λ r. omega arith

  changes_grow : (c : Command) (k : Known) (all : List Change) → MayChangeAll h c k all → FloorsGrow k (changed_by_all h c k all)
  unfolding changed_by_all
  changes_grow c k [] may = grow_none k
  changes_grow c k (change ∷ rest) may =
      let l : Known = changed_by h c k change in grow_twice k l (changed_by_all h c l rest) (change_grows c k change may.0) (changes_grow c l rest may.1)

  finish_grows : (k : Known) (b : Block) (o : Option Command) →
      ((c : Command) → o ≡ Some c → code b ≡ 1 → MayChangeAll h c k (changes h.context_size k.memory (slot b) c)) → FloorsGrow k (finished h k b o)
  unfolding finished succeeded stop_ended
  finish_grows k b None may = search (rules, grow_none)
  finish_grows k b (Some c) may = search (rules, grow_none, grow_twice, changes_grow, eqb-true)

  completion_grows : (k : Known) (b : Block) → EndpointsKeep h k → IsHeader h →
      ((c : Command) → command_at h k (next_command h k) ≡ Some c → code b ≡ 1 → MayChangeAll h c k (changes h.context_size k.memory (slot b) c)) → FloorsGrow k (completed h k b)
  unfolding completed next_command
  completion_grows k b endpoints is may = search (rules, finish_elsewhere, grow_twice, finish_grows, reach_grows, number-after)

  -- ---- any event

  kind_grows : IsHeader h → (k : Known) (d : DriverKeeps h k) (b : Block) (n : BlockKind) →
      (n ≡ CommandCompletion → (c : Command) → command_at h k (next_command h k) ≡ Some c → code b ≡ 1 → MayChangeAll h c k (changes h.context_size k.memory (slot b) c)) → FloorsGrow k (event_read h k n b)
  unfolding event_read transfer_read
  kind_grows is k d b TransferEvent may = at_grows k d b (event_at h k b) refl
  kind_grows is k d b CommandCompletion may = completion_grows k b (endpoints_of h k d.states) is (may refl)
  kind_grows is k d b _ may = grow_none k

  -- what the next command places, where its completion may be read
  pub may_change : IsHeader h → (k : Known) (d : DriverKeeps h k) (b : Block) → lenient h k (Read b) ≡ [] → is_command_completion (kind b) ≡ true →
      (c : Command) → command_at h k (next_command h k) ≡ Some c → MayChangeAll h c k (changes h.context_size k.memory (slot b) c)
  may_change is k d b clean completion c at =
      let facts : EventFacts h k b = event_facts h k b clean in
      still_places h is k (rings_of h k d) (endpoints_of h k d.states) (slot b) c
      (command_holds h k (next_command h k) c (d.unfinished (next_command h k) c (next_unfinished h is k d facts.started (completion_facts h k b completion facts.possible).below c at)))

  pub floors_grow : IsHeader h → (k : Known) (d : DriverKeeps h k) (e : Block) → lenient h k (Read e) ≡ [] → FloorsGrow k (learned h k (Read e))
  unfolding learned
  floors_grow is k d e clean = kind_grows is k d e (kind e) (λ n c at success. may_change is k d e clean (ap is_command_completion n) c at)
