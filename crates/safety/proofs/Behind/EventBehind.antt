-- What stands behind an event that may be read: rings whose floors moved on, and no device context more
use Rattle.safety.proofs.MiddleLaws.{spot_ahead, spot_told, code_told, typed, Types, [], ◌≡◌, ◌∷◌, ◌∙◌, ℕ, List, Option, None, Some, refl, sym, ap, subst, inl, inr, flips_passed, RingView, cond_both, none-some, Block, BlockKind, TransferEvent, CommandCompletion, kind, code, slot, is_command_completion, RingKeeps, Command, Change, DeviceLeft, Places, Stops, Resets, changes, Header, Read, IsHeader, shape_of, command_id, Known, on_ring, command_at, next_command, disabled, changed_by, changed_by_all, succeeded, stop_ended, finished, completed, event_read, learned, lenient, KeepsPassed, RingsKeep, RingsKept, EndpointsKeep, DriverKeeps, MayRead, ◌≤◌, ◌⊎◌, Bool, arith, eqb-true, rules, endpoint, Spot, number, after, RingChange, Reaches, Holds, changed, floor_number, ceiling, target, IsAhead, target_ahead, number-after, Stopped, is_off, SlotGoesOn, Disables, ring_having, RingSpot, event_at, passed, broken_off, stopped_at, transferred, transferred_at, transfer_read, set_to, bound_to, moved_to, moved, pointed, in_state, held_at_ceiling, MayChange, MayChangeAll, MayFinish, still_reads, shape_allowed, driver_test, rings_of, endpoints_of, transfer_ring, command_is_ring, event_facts, transfer_slots, event_ring_of, at_number, placed_leaves, stops_slot, resets_slot, ring_here, ring_elsewhere, having_transfer, transfer_driver, change_keeps, spot_is, passes_shown, finish_elsewhere, named_if_taken, true}
use Rattle.safety.proofs.RingsKeep.KeptRings.{completion_facts, still_of}
use Rattle.safety.specs.DriverRings.{IsDriverRing}
use Rattle.safety.proofs.RingsKeep.Histories.{row_kept}
use Rattle.safety.proofs.AlikeEvents.HeldFurther.{read_same}
use Rattle.safety.proofs.Behind.LeasesBehind.{RingsBehind, Behind}
use Rattle.safety.proofs.Behind.PassedBehind.{no_flips_behind}
use Rattle.safety.specs.EndpointsKeep.{IsTransferRing}

-- An event moves no floor back, and concerns no ring but those of the driver
module _ (h : Header) where
  -- a driver's ring whose floor isn't behind where it was
  pub record MovesOn (v w : RingView) (r : ℕ) : Type 0 where
    pub driver : IsDriverRing h r
    pub on : floor_number v ≤ floor_number w

  abbrev pub FloorsOn : Known → Known → Type 0
  FloorsOn k l = (r : ℕ) → (l.ring r ≡ k.ring r) ⊎ MovesOn (k.ring r) (l.ring r) r

  pub floors_same : (k l : Known) → l.ring ≡ k.ring → FloorsOn k l
  floors_same k l same r = inl (ap (λ f. f r) same)

  pub floors_both : (k l m : Known) → FloorsOn k l → FloorsOn l m → FloorsOn k m
  floors_both k l m first second r = search rules

  floors_ring : (k : Known) (r : ℕ) (change : RingChange) → IsDriverRing h r → floor_number (k.ring r) ≤ floor_number (changed (shape_of h r) (k.ring r) change) → FloorsOn k (on_ring h k r change)
  floors_ring k r change driver on q = search (rules, ring_here, ring_elsewhere)

  floors_held : (k : Known) (r n : ℕ) → IsDriverRing h r → FloorsOn k (on_ring h k r (Holds n))
  floors_held k r n driver = floors_ring k r (Holds n) driver (omega arith)

  floors_reached : (k : Known) (r : ℕ) (t : Spot) → IsDriverRing h r → floor_number (k.ring r) ≤ number t → FloorsOn k (on_ring h k r (Reaches t))
  floors_reached k r t driver on = floors_ring k r (Reaches t) driver on

  -- ---- a Transfer Event

  module _ (k : Known) (r : ℕ) (driver : IsDriverRing h r) (t : Spot) (on : floor_number (k.ring r) ≤ number t) where
    passed_on : FloorsOn k (passed h k r t)
    unfolding passed
    passed_on = floors_reached k r (after (shape_of h r) (number t)) driver (omega (arith, on, number-after (shape_of h r) (number t)))

    transferred_on : (c s i : ℕ) → FloorsOn k (transferred h k c s i r t)
    unfolding transferred broken_off stopped_at
    transferred_on c s i = search (rules, passed_on, floors_both, passed, on_ring, number, floors_held, floors_reached, ring_here, floors_same)

  transfer_is_driver : (r : ℕ) → IsTransferRing h r → IsDriverRing h r
  transfer_is_driver r t = driver_test h r (transfer_driver h r (transfer_ring h r t))

  module _ (is : IsHeader h) (k : Known) (rings : RingsKeep h k) (endpoints : EndpointsKeep h k) where
    at_on : (b : Block) (o : Option RingSpot) → event_at h k b ≡ o → FloorsOn k (transferred_at h k b o)
    unfolding transferred_at
    at_on b None found = floors_same k k refl
    at_on b (Some at) found =
        let driver : IsDriverRing h at.ring = transfer_is_driver at.ring (endpoints.transfer (slot b) (endpoint b) at.ring (event_ring_of h k b at found)) in
        let ahead : IsAhead (shape_of h at.ring) (k.ring at.ring) at.spot =
        spot_ahead h k b at.ring at.spot (rings at.ring driver) (spot_is h k b (k.ring_of (slot b) (endpoint b)) at (spot_told h k b at found)) in
        transferred_on k at.ring driver at.spot ahead.from (code_told h k b) (slot b) (endpoint b)

    pub transfer_on : (b : Block) → FloorsOn k (transfer_read h k b)
    unfolding transfer_read
    transfer_on b = at_on b (event_at h k b) refl

  -- ---- the success of a command

  module _ (is : IsHeader h) where
    target_on : (k : Known) (r : ℕ) (o : Option Spot) → IsDriverRing h r → ((t : Spot) → o ≡ Some t → floor_number (k.ring r) ≤ number t) → FloorsOn k (moved_to h k r o)
    unfolding moved_to set_to
    target_on k r o driver on = grind (arith, floors_same, on_ring, floors_both, number, floors_reached, floors_held)

    bound_on : (k : Known) (s i p : ℕ) (cycle : Bool) (o : Option ℕ) → ring_having h p ≡ o → FloorsOn k (bound_to h k s i o p cycle)
    unfolding bound_to moved
    bound_on k s i p cycle None at = floors_same k k refl
    bound_on k s i p cycle (Some r) at =
        let m : Known = moved_to h k r (target (shape_of h r) (k.ring r) p cycle) in
        floors_both k m (bound_to h k s i (Some r) p cycle)
        (target_on k r (target (shape_of h r) (k.ring r) p cycle) (transfer_is_driver r (having_transfer h is p r at)) (λ t named. (target_ahead (shape_of h r) (k.ring r) p cycle t named).from))
        (floors_same m (bound_to h k s i (Some r) p cycle) refl)

    moved_on : (k : Known) → EndpointsKeep h k → (s i p : ℕ) (cycle : Bool) (o : Option ℕ) → k.ring_of s i ≡ o → FloorsOn k (moved h k o p cycle)
    unfolding moved
    moved_on k endpoints s i p cycle None at = floors_same k k refl
    moved_on k endpoints s i p cycle (Some r) at =
        target_on k r (target (shape_of h r) (k.ring r) p cycle) (transfer_is_driver r (endpoints.transfer s i r at)) (λ t named. (target_ahead (shape_of h r) (k.ring r) p cycle t named).from)

    ceiling_on : (k : Known) → EndpointsKeep h k → (s i : ℕ) (o : Option ℕ) → k.ring_of s i ≡ o → FloorsOn k (held_at_ceiling h k o)
    unfolding held_at_ceiling
    ceiling_on k endpoints s i o at = grind (arith, floors_same, floors_held, ceiling, shape_of, k.ring, transfer_is_driver, endpoints.transfer)

    change_on : (c : Command) (k : Known) (change : Change) → EndpointsKeep h k → MayChange h k change → FloorsOn k (changed_by h c k change)
    unfolding changed_by disabled typed in_state pointed
    change_on c k (SlotGoesOn s) endpoints may = floors_same k (changed_by h c k (SlotGoesOn s)) refl
    change_on c k (DeviceLeft s) endpoints may = floors_same k (changed_by h c k (DeviceLeft s)) refl
    change_on c k (Types s which isochronous) endpoints may = floors_same k (changed_by h c k (Types s which isochronous)) refl
    change_on c k (Disables s which) endpoints may = floors_same k (changed_by h c k (Disables s which)) refl
    change_on c k (Places s i p cycle state) endpoints may = (search (rules, cond_both, is_off, bound_to, ring_having, moved, bound_on, moved_on))
    change_on c k (Stops s i) endpoints may =
        ceiling_on (in_state h k s i Stopped) (record { transfer = endpoints.transfer }) s i (k.ring_of s i) refl
    change_on c k (Resets s i) endpoints may = floors_same k (changed_by h c k (Resets s i)) refl

    changes_on : (c : Command) (k : Known) (all : List Change) → EndpointsKeep h k → MayChangeAll h c k all → FloorsOn k (changed_by_all h c k all)
    unfolding changed_by_all
    changes_on c k [] endpoints may = floors_same k k refl
    changes_on c k (change ∷ rest) endpoints may =
        let m : Known = changed_by h c k change in
        floors_both k m (changed_by_all h c m rest) (change_on c k change endpoints may.0) (changes_on c m rest (change_keeps h is c k change endpoints) may.1)

    ended_on : (k m : Known) (c : Command) → FloorsOn k m → FloorsOn k (stop_ended h m c)
    unfolding stop_ended
    ended_on k m o on = grind arith

    pub completion_on : (k : Known) (b : Block) → EndpointsKeep h k → IsDriverRing h (command_id h) → MayFinish h k b → FloorsOn k (completed h k b)
    unfolding completed next_command finished succeeded
    completion_on k b endpoints driver may = search (rules, finish_elsewhere, floors_both, floors_same, ended_on, changes_on, eqb-true, floors_reached, number-after)

module _ (h : Header) where
  -- ---- device contexts are let go, and none is taken

  abbrev FewerDevices : Known → Known → Type 0
  FewerDevices k l = (s d : ℕ) → l.device s ≡ Some d → k.device s ≡ Some d

  change_fewer : (c : Command) (k : Known) (change : Change) → FewerDevices k (changed_by h c k change)
  unfolding changed_by disabled typed
  change_fewer c k (DeviceLeft s) t d at = at_number (λ (o : Option ℕ). o ≡ Some d → k.device t ≡ Some d) k.device s None t (λ same gone. absurd (none-some d gone)) (λ other there. there) at
  change_fewer c k (Places s i p cycle state) t d at = ap (λ f. f t) (sym (placed_leaves h c k s i p cycle state).device) ∙ at
  change_fewer c k (Stops s i) t d at = sym (stops_slot h c k s i t).device ∙ at
  change_fewer c k (Resets s i) t d at = sym (resets_slot h c k s i t).device ∙ at
  change_fewer c k _ t d at = at

  changes_fewer : (c : Command) (k : Known) (all : List Change) → FewerDevices k (changed_by_all h c k all)
  unfolding changed_by_all
  changes_fewer c k [] t d at = at
  changes_fewer c k (change ∷ rest) t d at = change_fewer c k change t d (changes_fewer c (changed_by h c k change) rest t d at)

  kind_fewer : (k : Known) (b : Block) (n : BlockKind) → FewerDevices k (event_read h k n b)
  unfolding event_read completed on_ring finished succeeded stop_ended
  kind_fewer k b o t d at = search (rules, transfer_slots, code, succeeded, slot, changes_fewer, changes, command_at, next_command)

  -- ---- rings

  module _ (is : IsHeader h) (k : Known) (d : DriverKeeps h k) (e : Block) (may : lenient h k (Read e) ≡ []) where
    rings : RingsKeep h k
    rings = rings_of h k d

    endpoints : EndpointsKeep h k
    endpoints = endpoints_of h k d.states

    may_read : MayRead h k (Read e)
    may_read = still_reads h is k (Read e) rings endpoints (still_of h is k (Read e) d may)

    command_driver : is_command_completion (kind e) ≡ true → IsDriverRing h (command_id h)
    command_driver completion =
        let facts = event_facts h k e may in
        driver_test h (command_id h) (command_is_ring h k d (named_if_taken h k d facts.started (completion_facts h k e completion facts.possible).below))

    kind_on : (n : BlockKind) → kind e ≡ n → FloorsOn h k (event_read h k n e)
    unfolding event_read
    kind_on TransferEvent at = transfer_on h is k rings endpoints e
    kind_on CommandCompletion at = completion_on h is k e endpoints (command_driver (ap is_command_completion at)) (may_read (ap is_command_completion at))
    kind_on _ at = floors_same h k k refl

    pub event_on : FloorsOn h k (learned h k (Read e))
    unfolding learned
    event_on = kind_on (kind e) refl

    abbrev l : Known
    l = learned h k (Read e)

    pub behind_kept : RingsKept h k l
    behind_kept = row_kept h is k (Read e) rings endpoints d.commands_stay (may, tt) may_read

    event_rings : RingsBehind h k l
    event_rings r =
        elim (event_on r) [
          | inl same ↦ inl same
          | inr on ↦
              let behind : RingKeeps (shape_of h r) k.memory (l.ring r) = subst (λ m. RingKeeps (shape_of h r) m (l.ring r)) (read_same h k e).memory (behind_kept r on.driver).rules in
              inr (
                on.driver,
                record {
                  is = shape_allowed h is r on.driver;
                  before = rings r on.driver;
                  behind = behind;
                  same = (read_same h k e).rings r;
                  on = on.on;
                  shown = passes_shown (shape_of h r) (shape_allowed h is r on.driver) k.memory (k.ring r) (l.ring r) ((read_same h k e).rings r).free behind (behind_kept r on.driver).passes;
                },
              )
        ]

    -- the word keeps the Cycle bit of what is free and may be passed, also behind the event
    pub passed_behind : (a w : ℕ) → KeepsPassed h k a w → KeepsPassed h l a w
    passed_behind a w keeps r driver =
        elim (event_rings r) [
          | inl same ↦ ap (λ (v : RingView). flips_passed (shape_of h r) v a w) same ∙ keeps r driver
          | inr on ↦ no_flips_behind (shape_of h r) k.memory (k.ring r) (l.ring r) on.1 (behind_kept r driver).passes a w (keeps r driver)
        ]

    devices : (s d : ℕ) → l.device s ≡ Some d → k.device s ≡ Some d
    unfolding learned
    devices s d at = kind_fewer k e (kind e) s d at

    pub event_behind : Behind h k l
    event_behind = record { driver = read_same h k e; rings = event_rings; devices = devices }
