-- The completion of a command moves the ring of a Set TR Dequeue on, and no other but the command ring
use Rattle.leases.proofs.BaseWords.{arith, ◌≡◌, ◌≢◌, ◌≤◌, ◌==◌, if◌then◌else◌, ◌∷◌, ◌∙◌, ℕ, Bool, true, false, List, [], map, Option, None, Some, refl, sym, ap, eqb-true, cond-false, CommandCompletion, kind, code, slot, is_command_completion, Spot, number, after, RingView, Reaches, floor_number, target, target_ahead, added_endpoints, is_dropped, context_pointer, context_cycle, Command, AddressDevice, ConfigureEndpoint, SetTrDequeue, Stopped, is_off, Change, SlotGoesOn, Disables, Places, changes, placed_by_context, typed_by_context, Header, Read, IsHeader, shape_of, command_id, ring_having, Known, on_ring, command_at, next_command, set_to, bound_to, moved_to, moved, pointed, in_state, changed_by, changed_by_all, succeeded, stop_ended, finished, completed, event_read, learned, has_repeats, binds, binding_in, ring_bound, lenient, DriverKeeps, MayChangeAll, StillHolds, transfer_not_command, may_move, ring_elsewhere, may_change, still_of, address_ready, all_ready, dropped, FloorsMove, MovesOn, IsMovedTo, IsOtherRing, moved_on, moved_ring, moved_by, moved_when, rings_of, rules}
use Rattle.leases.proofs.LeaseRows.FloorsStay.{ChangesStay, FloorsStay, StaysHere, stay_none, changes_stay, each_stays, address_stays, hold_stays, ready_stays}
use Rattle.safety.proofs.Targets.Placings.{map_map}
use Rattle.trb.specs.declared.block.Block.{Block}
use Rattle.safety.proofs.RingsKeep.DriverRows.{ring_here}

-- the ring is moved to the number
abbrev Arrives : Known → Option (ℕ × ℕ) → Type 0
Arrives l None = Unit {0}
Arrives l (Some e) = floor_number (l.ring e.0) ≡ e.1

abbrev NotCommand : Header → Option (ℕ × ℕ) → Type 0
NotCommand h None = Unit {0}
NotCommand h (Some e) = e.0 ≢ command_id h

-- a ring is moved on to a number, or none, and the floors of all others stay
record Goes (h : Header) (k l : Known) (o : Option (ℕ × ℕ)) : Type 0 where
  pub on : MovesOn k o
  pub not_command : NotCommand h o
  pub there : Arrives l o
  pub others : (q : ℕ) → IsOtherRing q o → floor_number (l.ring q) ≡ floor_number (k.ring q)

module _ (h : Header) where
  none_goes : (k l : Known) → FloorsStay k l → Goes h k l None
  none_goes k l stay = record { on = tt; not_command = tt; there = tt; others = λ q other. stay q }

  goes_as : (k l m : Known) (o : Option (ℕ × ℕ)) → FloorsStay l m → Goes h k l o → Goes h k m o
  goes_as k l m o stay goes = record { on = goes.on; not_command = goes.not_command; there = grind arith; others = λ q other. stay q ∙ goes.others q other }

  -- ---- Set TR Dequeue

  target_goes : (k : Known) (r : ℕ) → r ≢ command_id h → (o : Option Spot) → ((t : Spot) → o ≡ Some t → floor_number (k.ring r) ≤ number t) → Goes h k (moved_to h k r o) (moved_on r o)
  unfolding moved_to set_to
  target_goes k r apart o ahead = grind (arith, none_goes, stay_none, on_ring, ring_here, number, hold_stays, ring_elsewhere)

  moved_goes : (k : Known) (o : Option ℕ) (p : ℕ) (cycle : Bool) → ((r : ℕ) → o ≡ Some r → r ≢ command_id h) → Goes h k (moved h k o p cycle) (moved_ring h k o p cycle)
  unfolding moved
  moved_goes k None p cycle apart = none_goes k k (stay_none k)
  moved_goes k (Some r) p cycle apart = target_goes k r (apart r refl) (target (shape_of h r) (k.ring r) p cycle) (λ t at. (target_ahead (shape_of h r) (k.ring r) p cycle t at).from)

  pointed_is : (k : Known) (s i p : ℕ) (cycle : Bool) → is_off (k.endpoint_state s i) ≡ false → moved h k (k.ring_of s i) p cycle ≡ pointed h k s i p cycle
  unfolding pointed
  pointed_is k s i p cycle on = sym (cond-false (is_off (k.endpoint_state s i)) (bound_to h k s i (ring_having h p) p cycle) (moved h k (k.ring_of s i) p cycle) on)

  placed_rings : (c : Command) (k : Known) (s i p : ℕ) (cycle : Bool) → FloorsStay (pointed h k s i p cycle) (changed_by_all h c k (Places s i p cycle Stopped ∷ []))
  unfolding changed_by_all changed_by in_state
  placed_rings c k s i p cycle r = refl

  module _ (is : IsHeader h) (k : Known) (d : DriverKeeps h k) where
    dequeue_goes : (s i p : ℕ) (cycle : Bool) → StillHolds h k (SetTrDequeue s i p cycle) →
        Goes h k (changed_by_all h (SetTrDequeue s i p cycle) k (Places s i p cycle Stopped ∷ [])) (moved_ring h k (k.ring_of s i) p cycle)
    dequeue_goes s i p cycle still =
        goes_as k (pointed h k s i p cycle) (changed_by_all h (SetTrDequeue s i p cycle) k (Places s i p cycle Stopped ∷ [])) (moved_ring h k (k.ring_of s i) p cycle)
        (placed_rings (SetTrDequeue s i p cycle) k s i p cycle)
        (rw (← pointed_is k s i p cycle (may_move h is k d s i p cycle still.moves_on).on)
        (moved_goes k (k.ring_of s i) p cycle (search (rules, transfer_not_command, d.states.transfer))))

    -- ---- the other commands

    stays_behind : (l : Known) (s i p : ℕ) (cycle : Bool) → l.endpoint_state ≡ k.endpoint_state → l.ring_of ≡ k.ring_of → l.ring ≡ k.ring →
        ((r : ℕ) (t : Spot) → is_off (k.endpoint_state s i) ≡ false → k.ring_of s i ≡ Some r → target (shape_of h r) (k.ring r) p cycle ≡ Some t → number t ≡ floor_number (k.ring r)) →
        ((r : ℕ) (t : Spot) → is_off (k.endpoint_state s i) ≡ true → ring_having h p ≡ Some r → target (shape_of h r) (k.ring r) p cycle ≡ Some t → number t ≡ floor_number (k.ring r)) →
        StaysHere h l s i p cycle
    stays_behind l s i p cycle states ring_of rings here new = search (rules, is_off, target, shape_of)

    no_repeats : (s a : ℕ) → StillHolds h k (ConfigureEndpoint s false a) → has_repeats (map (λ i. ring_having h (context_pointer h.context_size k.memory a i)) (added_endpoints k.memory a)) ≡ false
    unfolding binds binding_in ring_bound
    no_repeats s a still = ap has_repeats (sym (map_map h is (ring_bound h) (binding_in h k a) (added_endpoints k.memory a))) ∙ still.repeats

    stays : (c : Command) (all : List Change) → ChangesStay h c k all → Goes h k (changed_by_all h c k all) None
    stays c all stay = none_goes k (changed_by_all h c k all) (changes_stay h c k all stay)

    address_list : (s a : ℕ) (bsr : Bool) → StillHolds h k (AddressDevice s bsr a) →
        ChangesStay h (AddressDevice s bsr a) k (SlotGoesOn s ∷ placed_by_context h.context_size k.memory s a 1 ∷ [])
    unfolding changed_by
    address_list s a bsr still = (
      tt,
      (
        stays_behind (changed_by h (AddressDevice s bsr a) k (SlotGoesOn s)) s 1 (context_pointer h.context_size k.memory a 1)
            (context_cycle h.context_size k.memory a 1) refl refl refl (address_stays h is k d s a bsr still)
            (λ r t off at named. ready_stays h is k k.memory s 1 (context_pointer h.context_size k.memory a 1) (context_cycle h.context_size k.memory a 1)
            (address_ready h is k (rings_of h k d) s a bsr still off) r t at named),
        tt,
      ),
    )

    succeeds : (n : ℕ) (c : Command) → StillHolds h k c → MayChangeAll h c k (changes h.context_size k.memory n c) →
        Goes h k (changed_by_all h c k (changes h.context_size k.memory n c)) (moved_by h k c)
    unfolding changes
    succeeds n (ConfigureEndpoint s false a) still may =
        stays (ConfigureEndpoint s false a) (SlotGoesOn s ∷ typed_by_context h.context_size k.memory s a ∷ Disables s (is_dropped k.memory a) ∷ map (placed_by_context h.context_size k.memory s a) (added_endpoints k.memory a)) (
          tt,
          (
            tt,
            (
              tt,
              each_stays h is (ConfigureEndpoint s false a) k.memory s a (added_endpoints k.memory a) (dropped h is (ConfigureEndpoint s false a) k s a)
                  (all_ready h is k (rings_of h k d) s a still) (no_repeats s a still),
            ),
          ),
        )
    succeeds n (SetTrDequeue s i p cycle) still may = dequeue_goes s i p cycle still
    succeeds n _ still may = search (rules, stays, address_list)

    -- ---- a completion

    by_success : (success : Bool) (n : ℕ) (c : Command) → (success ≡ true → StillHolds h k c × MayChangeAll h c k (changes h.context_size k.memory n c)) →
        Goes h k (stop_ended h (if success then succeeded h k n c else k) c) (moved_when h k success (Some c))
    unfolding succeeded stop_ended
    by_success success n c ends = grind (arith, changed_by_all, changes, goes_as, stop_ended, stay_none, succeeds, none_goes)

    finish_goes : (b : Block) (o : Option Command) → ((c : Command) → o ≡ Some c → code b ≡ 1 → StillHolds h k c × MayChangeAll h c k (changes h.context_size k.memory (slot b) c)) →
        Goes h k (finished h k b o) (moved_when h k (code b == 1) o)
    unfolding finished
    finish_goes b None ends = none_goes k k (stay_none k)
    finish_goes b (Some c) ends = search (rules, by_success, eqb-true)

    -- besides, the pointer of the command ring alone goes on
    beside : (l : Known) (t : Spot) (q : ℕ) → q ≢ command_id h → floor_number ((on_ring h l (command_id h) (Reaches t)).ring q) ≡ floor_number (l.ring q)
    beside l t q other = ap (λ (v : RingView). floor_number v) (ring_elsewhere h l (command_id h) q (Reaches t) other)

    moved_there : (l m : Known) → ((q : ℕ) → q ≢ command_id h → floor_number (m.ring q) ≡ floor_number (l.ring q)) → (o : Option (ℕ × ℕ)) → NotCommand h o → Arrives l o → IsMovedTo h m o
    moved_there l m same o apart there = grind arith

    module _ (b : Block) (clean : lenient h k (Read b) ≡ []) (completes : kind b ≡ CommandCompletion) where
      abbrev o : Option Command
      o = command_at h k (next_command h k)

      ends : (c : Command) → o ≡ Some c → code b ≡ 1 → StillHolds h k c × MayChangeAll h c k (changes h.context_size k.memory (slot b) c)
      ends c at one = (still_of h is k (Read b) d clean (ap is_command_completion completes) c at one, may_change h is k d b clean (ap is_command_completion completes) c at)

      rings_after : (learned h k (Read b)).ring ≡ (on_ring h (finished h k b o) (command_id h) (Reaches (after (shape_of h (command_id h)) (next_command h k)))).ring
      unfolding learned event_read completed
      rings_after = ap (λ x. (event_read h k x b).ring) completes

      moves : FloorsMove h k b
      moves = grind (arith, finish_goes, ends, moved_there, finished, learned, rings_after, beside, after, shape_of, command_id, next_command, code, finish_goes b o ends)

-- as the premise of a completion has it
pub floors_move : (h : Header) → IsHeader h → (k : Known) → DriverKeeps h k → (b : Block) → lenient h k (Read b) ≡ [] → kind b ≡ CommandCompletion → FloorsMove h k b
floors_move h is k d b clean completes = moves h is k d b clean completes
