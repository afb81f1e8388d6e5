-- The completion of a command leaves the device context of a slot that it disables, and no other
use Rattle.leases.proofs.BaseWords.{arith, ◌≡◌, ◌==◌, ◌∷◌, ◌∙◌, ℕ, Bool, List, [], map, Option, refl, added_endpoints, is_dropped, Trb, code, slot, target, Command, is_off, Change, DeviceLeft, changes, placed_by_context, Header, ring_having, shape_of, Known, command_at, next_command, on_ring, bound_to, changed_by, changed_by_all, completed, disabled, finished, held_at_ceiling, in_state, moved, moved_to, pointed, set_to, stop_ended, succeeded, typed, devices_without, slot_left}

-- the change lets no device context go
abbrev Holds : Change → Type 0
Holds (DeviceLeft s) = ⊥
Holds _ = Unit {0}

abbrev AllHold : List Change → Type 0
AllHold [] = Unit {0}
AllHold (change ∷ rest) = Holds change × AllHold rest

module _ (h : Header) where
  moved_device : (k : Known) (o : Option ℕ) (p : ℕ) (cycle : Bool) → (moved h k o p cycle).device ≡ k.device
  unfolding moved moved_to set_to on_ring
  moved_device k o p cycle = grind (arith, target, shape_of, moved_to)

  bound_device : (k : Known) (s i : ℕ) (o : Option ℕ) (p : ℕ) (cycle : Bool) → (bound_to h k s i o p cycle).device ≡ k.device
  unfolding bound_to
  bound_device k s i o p cycle = grind (arith, moved_device)

  change_device : (c : Command) (k : Known) (change : Change) → Holds change → (changed_by h c k change).device ≡ k.device
  unfolding changed_by typed disabled in_state pointed held_at_ceiling on_ring
  change_device c k change holds = grind (arith, is_off, bound_to, ring_having, moved, bound_device, moved_device, in_state)

  changes_device : (c : Command) (k : Known) (all : List Change) → AllHold all → (changed_by_all h c k all).device ≡ k.device
  unfolding changed_by_all
  changes_device c k [] holds = refl
  changes_device c k (change ∷ rest) holds = changes_device c (changed_by h c k change) rest holds.1 ∙ change_device c k change holds.0

  placed_hold : (k : Known) (s c : ℕ) (is : List ℕ) → AllHold (map (placed_by_context h.context_size k.memory s c) is)
  placed_hold k s c [] = tt
  placed_hold k s c (i ∷ is) = (tt, placed_hold k s c is)

  finished_device : (k : Known) (b : Trb) (o : Option Command) (t : ℕ) → (finished h k b o).device t ≡ devices_without k.device (slot_left (code b == 1) o) t
  unfolding finished succeeded changes changed_by_all changed_by disabled stop_ended
  finished_device k b o t = grind (arith, code, succeeded, slot, changes_device, placed_by_context, is_dropped, map, added_endpoints, placed_hold)

  pub completed_device : (k : Known) (b : Trb) (t : ℕ) → (completed h k b).device t ≡ devices_without k.device (slot_left (code b == 1) (command_at h k (next_command h k))) t
  unfolding completed on_ring
  completed_device k b t = finished_device k b (command_at h k (next_command h k)) t
