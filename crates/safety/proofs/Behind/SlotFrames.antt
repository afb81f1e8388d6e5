-- What a change leaves of slots
use Rattle.safety.proofs.LowerLaws.{typed, Types, [], ◌≡◌, ◌≢◌, ◌⊎◌, ◌==◌, ◌&&◌, ◌∷◌, ◌∙◌, ℕ, Bool, List, map, Option, None, Some, refl, ap, inl, inr, ne_eqb, cond_both, cond-false, and_left, none-some, target, Command, EndpointState, Stopped, is_off, Change, SlotGoesOn, DeviceLeft, Disables, Places, Stops, Resets, placed_by_context, ContextSize, Header, shape_of, ring_having, Known, on_ring, set_to, bound_to, moved_to, moved, pointed, disabled, in_state, held_at_ceiling, changed_by, changed_by_all, arith, at_pair}
use Rattle.safety.proofs.StatesKeep.StatesOneEndpoint.{same_pair}

-- endpoint i of slot s may have got a ring, and no more is changed of slots
pub record GetsRing (k l : Known) (s i : ℕ) : Type 0 where
  pub slot_state : l.slot_state ≡ k.slot_state
  pub device : l.device ≡ k.device
  pub rings : (t j : ℕ) → ((t ≡ s) × (j ≡ i)) ⊎ (l.ring_of t j ≡ k.ring_of t j)
  pub some : (t j : ℕ) → k.ring_of t j ≢ None → l.ring_of t j ≢ None

-- slot t is as it was
pub record SameSlot (k l : Known) (t : ℕ) : Type 0 where
  pub state : l.slot_state t ≡ k.slot_state t
  pub device : l.device t ≡ k.device t
  pub rings : (i : ℕ) → l.ring_of t i ≡ k.ring_of t i

pub same_slot : (k : Known) (t : ℕ) → SameSlot k k t
same_slot k t = record { state = refl; device = refl; rings = λ i. refl }

pub both_slots : (k l m : Known) (t : ℕ) → SameSlot k l t → SameSlot l m t → SameSlot k m t
both_slots k l m t a b = record { state = b.state ∙ a.state; device = b.device ∙ a.device; rings = λ i. b.rings i ∙ a.rings i }

-- the slot that a change concerns
abbrev pub slot_of : Change → ℕ
slot_of (SlotGoesOn s) = s
slot_of (DeviceLeft s) = s
slot_of (Types s which isochronous) = s
slot_of (Disables s which) = s
slot_of (Places s i p cycle state) = s
slot_of (Stops s i) = s
slot_of (Resets s i) = s

abbrev pub AreOfSlot : ℕ → List Change → Type 0
AreOfSlot s [] = Unit {0}
AreOfSlot s (change ∷ rest) = (slot_of change ≡ s) × AreOfSlot s rest

module _ (h : Header) where
  moved_leaves : (k : Known) (s i : ℕ) (o : Option ℕ) (p : ℕ) (cycle : Bool) → GetsRing k (moved h k o p cycle) s i
  unfolding moved moved_to set_to on_ring
  moved_leaves k s i None p cycle = record { slot_state = refl; device = refl; rings = λ u j. inr refl; some = λ u j has. has }
  moved_leaves k s i (Some r) p cycle = grind arith

  pointed_leaves : (k : Known) (s i p : ℕ) (cycle : Bool) → GetsRing k (pointed h k s i p cycle) s i
  unfolding pointed bound_to moved moved_to set_to on_ring
  pointed_leaves k s i p cycle =
      cond_both (is_off (k.endpoint_state s i)) (bound_to h k s i (ring_having h p) p cycle) (moved h k (k.ring_of s i) p cycle) (λ m. GetsRing k m s i)
      (λ off. (grind (arith, target, shape_of, moved_to, same_pair, at_pair, none-some))) (λ on. moved_leaves k s i (k.ring_of s i) p cycle)

  pub placed_leaves : (c : Command) (k : Known) (s i p : ℕ) (cycle : Bool) (state : EndpointState) → GetsRing k (changed_by h c k (Places s i p cycle state)) s i
  unfolding changed_by in_state
  placed_leaves c k s i p cycle state =
      let leaves : GetsRing k (pointed h k s i p cycle) s i = pointed_leaves k s i p cycle in
      record { slot_state = leaves.slot_state; device = leaves.device; rings = leaves.rings; some = leaves.some }

  in_state_slot : (k : Known) (s i : ℕ) (state : EndpointState) (t : ℕ) → SameSlot k (in_state h k s i state) t
  unfolding in_state
  in_state_slot k s i state t = record { state = refl; device = refl; rings = λ j. refl }

  -- where an endpoint is stopped or reset all slots stay
  pub stops_slot : (c : Command) (k : Known) (s i t : ℕ) → SameSlot k (changed_by h c k (Stops s i)) t
  unfolding changed_by held_at_ceiling on_ring
  stops_slot c k s i t =
      let l : Known = in_state h k s i Stopped in
      both_slots k l (held_at_ceiling h l (k.ring_of s i)) t (in_state_slot k s i Stopped t) (grind (arith, same_slot))

  pub resets_slot : (c : Command) (k : Known) (s i t : ℕ) → SameSlot k (changed_by h c k (Resets s i)) t
  unfolding changed_by
  resets_slot c k s i t = in_state_slot k s i Stopped t

  -- another slot
  change_elsewhere : (c : Command) (k : Known) (change : Change) (t : ℕ) → t ≢ slot_of change → SameSlot k (changed_by h c k change) t
  unfolding changed_by disabled typed
  change_elsewhere c k (SlotGoesOn s) t other = record { state = cond-false (t == s) _ (k.slot_state t) (ne_eqb t s other); device = refl; rings = λ i. refl }
  change_elsewhere c k (DeviceLeft s) t other = record { state = refl; device = cond-false (t == s) None (k.device t) (ne_eqb t s other); rings = λ i. refl }
  change_elsewhere c k (Types s which isochronous) t other = record { state = refl; device = refl; rings = λ i. refl }
  change_elsewhere c k (Disables s which) t other =
      record { state = refl; device = refl; rings = λ i. cond-false (t == s && which i) None (k.ring_of t i) (and_left (t == s) (which i) (ne_eqb t s other)) }
  change_elsewhere c k (Places s i p cycle state) t other =
      let leaves : GetsRing k (changed_by h c k (Places s i p cycle state)) s i = placed_leaves c k s i p cycle state in record {
        state = ap (λ f. f t) leaves.slot_state;
        device = ap (λ f. f t) leaves.device;
        rings = λ j. elim (leaves.rings t j) [ inl here ↦ absurd (other here.0) | inr same ↦ same ];
      }
  change_elsewhere c k (Stops s i) t other = stops_slot c k s i t
  change_elsewhere c k (Resets s i) t other = resets_slot c k s i t

  pub changes_elsewhere : (c : Command) (k : Known) (s : ℕ) (all : List Change) (t : ℕ) → AreOfSlot s all → t ≢ s → SameSlot k (changed_by_all h c k all) t
  unfolding changed_by_all
  changes_elsewhere c k s [] t of other = same_slot k t
  changes_elsewhere c k s (change ∷ rest) t of other =
      let l : Known = changed_by h c k change in
      both_slots k l (changed_by_all h c l rest) t (change_elsewhere c k change t (λ same. other (same ∙ of.0))) (changes_elsewhere c l s rest t of.1 other)

  -- ---- endpoints placed one after the other

  pub placed_of_slot : (size : ContextSize) (memory : ℕ → ℕ) (s a : ℕ) (indices : List ℕ) → AreOfSlot s (map (placed_by_context size memory s a) indices)
  placed_of_slot size memory s a [] = tt
  placed_of_slot size memory s a (i ∷ rest) = (refl, placed_of_slot size memory s a rest)

  pub record KeepsRings (k l : Known) : Type 0 where
    pub slot_state : l.slot_state ≡ k.slot_state
    pub device : l.device ≡ k.device
    pub some : (t j : ℕ) → k.ring_of t j ≢ None → l.ring_of t j ≢ None

  pub placed_all : (c : Command) (k : Known) (size : ContextSize) (memory : ℕ → ℕ) (s a : ℕ) (indices : List ℕ) → KeepsRings k (changed_by_all h c k (map (placed_by_context size memory s a) indices))
  unfolding changed_by_all
  placed_all c k size memory s a [] = record { slot_state = refl; device = refl; some = λ t j has. has }
  placed_all c k size memory s a (i ∷ rest) =
      let l : Known = changed_by h c k (placed_by_context size memory s a i) in
      let here : GetsRing k l s i = placed_leaves c k s i _ _ _ in
      let later : KeepsRings l (changed_by_all h c l (map (placed_by_context size memory s a) rest)) = placed_all c l size memory s a rest in
      record { slot_state = later.slot_state ∙ here.slot_state; device = later.device ∙ here.device; some = λ t j has. later.some t j (here.some t j has) }
