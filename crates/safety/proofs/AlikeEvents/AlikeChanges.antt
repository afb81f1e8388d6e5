-- What the success of a command changes, at two knowledges that are alike: it leaves both alike
use Rattle.safety.proofs.MiddleLaws.{typed, Types, [], ◌≡◌, if◌then◌else◌, ◌∷◌, ℕ, Bool, true, false, List, Option, None, Some, arith, sym, subst, put, put_pair, Spot, number, Reaches, target, Command, EndpointState, Stopped, is_off, Change, SlotGoesOn, DeviceLeft, Disables, Places, Stops, Resets, slot_gone_on, Header, shape_of, ring_having, Known, on_ring, set_to, bound_to, moved_to, moved, pointed, disabled, in_state, held_at_ceiling, changed_by, changed_by_all, rules, Alike, ceiling_more, reached_alike, held_alike, state_put, move_put}

pub both_sides_if : {A : Type 0} (R : A → A → Type 0) (b : Bool) (x y u v : A) → (b ≡ true → R x u) → (b ≡ false → R y v) → R (if b then x else y) (if b then u else v)
both_sides_if R b x y u v here there = grind arith

module _ (h : Header) where
  -- where a ring is bound or moved, its target is the same
  pub record SameTarget (k l : Known) (s i p : ℕ) (cycle : Bool) : Type 0 where
    pub binds : is_off (k.endpoint_state s i) ≡ true → (r : ℕ) → ring_having h p ≡ Some r → target (shape_of h r) (l.ring r) p cycle ≡ target (shape_of h r) (k.ring r) p cycle
    pub moves : is_off (k.endpoint_state s i) ≡ false → (r : ℕ) → k.ring_of s i ≡ Some r → target (shape_of h r) (l.ring r) p cycle ≡ target (shape_of h r) (k.ring r) p cycle

  abbrev pub TargetIs : Known → Known → Change → Type 0
  TargetIs k l (Places s i p cycle state) = SameTarget k l s i p cycle
  TargetIs k l (SlotGoesOn s) = Unit {0}
  TargetIs k l (DeviceLeft s) = Unit {0}
  TargetIs k l (Types s which isochronous) = Unit {0}
  TargetIs k l (Disables s which) = Unit {0}
  TargetIs k l (Stops s i) = Unit {0}
  TargetIs k l (Resets s i) = Unit {0}

  abbrev pub TargetsAre : Command → Known → Known → List Change → Type 0
  TargetsAre c k l [] = Unit {0}
  TargetsAre c k l (change ∷ rest) = TargetIs k l change × TargetsAre c (changed_by h c k change) (changed_by h c l change) rest

  module _ (P : ℕ → Type 0) where
    bound_with : (m n : Known) → Alike P m n → (s i r : ℕ) (f g : ℕ → ℕ → Option ℕ) (x y : ℕ → Bool) → g ≡ f → y ≡ x →
        Alike P (let u : Known = record m { ring_of = put_pair f s i (Some r); was_bound = put x r true } in u)
        (let v : Known = record n { ring_of = put_pair g s i (Some r); was_bound = put y r true } in v)
    bound_with m n a s i r f g x y one two = search (rules, put, put_pair)

    target_alike : (k l : Known) → Alike P k l → (r : ℕ) (o : Option Spot) → Alike P (moved_to h k r o) (moved_to h l r o)
    unfolding moved_to set_to
    target_alike k l a r None = a
    target_alike k l a r (Some t) = held_alike h P (on_ring h k r (Reaches t)) (on_ring h l r (Reaches t)) (reached_alike h P k l a r t) r (number t) (number t) (omega arith)

    moved_alike : (k l : Known) → Alike P k l → (o : Option ℕ) (p : ℕ) (cycle : Bool) →
        ((r : ℕ) → o ≡ Some r → target (shape_of h r) (l.ring r) p cycle ≡ target (shape_of h r) (k.ring r) p cycle) → Alike P (moved h k o p cycle) (moved h l o p cycle)
    unfolding moved
    moved_alike k l a o p cycle same = grind (arith, target_alike)

    bound_alike : (k l : Known) → Alike P k l → (s i : ℕ) (o : Option ℕ) (p : ℕ) (cycle : Bool) →
        ((r : ℕ) → o ≡ Some r → target (shape_of h r) (l.ring r) p cycle ≡ target (shape_of h r) (k.ring r) p cycle) → Alike P (bound_to h k s i o p cycle) (bound_to h l s i o p cycle)
    unfolding bound_to
    bound_alike k l a s i None p cycle same = a
    bound_alike k l a s i (Some r) p cycle same = search (rules, bound_with, moved_alike)

    pointed_alike : (k l : Known) → Alike P k l → (s i p : ℕ) (cycle : Bool) (state : EndpointState) → TargetIs k l (Places s i p cycle state) →
        Alike P (pointed h k s i p cycle) (pointed h l s i p cycle)
    unfolding pointed
    pointed_alike k l a s i p cycle state same =
        subst (λ (f : ℕ → ℕ → EndpointState). Alike P (pointed h k s i p cycle) (if is_off (f s i) then bound_to h l s i (ring_having h p) p cycle else moved h l (l.ring_of s i) p cycle)) (sym a.endpoint_state)
        (subst (λ (f : ℕ → ℕ → Option ℕ). Alike P (pointed h k s i p cycle) (if is_off (k.endpoint_state s i) then bound_to h l s i (ring_having h p) p cycle else moved h l (f s i) p cycle)) (sym a.ring_of)
        (both_sides_if (Alike P) (is_off (k.endpoint_state s i)) (bound_to h k s i (ring_having h p) p cycle) (moved h k (k.ring_of s i) p cycle)
        (bound_to h l s i (ring_having h p) p cycle) (moved h l (k.ring_of s i) p cycle)
        (λ off. bound_alike k l a s i (ring_having h p) p cycle (same.binds off)) (λ on. moved_alike k l a (k.ring_of s i) p cycle (same.moves on))))

    ceiling_alike : (k l : Known) → Alike P k l → (o : Option ℕ) → Alike P (held_at_ceiling h k o) (held_at_ceiling h l o)
    unfolding held_at_ceiling
    ceiling_alike k l a None = a
    ceiling_alike k l a (Some r) = search (rules, held_alike, ceiling_more, a.rings)

    pub change_alike : (c : Command) (k l : Known) → Alike P k l → (change : Change) → TargetIs k l change → Alike P (changed_by h c k change) (changed_by h c l change)
    unfolding changed_by disabled typed in_state
    change_alike c k l a (SlotGoesOn s) same = search (rules, slot_gone_on)
    change_alike c k l a (DeviceLeft s) same = search rules
    change_alike c k l a (Types s which isochronous) same = search rules
    change_alike c k l a (Disables s which) same = search rules
    change_alike c k l a (Places s i p cycle state) same =
        let x : Known = pointed h k s i p cycle in
        let y : Known = pointed h l s i p cycle in
        move_put P (in_state h x s i state) (in_state h y s i state) s i l.must_move k.must_move false a.must_move
        (state_put P x y s i state (pointed_alike k l a s i p cycle state same))
    change_alike c k l a (Stops s i) same = grind (arith, Option, Alike, ceiling_alike, state_put)
    change_alike c k l a (Resets s i) same = state_put P k l s i Stopped a

    pub changes_alike : (c : Command) (k l : Known) → Alike P k l → (all : List Change) → TargetsAre c k l all → Alike P (changed_by_all h c k all) (changed_by_all h c l all)
    unfolding changed_by_all
    changes_alike c k l a [] same = a
    changes_alike c k l a (change ∷ rest) same = changes_alike c (changed_by h c k change) (changed_by h c l change) (change_alike c k l a change same.0) rest same.1
