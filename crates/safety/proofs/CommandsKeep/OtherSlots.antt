-- The success of a command leaves other slots, and the rings that it doesn't name; one of an endpoint leaves the slot's other endpoints too
use Rattle.safety.proofs.LowerLaws.{typed, Types, [], ◌≡◌, ◌==◌, ◌&&◌, ◌∷◌, ◌⊎◌, if◌then◌else◌, ℕ, Bool, true, false, List, Option, None, Some, refl, sym, subst, inl, inr, eqb-true, and_parts, false_from_ne_true, cond_both, cond-false, none-some, put_pair, unwrap_or, Spot, number, RingChange, Reaches, Holds, ceiling, target, Command, EndpointState, Off, SlotState, Stopped, is_off, is_disabled, slot_success, Change, SlotGoesOn, DeviceLeft, Disables, Places, Stops, Resets, Header, shape_of, ring_having, Known, on_ring, set_to, bound_to, moved_to, moved, pointed, disabled, in_state, held_at_ceiling, changed_by, changed_by_all, rules, arith, at_pair, at_number}
use Rattle.safety.proofs.RingsKeep.DriverRows.{ring_elsewhere}

-- endpoint i is in the part of a slot that changed: one that the test names, or with None any
abbrev pub IsPart : Option (ℕ → Bool) → ℕ → Type 0
IsPart None i = Unit {0}
IsPart (Some which) i = which i ≡ true

-- what the success of a command may have left as it was: all but slot s, or but this part of it, and but the rings of which B holds. A slot of which a part
-- alone changed isn't Disabled by that
pub record OtherSlots (k l : Known) (s : ℕ) (part : Option (ℕ → Bool)) (B : ℕ → Type 0) : Type 0 where
  pub device : (t : ℕ) → (t ≡ s → part ≡ None → ⊥) → l.device t ≡ k.device t
  pub fewer : (t e : ℕ) → l.device t ≡ Some e → k.device t ≡ Some e
  pub alive : (t : ℕ) → (t ≡ s → part ≡ None → ⊥) → is_disabled (k.slot_state t) ≡ false → is_disabled (l.slot_state t) ≡ false
  pub states : (t i : ℕ) → (t ≡ s → IsPart part i → ⊥) → l.endpoint_state t i ≡ k.endpoint_state t i
  pub ring_of : (t i : ℕ) → (t ≡ s → IsPart part i → ⊥) → l.ring_of t i ≡ k.ring_of t i
  pub within : (i r : ℕ) → IsPart part i → l.ring_of s i ≡ Some r → B r
  pub was_bound : (r : ℕ) → (B r → ⊥) → l.was_bound r ≡ k.was_bound r
  pub rings : (r : ℕ) → (B r → ⊥) → l.ring r ≡ k.ring r

module _ (s : ℕ) (part : Option (ℕ → Bool)) (B : ℕ → Type 0) where
  abbrev pub Within : Known → Type 0
  Within k = (i r : ℕ) → IsPart part i → k.ring_of s i ≡ Some r → B r

  pub same_others : (k : Known) → Within k → OtherSlots k k s part B
  same_others k within = search rules

  pub both_others : (k l m : Known) → OtherSlots k l s part B → OtherSlots l m s part B → OtherSlots k m s part B
  both_others k l m a b = search rules

  part_is : (i j : ℕ) → IsPart part i → j ≡ i → IsPart part j
  part_is i j mine same = subst (λ x. IsPart part x) (sym same) mine

  module _ (h : Header) where
    -- a ring of which B holds
    pub on_others : (k : Known) → Within k → (r : ℕ) (change : RingChange) → B r → OtherSlots k (on_ring h k r change) s part B
    unfolding on_ring
    on_others k within r change named = search (rules, ring_elsewhere)

    set_others : (k : Known) → Within k → (r : ℕ) (t : Spot) → B r → OtherSlots k (set_to h k r t) s part B
    unfolding set_to on_ring
    set_others k within r t named =
        both_others k (on_ring h k r (Reaches t)) (on_ring h (on_ring h k r (Reaches t)) r (Holds (number t))) (on_others k within r (Reaches t) named)
        (on_others (on_ring h k r (Reaches t)) (within) r (Holds (number t)) named)

    bound_others : (k : Known) → Within k → (i : ℕ) → IsPart part i → (o : Option ℕ) (p : ℕ) (cycle : Bool) → ((r : ℕ) → o ≡ Some r → B r) → OtherSlots k (bound_to h k s i o p cycle) s part B
    unfolding bound_to moved moved_to
    bound_others k within i mine None p cycle named = same_others k within
    bound_others k within i mine (Some r) p cycle named =
        let set : OtherSlots k (moved_to h k r (target (shape_of h r) (k.ring r) p cycle)) s part B = grind (arith, same_others, set_others) in
        search (rules, at_pair, part_is, at_number)

    pointed_others : (k : Known) → Within k → (i p : ℕ) → IsPart part i → (cycle : Bool) → (is_off (k.endpoint_state s i) ≡ true → (r : ℕ) → ring_having h p ≡ Some r → B r) →
        OtherSlots k (pointed h k s i p cycle) s part B
    unfolding pointed moved moved_to
    pointed_others k within i p mine cycle named =
        cond_both (is_off (k.endpoint_state s i)) (bound_to h k s i (ring_having h p) p cycle) (moved h k (k.ring_of s i) p cycle) (λ l. OtherSlots k l s part B)
        (λ off. bound_others k within i mine (ring_having h p) p cycle (named off)) (λ on. grind (arith, same_others, set_others, target, shape_of, k.ring))

    state_others : (k : Known) → Within k → (i : ℕ) → IsPart part i → (state : EndpointState) → OtherSlots k (in_state h k s i state) s part B
    unfolding in_state
    state_others k within i mine state = search (rules, at_pair, part_is)

    must_others : (k l : Known) (f : ℕ → ℕ → Bool) → OtherSlots k l s part B → OtherSlots k (let m : Known = record l { must_move = f } in m) s part B
    must_others k l f o = search rules

    -- a change of slot s, which binds rings of which B holds
    abbrev pub ChangesOnly : Command → Known → Change → Type 0
    ChangesOnly c k (SlotGoesOn t) = (t ≡ s) × ((part ≡ None) ⊎ ((state : SlotState) → is_disabled state ≡ false → is_disabled (unwrap_or (slot_success c state) state) ≡ false))
    ChangesOnly c k (DeviceLeft t) = (t ≡ s) × (part ≡ None)
    ChangesOnly c k (Types t which isochronous) = Unit {0}
    ChangesOnly c k (Disables t which) = (t ≡ s) × ((i : ℕ) → which i ≡ true → IsPart part i)
    ChangesOnly c k (Places t i p cycle state) = (t ≡ s) × IsPart part i × (is_off (k.endpoint_state s i) ≡ true → (r : ℕ) → ring_having h p ≡ Some r → B r)
    ChangesOnly c k (Stops t i) = (t ≡ s) × IsPart part i
    ChangesOnly c k (Resets t i) = (t ≡ s) × IsPart part i

    places : (c : Command) (k : Known) (i p : ℕ) (cycle : Bool) (state : EndpointState) → Within k → IsPart part i →
        (is_off (k.endpoint_state s i) ≡ true → (r : ℕ) → ring_having h p ≡ Some r → B r) → OtherSlots k (changed_by h c k (Places s i p cycle state)) s part B
    unfolding changed_by
    places c k i p cycle state within mine named =
        let l : Known = pointed h k s i p cycle in
        let pointing : OtherSlots k (pointed h k s i p cycle) s part B = pointed_others k within i p mine cycle named in
        must_others k (in_state h l s i state) (put_pair k.must_move s i false) (both_others k l (in_state h l s i state) pointing (state_others l pointing.within i mine state))

    stops : (c : Command) (k : Known) (i : ℕ) → Within k → IsPart part i → OtherSlots k (changed_by h c k (Stops s i)) s part B
    unfolding changed_by in_state held_at_ceiling
    stops c k i within mine =
        let l : Known = in_state h k s i Stopped in
        let stopped : OtherSlots k (in_state h k s i Stopped) s part B = state_others k within i mine Stopped in
        both_others k l (held_at_ceiling h l (k.ring_of s i)) stopped (grind (arith, same_others, on_others, ceiling, shape_of, l.ring))

    resets : (c : Command) (k : Known) (i : ℕ) → Within k → IsPart part i → OtherSlots k (changed_by h c k (Resets s i)) s part B
    unfolding changed_by
    resets c k i within mine = state_others k within i mine Stopped

    goes_others : (c : Command) (k : Known) → Within k → ((part ≡ None) ⊎ ((state : SlotState) → is_disabled state ≡ false → is_disabled (unwrap_or (slot_success c state) state) ≡ false)) →
        OtherSlots k (changed_by h c k (SlotGoesOn s)) s part B
    unfolding changed_by
    goes_others c k within keeps = record {
      device = λ t other. refl;
      fewer = λ t e at. at;
      alive = λ t other on.
          at_number (λ (x : SlotState). is_disabled x ≡ false) k.slot_state s (unwrap_or (slot_success c (k.slot_state s)) (k.slot_state s)) t
          (λ same. elim keeps [
            | inl whole ↦ absurd (other same whole)
            | inr stays ↦ stays (k.slot_state s) (subst (λ n. is_disabled (k.slot_state n) ≡ false) same on)
          ])
          (λ different. on);
      states = λ t i other. refl;
      ring_of = λ t i other. refl;
      within = within;
      was_bound = λ r other. refl;
      rings = λ r other. refl;
    }

    -- where the endpoint isn't disabled it stays as it was
    left_on : {X : Type 0} (t i : ℕ) (which : ℕ → Bool) (off now : X) → ((i : ℕ) → which i ≡ true → IsPart part i) → (t ≡ s → IsPart part i → ⊥) → (if t == s && which i then off else now) ≡ now
    left_on t i which off now mine other =
        cond-false (t == s && which i) off now (false_from_ne_true (t == s && which i) (λ both. let p = and_parts (t == s) (which i) both in other (eqb-true t s p.0) (mine i p.1)))

    disables_others : (c : Command) (k : Known) (which : ℕ → Bool) → Within k → ((i : ℕ) → which i ≡ true → IsPart part i) → OtherSlots k (changed_by h c k (Disables s which)) s part B
    unfolding changed_by disabled
    disables_others c k which within mine = record {
      device = λ t other. refl;
      fewer = λ t e at. at;
      alive = λ t other on. on;
      states = λ t i other. left_on t i which Off (k.endpoint_state t i) mine other;
      ring_of = λ t i other. left_on t i which None (k.ring_of t i) mine other;
      within = λ i r here at.
          cond_both (s == s && which i) None (k.ring_of s i) (λ o. o ≡ Some r → B r) (λ off none. absurd (none-some r none)) (λ on kept. within i r here kept) at;
      was_bound = λ r other. refl;
      rings = λ r other. refl;
    }

    types_others : (c : Command) (k : Known) (t : ℕ) (which isochronous : ℕ → Bool) → Within k → OtherSlots k (changed_by h c k (Types t which isochronous)) s part B
    unfolding changed_by typed
    types_others c k t which isochronous within = record {
      device = λ t other. refl;
      fewer = λ t e at. at;
      alive = λ t other on. on;
      states = λ t i other. refl;
      ring_of = λ t i other. refl;
      within = within;
      was_bound = λ r other. refl;
      rings = λ r other. refl;
    }

    pub change_others : (c : Command) (k : Known) (change : Change) → Within k → ChangesOnly c k change → OtherSlots k (changed_by h c k change) s part B
    unfolding changed_by
    change_others c k (SlotGoesOn t) within only = subst (λ x. OtherSlots k (changed_by h c k (SlotGoesOn x)) s part B) (sym only.0) (goes_others c k within only.1)
    change_others c k (DeviceLeft t) within only = subst (λ x. OtherSlots k (changed_by h c k (DeviceLeft x)) s part B) (sym only.0) (search (rules, at_number, none-some))
    change_others c k (Types t which isochronous) within only = types_others c k t which isochronous within
    change_others c k (Disables t which) within only = subst (λ x. OtherSlots k (changed_by h c k (Disables x which)) s part B) (sym only.0) (disables_others c k which within only.1)
    change_others c k (Places t i p cycle state) within only = subst (λ x. OtherSlots k (changed_by h c k (Places x i p cycle state)) s part B) (sym only.0) (places c k i p cycle state within only.1 only.2)
    change_others c k (Stops t i) within only = subst (λ x. OtherSlots k (changed_by h c k (Stops x i)) s part B) (sym only.0) (stops c k i within only.1)
    change_others c k (Resets t i) within only = subst (λ x. OtherSlots k (changed_by h c k (Resets x i)) s part B) (sym only.0) (resets c k i within only.1)

    abbrev pub AllOnly : Command → Known → List Change → Type 0
    AllOnly c k [] = Unit {0}
    AllOnly c k (change ∷ rest) = ChangesOnly c k change × AllOnly c (changed_by h c k change) rest

    pub changes_others : (c : Command) (k : Known) (all : List Change) → Within k → AllOnly c k all → OtherSlots k (changed_by_all h c k all) s part B
    unfolding changed_by_all
    changes_others c k [] within only = same_others k within
    changes_others c k (change ∷ rest) within only =
        let l : Known = changed_by h c k change in
        let first : OtherSlots k (changed_by h c k change) s part B = change_others c k change within only.0 in
        both_others k l (changed_by_all h c l rest) first (changes_others c l rest first.within only.1)
