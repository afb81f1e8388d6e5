-- The success of an unfinished command changes its own slot alone, or its own endpoint, and binds only rings that it names
use Rattle.safety.proofs.LowerLaws.{[], ◌≡◌, ◌∷◌, ℕ, not, Bool, true, false, List, map, Some, refl, inl, inr, eq-eqb, Option, None, list_any, or_parts, or_left, not-false, Command, NoOp, EnableSlot, DisableSlot, AddressDevice, ConfigureEndpoint, EvaluateContext, ResetEndpoint, StopEndpoint, SetTrDequeue, ResetDevice, is_at_rest, changes, placed_by_context, added_endpoints, context_pointer, Header, command_id, is_ring, ring_having, Known, changed_by, succeeded, binding_in, binds, ring_bound, binds_ring, is_bad_dequeue, is_bad_move, IsIn, any_of, MovesIf, arith, any_of_map, ◌∙◌, ap, and_parts, or_right, leb-true, ne_eqb, is_dropped, is_disabled, is_above_control, slot_success, unwrap_or, SlotState, rules, added_concerned, concerns}
use Rattle.safety.proofs.CommandsKeep.OtherSlots.{IsPart, OtherSlots, Within, AllOnly, changes_others}
use Rattle.safety.proofs.Targets.Placings.{at_rest_on}

-- the slot that the success of a command changes; n is that of its completion
abbrev pub changed_slot : Command → ℕ → ℕ
changed_slot NoOp n = 0
changed_slot EnableSlot n = n
changed_slot (DisableSlot s) n = s
changed_slot (AddressDevice s bsr c) n = s
changed_slot (ConfigureEndpoint s dc c) n = s
changed_slot (EvaluateContext s c) n = s
changed_slot (ResetEndpoint s i) n = s
changed_slot (StopEndpoint s i) n = s
changed_slot (SetTrDequeue s i p cycle) n = s
changed_slot (ResetDevice s) n = s

-- what it changes of the slot: the endpoints that it is about; None where the slot as a whole
abbrev pub changed_part : (ℕ → ℕ) → Command → Option (ℕ → Bool)
changed_part memory (ConfigureEndpoint s dc x) = Some (concerns memory (ConfigureEndpoint s dc x))
changed_part memory (EvaluateContext s x) = Some (concerns memory (EvaluateContext s x))
changed_part memory (ResetEndpoint s i) = Some (concerns memory (ResetEndpoint s i))
changed_part memory (StopEndpoint s i) = Some (concerns memory (StopEndpoint s i))
changed_part memory (SetTrDequeue s i p cycle) = Some (concerns memory (SetTrDequeue s i p cycle))
changed_part memory _ = None

module _ (h : Header) (k : Known) where
  -- the rings of slot s or of a part of it, those that a command binds, and the command ring
  pub data OfCommand (s : ℕ) (part : Option (ℕ → Bool)) (e : Command) (r : ℕ) : Type 0 where
    Has : (i : ℕ) → IsPart part i → k.ring_of s i ≡ Some r → OfCommand s part e r
    Binds : binds_ring h k r e ≡ true → OfCommand s part e r
    Commands : r ≡ command_id h → OfCommand s part e r

  pub of_slot : (s : ℕ) (part : Option (ℕ → Bool)) (e : Command) → Within s part (OfCommand s part e) k
  of_slot s part e i r mine at = Has i mine at

  places_only : (s n : ℕ) (part : Option (ℕ → Bool)) (e : Command) (B : ℕ → Type 0) (l : Known) (xs : List ℕ) → ((i : ℕ) → IsIn i xs → IsPart part i) →
      ((i : ℕ) → IsIn i xs → (r : ℕ) → ring_having h (context_pointer h.context_size k.memory n i) ≡ Some r → B r) → AllOnly s part B h e l (map (placed_by_context h.context_size k.memory s n) xs)
  places_only s n part e B l [] mine named = tt
  places_only s n part e B l (i ∷ rest) mine named = (
    (refl, mine i (inl refl), λ off r at. named i (inl refl) r at),
    places_only s n part e B (changed_by h e l (placed_by_context h.context_size k.memory s n i)) rest (λ j there. mine j (inr there)) (λ j there. named j (inr there)),
  )

  set_rests : (s i p : ℕ) (cycle : Bool) → is_bad_move h k (SetTrDequeue s i p cycle) ≡ false → is_at_rest (k.endpoint_state s i) ≡ true
  unfolding is_bad_move
  set_rests s i p cycle good = not-false (is_at_rest (k.endpoint_state s i)) (or_parts (not (is_at_rest (k.endpoint_state s i))) (is_bad_dequeue h k (k.ring_of s i) p cycle) good).0

  -- a slot that is configured stays enabled
  configured_on : (s : ℕ) (dc : Bool) (x : ℕ) (state : SlotState) → is_disabled state ≡ false → is_disabled (unwrap_or (slot_success (ConfigureEndpoint s dc x) state) state) ≡ false
  configured_on s dc x state on = search rules

  -- what a context drops and adds the command is about, and so it is of all endpoints but the first with DC 1
  dropped_concerned : (s x i : ℕ) → is_dropped k.memory x i ≡ true → concerns k.memory (ConfigureEndpoint s false x) i ≡ true
  dropped_concerned s x i drop = search (rules, and_parts, or_left, or_right)

  above_concerned : (s x i : ℕ) → is_above_control i ≡ true → concerns k.memory (ConfigureEndpoint s true x) i ≡ true
  above_concerned s x i above = search (rules, arith, leb-true, ne_eqb)

  configures : (s n x : ℕ) (B : ℕ → Type 0) → ((i : ℕ) → IsIn i (added_endpoints k.memory x) → (r : ℕ) → ring_having h (context_pointer h.context_size k.memory x i) ≡ Some r → B r) →
      AllOnly s (changed_part k.memory (ConfigureEndpoint s false x)) B h (ConfigureEndpoint s false x) k (changes h.context_size k.memory n (ConfigureEndpoint s false x))
  unfolding changes
  configures s n x B named =
      let e : Command = ConfigureEndpoint s false x in
      let places = λ (l : Known). places_only s x (changed_part k.memory e) e B l (added_endpoints k.memory x) (added_concerned k.memory s x) named in
      ((refl, inr (configured_on s false x)), (tt, ((refl, dropped_concerned s x), places _)))

  -- each change is one of the slot, or of the endpoints that it is about
  only_own : (n : ℕ) (e : Command) → MovesIf h k e →
      AllOnly (changed_slot e n) (changed_part k.memory e) (OfCommand (changed_slot e n) (changed_part k.memory e) e) h e k (changes h.context_size k.memory n e)
  unfolding changes changed_by binds_ring binds binding_in ring_bound
  only_own n (ConfigureEndpoint s false x) moves =
      configures s n x _ (λ i there r at. Binds (any_of_map (λ b. is_ring r (ring_bound h b)) (binding_in h k x) (added_endpoints k.memory x)
      ∙ any_of (λ j. is_ring r (ring_bound h (binding_in h k x j))) (added_endpoints k.memory x) i there (ap (is_ring r) at ∙ eq-eqb r r refl)))
  only_own n (ConfigureEndpoint s true x) moves = ((refl, inr (configured_on s true x)), ((refl, above_concerned s x), tt))
  only_own n o moves =
      grind (arith, list_any, is_ring, ring_bound, binding_in, or_left, eq-eqb, false, true, at_rest_on, k.endpoint_state, set_rests)

  pub success_others : (n : ℕ) (e : Command) → MovesIf h k e →
      OtherSlots k (succeeded h k n e) (changed_slot e n) (changed_part k.memory e) (OfCommand (changed_slot e n) (changed_part k.memory e) e)
  unfolding succeeded
  success_others n e moves =
      changes_others (changed_slot e n) (changed_part k.memory e) (OfCommand (changed_slot e n) (changed_part k.memory e) e) h e k (changes h.context_size k.memory n e)
      (of_slot (changed_slot e n) (changed_part k.memory e) e) (only_own n e moves)
