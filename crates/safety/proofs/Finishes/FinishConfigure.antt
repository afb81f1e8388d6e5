-- The controller finishes a Configure Endpoint with success: the run goes on
use Rattle.safety.proofs.MiddleLaws.{typed, typed_by_context, ◌≡◌, ◌<◌, ◌≤◌, ◌||◌, ◌∷◌, ◌∙◌, ℕ, true, false, List, map, All, None, arith, refl, sym, ap, subst, get_or, eq-eqb, leb-true, rules, and_from, and_right, cond-true, cond-false, false≢true, Command, ConfigureEndpoint, Change, SlotGoesOn, Disables, changes, placed_by_context, is_off, added_endpoints, is_dropped, Header, IsHeader, World, Known, next_command, binding_in, binds, ring_bound, has_repeats, DriverKeeps, CommandKeeps, Stands, changed_by, changed_by_all, disabled, succeeded, bad_context_parts, bad_command_context, added_above, ReadyAt, map_map, dropped, all_ready, slot_above, off_none, slot_keeps, rings_of, StatesMatch, ChangeKeeps, same_context, added_below, configure_same, disable_keeps, types_keeps}
use Rattle.safety.proofs.RingsKeep.KeptRings.{command_holds}
use Rattle.safety.proofs.Finishes.PlaceEach.{each_keeps}
use Rattle.safety.proofs.Finishes.FinishSuccess.{EffectKeeps}
use Rattle.safety.proofs.Finishes.FinishGiven.{ListKeeps, change_then}
use Rattle.world_state.specs.Bindings as bindings

module _ (h : Header) (is : IsHeader h) (k : Known) (d : DriverKeeps h k) (s a : ℕ) (given : CommandKeeps h k (next_command h k) (ConfigureEndpoint s false a)) where
  abbrev pub c : Command
  c = ConfigureEndpoint s false a

  -- behind the drops
  abbrev pub l : Known
  l = dropped h is c k s a

  -- what is added was dropped or off, so it has no ring
  none_left : (i : ℕ) → (is_off (k.endpoint_state s i) || is_dropped k.memory a i) ≡ true → l.ring_of s i ≡ None
  unfolding changed_by disabled typed
  none_left i free = search (rules, l, cond-true, and_from, eq-eqb, cond-false, and_right, off_none, false≢true)

  pub may_add : All (ReadyAt h is l k.memory s a) (added_endpoints k.memory a)
  may_add = all_ready h is k (rings_of h k d) s a (command_holds h k (next_command h k) c given)

  pub have_none : All (λ i. l.ring_of s i ≡ None) (added_endpoints k.memory a)
  have_none x e inside = none_left (get_or (added_endpoints k.memory a) x e) ((command_holds h k (next_command h k) c given).free x e inside)

  pub numbered : All (λ i. (0 < i) × (i < 32)) (added_endpoints k.memory a)
  numbered x e inside =
      let i : ℕ = get_or (added_endpoints k.memory a) x e in
      let least : 2 ≤ i = leb-true 2 i (added_above k.memory a x e inside) in
      (omega arith, added_below k.memory a x e inside)

  pub apart : has_repeats (map (λ i. ring_bound h (binding_in h k a i)) (added_endpoints k.memory a)) ≡ false
  unfolding binds
  apart = ap has_repeats (sym (map_map h is (ring_bound h) (binding_in h k a) (added_endpoints k.memory a))) ∙ given.repeats

  each : (w : World) → StatesMatch h l w → s < 256 → ListKeeps h c l w (map (placed_by_context h.context_size k.memory s a) (added_endpoints k.memory a))
  unfolding ring_bound binding_in
  each w m low = each_keeps h is k.memory s a c (slot_above h k d c s given.good refl) low (added_endpoints k.memory a) l w m may_add have_none numbered apart

  abbrev pub all : List Change
  all = SlotGoesOn s ∷ typed_by_context h.context_size k.memory s a ∷ Disables s (is_dropped k.memory a) ∷ map (placed_by_context h.context_size k.memory s a) (added_endpoints k.memory a)

  list_keeps : (w : World) → StatesMatch h k w → s < 256 → ListKeeps h c k w all
  list_keeps w m low = search (rules, change_then, slot_keeps, types_keeps, disable_keeps, each)

  pub configure_changes : (n : ℕ) → changes h.context_size k.memory n c ≡ all
  unfolding changes
  configure_changes n = refl

  pub configure_keeps : (w : World) (n : ℕ) → Stands h k w → StatesMatch h k w → s < 256 → EffectKeeps h k w n c
  unfolding bindings.effect succeeded
  configure_keeps w n stands states low x at =
      let lies = bad_context_parts h k a (bad_command_context h k c given.good) in
      let world_list : changes h.context_size w.memory n c ≡ all = configure_same h.context_size w.memory k.memory n s a (same_context h is k w a stands lies) ∙ configure_changes n in
      subst (λ list. ChangeKeeps h k (changed_by_all h c k list) w x) (sym (configure_changes n))
      (list_keeps w states low x (ap (λ list. bindings.changed_by_all h c w list) (sym world_list) ∙ at))
