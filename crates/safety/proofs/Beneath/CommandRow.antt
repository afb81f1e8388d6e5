-- Behind an event that is read before it, a write that gives a command breaks no rule: what is tested of its bindings and its slot
use Rattle.safety.proofs.UpperLaws.{[], ◌≡◌, ◌||◌, ◌∷◌, ◌∙◌, ℕ, not, true, false, List, map, All, Some, refl, sym, ap, subst, inl, inr, eq-eqb, rules, MayCome, list_any, or_from, not_from_true, false≢true, false_from_ne_true, All-head, All-tail, cases_option, Block, Command, NoOp, EnableSlot, DisableSlot, AddressDevice, ConfigureEndpoint, EvaluateContext, ResetEndpoint, StopEndpoint, SetTrDequeue, ResetDevice, Header, Write, Read, IsHeader, command_id, is_ring, Known, unfinished, command_given, learned, Binding, binding_in, binds, ring_bound, binds_ring, has_repeats, drops, is_kept, is_taken, is_placed, is_bad_place, is_being_bound, is_bad_binding, lenient, IsIn, some_of, any_of, IsUnfinished, CommandKeeps, DriverKeeps, exclude, adds_streams, is_busy, streams_in, arith, none_fewer, beside_old, command_same, listed_unfinished, listed_before, binds_ring_beside, event_behind}
use Rattle.safety.proofs.CommandsKeep.RingsKept.{none_kept}
use Rattle.safety.proofs.Beneath.CommandBeneath.{rings_there, floors_alike, alike_there}
use Rattle.safety.proofs.Beneath.GivenBehind.{between, there, kept, keeps, facts, beside, beside_given, own_between}

each_in : {X : Type 0} (P : X → Type 0) (xs : List X) (x : X) → All P xs → IsIn x xs → P x
each_in P [] x all at = absurd at
each_in P (y ∷ xs) x all at = elim at [ inl here ↦ subst P (sym here) (All-head P y xs all) | inr later ↦ each_in P xs x (All-tail P y xs all) later ]

module _ (h : Header) (is : IsHeader h) (k : Known) (d : DriverKeeps h k) (a w : ℕ) (e : Block) (clean : MayCome h k (Write a w)) (may : lenient h k (Read e) ≡ [])
    (c : Command) (given : command_given h k a w ≡ Some c) where
  abbrev l : Known
  l = learned h k (Read e)

  abbrev beneath : Known
  beneath = learned h (learned h k (Write a w)) (Read e)

  abbrev x : Known
  x = between h is k d a w e clean may c given

  -- no unfinished command excludes it
  pub idle_behind : is_busy h l c ≡ false
  unfolding is_busy
  idle_behind =
      subst (λ m. list_any (exclude m c) (unfinished h l) ≡ false) (sym (event_behind h is k d e may).driver.memory)
      (none_fewer (exclude k.memory c) (unfinished h k) (unfinished h l) (listed_before h is k d e may) (facts h is k d a w e clean may c given).busy)

  pub profile_behind : adds_streams h l c ≡ false
  unfolding adds_streams streams_in
  profile_behind = by c (own_between h is k d a w e clean may c given).in_profile
    where
      by : (f : Command) → adds_streams h x f ≡ false → adds_streams h l f ≡ false
      by (AddressDevice s bsr n) good = good
      by (ConfigureEndpoint s false n) good = good
      by (ConfigureEndpoint s true n) good = refl
      by NoOp good = refl
      by EnableSlot good = refl
      by (DisableSlot s) good = refl
      by (EvaluateContext s n) good = refl
      by (ResetEndpoint s i) good = refl
      by (StopEndpoint s i) good = refl
      by (SetTrDequeue s i p cycle) good = refl
      by (ResetDevice s) good = refl

  -- what is bound is read neither of device contexts nor of soiled words
  binds_same : (f : Command) → binds h l f ≡ binds h x f
  unfolding binds binding_in
  binds_same o = grind arith

  -- no other command that is unfinished names a ring that this one binds
  unnamed : (r : ℕ) → binds_ring h x r c ≡ true → list_any (binds_ring h l r) (unfinished h l) ≡ false
  unfolding binds_ring
  unnamed r bound =
      false_from_ne_true (list_any (binds_ring h l r) (unfinished h l)) (λ some.
      let found = some_of (binds_ring h l r) (unfinished h l) some in
      let now = listed_unfinished h l found.0 found.1 in
      let before = listed_unfinished h k found.0 (listed_before h is k d e may found.0 found.1) in
      let u : IsUnfinished h beneath now.0 found.0 = search (rules, l, beneath, floors_alike, alike_there, command_same, rings_there) in
      let old : CommandKeeps h beneath now.0 found.0 = (keeps h is k d a w e clean may c given).unfinished now.0 found.0 u in
      let beside_f = beside h is k d a w e clean may c given now.0 found.0 old (beside_old h is k d a w clean.0 before.0 found.0 before.1) in
      let apart : binds_ring h beneath r found.0 ≡ false =
      (kept h is k d a w e clean may c given).unshared r now.0 found.0 (sym (binds_ring_beside h beneath x c (beside_given h is k d a w e clean may c given) r) ∙ bound) u
      (λ same. false≢true (sym (there h is k d a w e clean may c given).fresh ∙ ap (λ p. (l.ring (command_id h)).given p) (sym same) ∙ now.1.given)) in
      false≢true (sym apart ∙ sym (binds_ring_beside h beneath x found.0 beside_f r) ∙ sym (ap (λ bs. list_any (λ b. is_ring r (ring_bound h b)) bs) (binds_same found.0)) ∙ found.2))

  -- nor has an endpoint one of them that isn't dropped
  unkept_behind : (r : ℕ) → binds_ring h x r c ≡ true → is_kept h l c r ≡ false
  unfolding drops
  unkept_behind r bound = none_kept h l c r (λ s i has. (grind (arith, false)) ∙ (own_between h is k d a w e clean may c given).unkept r s i bound has)

  place_behind : (b : Binding) → IsIn b (binds h x c) → is_bad_place h l c b ≡ false
  unfolding is_bad_place binds_ring is_taken is_being_bound is_placed
  place_behind b at =
      let placed = each_in (λ b. is_placed h x (ring_bound h b) b ≡ true) (binds h x c) b (own_between h is k d a w e clean may c given).placed at in
      or_from (is_taken h l c (ring_bound h b)) (not (is_placed h l (ring_bound h b) b)) (search (rules, x, l, cases_option, any_of, eq-eqb, or_from, unkept_behind, unnamed))
      (not_from_true (is_placed h l (ring_bound h b) b) ((grind arith) ∙ placed))

  pub bindings_behind : is_bad_binding h l c ≡ false
  unfolding is_bad_binding
  bindings_behind =
      ap (λ bs. list_any (is_bad_place h l c) bs || has_repeats (map (ring_bound h) bs)) (binds_same c)
      ∙ or_from (list_any (is_bad_place h l c) (binds h x c)) (has_repeats (map (ring_bound h) (binds h x c)))
      (false_from_ne_true (list_any (is_bad_place h l c) (binds h x c)) (λ some.
      let found = some_of (is_bad_place h l c) (binds h x c) some in
      false≢true (sym (place_behind found.0 found.1) ∙ found.2)))
      (own_between h is k d a w e clean may c given).repeats
