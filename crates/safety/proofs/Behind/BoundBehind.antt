-- A ring that waits for a binding behind an event waited for it before
use Rattle.safety.proofs.UpperLaws.{typed, [], ◌≡◌, if◌then◌else◌, ◌∷◌, ◌∙◌, ℕ, Bool, true, false, refl, sym, ap, inl, inr, list_any, and_parts, and_from, false≢true, cases_option, cases_Bool, Block, Command, AddressDevice, ConfigureEndpoint, is_off, is_open, Header, Read, IsHeader, is_ring, Known, learned, lenient, Binding, binding_in, binds, ring_bound, binds_ring, is_being_bound, awaits_binding, some_of, any_of, IsUnfinished, DriverKeeps, List, Option, None, rules, none-some, BlockKind, kind, Spot, number, Reaches, Holds, ceiling, stopped_number, target, Change, shape_of, ring_having, on_ring, event_at, passed, broken_off, stopped_at, transferred, transferred_at, transfer_read, set_to, bound_to, moved_to, moved, pointed, disabled, in_state, held_at_ceiling, changed_by, changed_by_all, succeeded, stop_ended, finished, completed, event_read, arith, clean_tests, off_is, view_after, open_held, held_open, read_on, Behind, event_behind, listed_unfinished, listed_before, rings_behind, added_endpoints, map}
use Rattle.safety.proofs.DriverHistories.{kept_driver}

-- An event opens no ring: one that is open behind it was open before

-- a ring that is open at l is open at k
abbrev OpensNone : Known → Known → Type 0
OpensNone k l = (r : ℕ) → (l.ring r).held ≡ None → (k.ring r).held ≡ None

same_opens : (k : Known) → OpensNone k k
same_opens k r none = none

both_open : (k l m : Known) → OpensNone k l → OpensNone l m → OpensNone k m
both_open k l m a b r none = a r (b r none)

module _ (h : Header) where
  reach_opens : (k : Known) (r : ℕ) (t : Spot) → OpensNone k (on_ring h k r (Reaches t))
  reach_opens k r t q = view_after h (λ v. v.held ≡ None → (k.ring q).held ≡ None) k r (Reaches t) q (λ same none. ap (λ n. (k.ring n).held) same ∙ none) (λ _ none. none)

  hold_opens : (k : Known) (r n : ℕ) → OpensNone k (on_ring h k r (Holds n))
  hold_opens k r n q = view_after h (λ v. v.held ≡ None → (k.ring q).held ≡ None) k r (Holds n) q (λ same none. absurd (none-some n (sym none))) (λ _ none. none)

  -- ---- a Transfer Event

  module _ (k : Known) (r : ℕ) (t : Spot) where
    stopped_opens : (s i : ℕ) → OpensNone k (stopped_at h k s i r t)
    unfolding stopped_at
    stopped_opens s i = search (rules, on_ring, stopped_number, shape_of, k.ring, both_open, hold_opens, reach_opens)

  -- ---- a completion

  moved_opens : (k : Known) (o : Option ℕ) (p : ℕ) (cycle : Bool) → OpensNone k (moved h k o p cycle)
  unfolding moved moved_to set_to
  moved_opens k o p cycle = grind (arith, same_opens, on_ring, both_open, number, reach_opens, hold_opens, target, shape_of, k.ring)

  change_opens : (c : Command) (k : Known) (change : Change) → OpensNone k (changed_by h c k change)
  unfolding changed_by disabled typed in_state pointed held_at_ceiling bound_to
  change_opens c k o = grind (arith, is_off, bound_to, ring_having, moved, same_opens, moved_opens, hold_opens, ceiling, shape_of, in_state, k.ring_of)

  changes_open : (c : Command) (k : Known) (all : List Change) → OpensNone k (changed_by_all h c k all)
  unfolding changed_by_all
  changes_open c k [] = same_opens k
  changes_open c k (change ∷ rest) =
      let l : Known = changed_by h c k change in both_open k l (changed_by_all h c l rest) (change_opens c k change) (changes_open c l rest)

  -- ---- any event

  kind_opens : (k : Known) (b : Block) (n : BlockKind) → OpensNone k (event_read h k n b)
  unfolding event_read transfer_read transferred_at transferred broken_off passed completed finished succeeded stop_ended
  kind_opens k b o = search (rules, reach_opens, both_open, hold_opens, stopped_opens, event_at, same_opens, changes_open)

  pub opened_before : (k : Known) (b : Block) (r : ℕ) → is_open ((learned h k (Read b)).ring r) ≡ true → is_open (k.ring r) ≡ true
  unfolding learned
  opened_before k b r opened = held_open (k.ring r) ((kind_opens k b (kind b)) r (open_held ((learned h k (Read b)).ring r) opened))

module _ (h : Header) (is : IsHeader h) (k : Known) (d : DriverKeeps h k) (e : Block) (may : lenient h k (Read e) ≡ []) where
  abbrev l : Known
  l = learned h k (Read e)

  b : Behind h k l
  b = event_behind h is k d e may

  behind_keeps : DriverKeeps h l
  behind_keeps = kept_driver h is k (Read e) d (may, tt) (read_on h k e ∙ (clean_tests h k (Read e) may).0)

  -- an endpoint that is off behind the event, and whose slot has an unfinished command, was off before
  off_before : (p s n : ℕ) (bsr : Bool) → IsUnfinished h l p (AddressDevice s bsr n) → is_off (l.endpoint_state s 1) ≡ true → is_off (k.endpoint_state s 1) ≡ true
  off_before p s n bsr u off =
      elim (cases_option (k.ring_of s 1)) [
        | inl none ↦ ap is_off (d.states.off s 1 none)
        | inr has ↦
            absurd (behind_keeps.states.on s 1 has.0 (rings_behind h is k d e may p (AddressDevice s bsr n) s 1 u (refl, refl) ∙ has.1) (off_is (l.endpoint_state s 1) off))
      ]

  binds_before : (p r : ℕ) (c : Command) → IsUnfinished h l p c → binds_ring h l r c ≡ true → binds_ring h k r c ≡ true
  unfolding binds_ring binds binding_in
  binds_before p r (AddressDevice s bsr n) u bound =
      elim (cases_Bool (is_off (l.endpoint_state s 1))) [
        | inl off ↦
            ap (λ t. list_any (λ b. is_ring r (ring_bound h b)) (if t then binding_in h k n 1 ∷ [] else [])) (off_before p s n bsr u off)
            ∙ ap (λ (x : Binding). list_any (λ b. is_ring r (ring_bound h b)) (x ∷ [])) (sym (ap (λ m. let x : Known = record k { memory = m } in binding_in h x n 1) b.driver.memory))
            ∙ ap (λ t. list_any (λ b. is_ring r (ring_bound h b)) (if t then binding_in h l n 1 ∷ [] else [])) (sym off) ∙ bound
        | inr on ↦ absurd (false≢true (ap (λ t. list_any (λ b. is_ring r (ring_bound h b)) (if t then binding_in h l n 1 ∷ [] else [])) (sym on) ∙ bound))
      ]
  binds_before p r (ConfigureEndpoint s false n) u bound =
      sym (ap (λ m. let x : Known = record k { memory = m } in list_any (λ y. is_ring r (ring_bound h y)) (map (binding_in h x n) (added_endpoints m n))) b.driver.memory) ∙ bound
  binds_before p r _ u bound = absurd (false≢true bound)

  pub bound_before : (r : ℕ) → is_being_bound h l r ≡ true → is_being_bound h k r ≡ true
  unfolding is_being_bound
  bound_before r binding = grind (arith, some_of, listed_unfinished, any_of, listed_before, binds_before)

  pub awaits_before : (r : ℕ) → awaits_binding h l r ≡ true → awaits_binding h k r ≡ true
  unfolding awaits_binding
  awaits_before r awaits = grind (arith, and_parts, and_from, opened_before, bound_before)
