-- What the success of a command changes, where it doesn't touch the endpoint that was woken: its ring stays woken
use Rattle.safety.proofs.MiddleLaws.{typed, Types, [], ◌≡◌, ◌≢◌, ◌==◌, ◌&&◌, if◌then◌else◌, ◌∷◌, ◌∙◌, ℕ, Bool, true, false, List, Option, None, Some, sym, ap, subst, eq-eqb, eqb-true, rules, list_any, false≢true, or_parts, and_parts, and_from, cond-false, same_Some, put, put_pair, Spot, Command, EndpointState, Stopped, is_off, Change, SlotGoesOn, DeviceLeft, Disables, Places, Stops, Resets, slot_gone_on, Header, IsHeader, ring_having, Known, set_to, bound_to, moved_to, moved, pointed, disabled, in_state, held_at_ceiling, changed_by, changed_by_all, EndpointsKeep, change_keeps, EndpointsStand, MayPlace, untouched_stays, Woken, woken_reach, woken_elsewhere, woken_state, Fits, FitAll, change_stands}
use Rattle.commands.specs.Changes.{touches}
use Rattle.safety.proofs.AlikeEvents.AlikeChanges.{both_sides_if}

-- the endpoint of slot s at index i alone
abbrev pub one_of : ℕ → ℕ → ℕ → ℕ → Bool
one_of s i t j = t == s && j == i

module _ (h : Header) (r s i : ℕ) where
  abbrev Awake : Known → Known → Type 0
  Awake k l = Woken h r (one_of s i) k l

  bound_with : (m n : Known) → Awake m n → (t j q : ℕ) (f g : ℕ → ℕ → Option ℕ) (x y : ℕ → Bool) → g ≡ f → y ≡ x →
      Awake (let u : Known = record m { ring_of = put_pair f t j (Some q); was_bound = put x q true } in u)
      (let v : Known = record n { ring_of = put_pair g t j (Some q); was_bound = put y q true } in v)
  bound_with m n w t j q f g x y one two = search rules

  target_woken : (k l : Known) → Awake k l → (q : ℕ) (o : Option Spot) → q ≢ r → Awake (moved_to h k q o) (moved_to h l q o)
  unfolding moved_to set_to
  target_woken k l w q None other = w
  target_woken k l w q (Some t) other = search (rules, woken_elsewhere, woken_reach)

  moved_woken : (k l : Known) → Awake k l → (o : Option ℕ) (p : ℕ) (cycle : Bool) → ((q : ℕ) → o ≡ Some q → q ≢ r) → Awake (moved h k o p cycle) (moved h l o p cycle)
  unfolding moved
  moved_woken k l w None p cycle others = w
  moved_woken k l w (Some q) p cycle others = search (rules, k.ring, w.rings, target_woken)

  bound_woken : (k l : Known) → Awake k l → (t j : ℕ) (o : Option ℕ) (p : ℕ) (cycle : Bool) → ((q : ℕ) → o ≡ Some q → q ≢ r) → Awake (bound_to h k t j o p cycle) (bound_to h l t j o p cycle)
  unfolding bound_to
  bound_woken k l w t j None p cycle others = w
  bound_woken k l w t j (Some q) p cycle others =
      bound_with (moved h k (Some q) p cycle) (moved h l (Some q) p cycle) (moved_woken k l w (Some q) p cycle others) t j q k.ring_of l.ring_of k.was_bound l.was_bound w.ring_of w.was_bound

  ceiling_woken : (k l : Known) → Awake k l → (o : Option ℕ) → ((q : ℕ) → o ≡ Some q → q ≢ r) → Awake (held_at_ceiling h k o) (held_at_ceiling h l o)
  unfolding held_at_ceiling
  ceiling_woken k l w None others = w
  ceiling_woken k l w (Some q) others = search (rules, k.ring, w.rings, woken_elsewhere)

  -- ---- one change

  -- the endpoint has the ring
  pub record Owns (k : Known) : Type 0 where
    pub keeps : EndpointsKeep h k
    pub stands : EndpointsStand k
    pub has : k.ring_of s i ≡ Some r

  -- a ring of another endpoint is another one
  other_ring : (k : Known) → Owns k → (t j : ℕ) → one_of s i t j ≡ false → (q : ℕ) → k.ring_of t j ≡ Some q → q ≢ r
  other_ring k o t j apart q at same = search (rules, o.stands.one_endpoint, o.has, false≢true, and_from, eq-eqb)

  pub flipped : (t j : ℕ) → (s == t && i == j) ≡ false → one_of s i t j ≡ false
  flipped t j apart = search (rules, and_parts, false≢true, and_from, eq-eqb, eqb-true)

  pointed_woken : (k l : Known) → Awake k l → Owns k → (t j p : ℕ) (cycle : Bool) (e : EndpointState) → one_of s i t j ≡ false → MayPlace h k t j p e →
      Awake (pointed h k t j p cycle) (pointed h l t j p cycle)
  unfolding pointed
  pointed_woken k l w o t j p cycle e apart may =
      subst (λ x. Awake (pointed h k t j p cycle) (if is_off x then bound_to h l t j (ring_having h p) p cycle else moved h l (l.ring_of t j) p cycle)) (sym (w.state t j apart))
      (subst (λ (f : ℕ → ℕ → Option ℕ). Awake (pointed h k t j p cycle) (if is_off (k.endpoint_state t j) then bound_to h l t j (ring_having h p) p cycle else moved h l (f t j) p cycle)) (sym w.ring_of)
      (both_sides_if Awake (is_off (k.endpoint_state t j)) (bound_to h k t j (ring_having h p) p cycle) (moved h k (k.ring_of t j) p cycle)
      (bound_to h l t j (ring_having h p) p cycle) (moved h l (k.ring_of t j) p cycle)
      (λ off. bound_woken k l w t j (ring_having h p) p cycle (λ q at same.
      let new = may.binds off in
      new.free s i (o.has ∙ ap (λ n. Some n) (sym (same_Some new.ring q (sym new.named ∙ at) ∙ same)))))
      (λ on. moved_woken k l w (k.ring_of t j) p cycle (other_ring k o t j apart))))

  pub change_woken : (c : Command) (k l : Known) → Awake k l → Owns k → (change : Change) → touches s i change ≡ false → Fits h k change → Awake (changed_by h c k change) (changed_by h c l change)
  unfolding changed_by disabled typed in_state
  change_woken c k l w o (SlotGoesOn t) apart fits = search (rules, slot_gone_on)
  change_woken c k l w o (DeviceLeft t) apart fits = search (rules, put)
  change_woken c k l w o (Types t which isochronous) apart fits = search rules
  change_woken c k l w o (Disables u which) apart fits = search (rules, cond-false, and_parts, eqb-true)
  change_woken c k l w o (Places t j p cycle e) apart fits =
      let x : Known = pointed h k t j p cycle in
      let y : Known = pointed h l t j p cycle in
      let there : one_of s i t j ≡ false = flipped t j apart in
      let a : Awake (in_state h x t j e) (in_state h y t j e) = woken_state h r (one_of s i) x y t j e there (pointed_woken k l w o t j p cycle e there fits) in
      search (rules, put_pair)
  change_woken c k l w o (Stops t j) apart fits =
      let there : one_of s i t j ≡ false = flipped t j apart in
      subst (λ (f : ℕ → ℕ → Option ℕ). Awake (changed_by h c k (Stops t j)) (held_at_ceiling h (in_state h l t j Stopped) (f t j))) (sym w.ring_of)
      (ceiling_woken (in_state h k t j Stopped) (in_state h l t j Stopped) (woken_state h r (one_of s i) k l t j Stopped there w) (k.ring_of t j) (other_ring k o t j there))
  change_woken c k l w o (Resets t j) apart fits = woken_state h r (one_of s i) k l t j Stopped (flipped t j apart) w

  -- ---- all changes

  owns_still : IsHeader h → (c : Command) (k : Known) → Owns k → (change : Change) → touches s i change ≡ false → Fits h k change → Owns (changed_by h c k change)
  owns_still is c k o change apart fits = record {
    keeps = change_keeps h is c k change o.keeps;
    stands = change_stands h c k change o.keeps o.stands fits;
    has = (untouched_stays h s i c k change apart).ring_of ∙ o.has;
  }

  pub changes_woken : IsHeader h → (c : Command) (k l : Known) → Awake k l → Owns k → (all : List Change) → list_any (touches s i) all ≡ false → FitAll h c k all →
      Awake (changed_by_all h c k all) (changed_by_all h c l all)
  unfolding changed_by_all
  changes_woken is c k l w o [] apart fits = w
  changes_woken is c k l w o (change ∷ rest) apart fits =
      let parts = or_parts (touches s i change) (list_any (touches s i) rest) apart in
      changes_woken is c (changed_by h c k change) (changed_by h c l change) (change_woken c k l w o change parts.0 fits.0) (owns_still is c k o change parts.0 fits.0) rest parts.1 fits.1
