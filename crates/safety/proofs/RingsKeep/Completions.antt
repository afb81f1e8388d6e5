-- A Command Completion Event that may be read keeps what the rules keep of each ring, so long as it places endpoints where it may
use Rattle.safety.proofs.MiddleLaws.{typed, [], ◌≡◌, ◌<◌, ◌≤◌, ◌==◌, ◌||◌, if◌then◌else◌, ◌∷◌, ℕ, not, nat_lt, Bool, false, List, Option, None, Some, arith, refl, sym, subst, ltb-true, eqb-true, true, rules, IsShownTo, RingsKept, changed, cond_both, or_parts, not-false, Block, code, slot, pointer, Spot, address_of, number, after, RingView, Reaches, Holds, floor_number, ceiling, target, is_reached, MayReach, holds_keeps, reaches_keeps, reaches_and_holds_keeps, reached_given, after_reached, number-after, move_reached, ceiling_held, ceiling_within, IsAhead, target_ahead, Command, is_off, Change, Places, Stops, changes, Header, IsHeader, shape_of, command_id, ring_having, Known, command_at, next_command, set_to, bound_to, moved_to, moved, pointed, disabled, in_state, held_at_ceiling, changed_by, changed_by_all, succeeded, stop_ended, finished, completed, may_be_taken, can_finish, is_impossible_completion, RingsKeep, EndpointsKeep, MayPoint, MayChange, MayChangeAll, MayFinish, shape_allowed, finish_elsewhere, stands, same_keeps, on_ring_keeps, on_ring_twice_keeps, passes_at, passes_held}
use Rattle.safety.specs.DriverRings.{IsDriverRing}

module _ (h : Header) (is : IsHeader h) (first : Known) where
  -- the pointer of a ring is set to a spot that it may reach
  set_keeps : (k : Known) → RingsKept h first k → (r : ℕ) (t : Spot) → (IsDriverRing h r → MayReach (shape_of h r) (k.ring r) t) → IsShownTo (shape_of h r) (k.ring r) (number t) → RingsKept h first (set_to h k r t)
  unfolding set_to
  set_keeps k keeps r t may shown =
      on_ring_twice_keeps h first k r (Reaches t) (Holds (number t)) keeps (λ driver.
      let allowed = shape_allowed h is r driver in
      record {
        rules = reaches_and_holds_keeps (shape_of h r) allowed k.memory (k.ring r) (keeps r driver).rules t (may driver) (number t) (omega arith)
            (reached_given (shape_of h r) allowed k.memory (k.ring r) (keeps r driver).rules t (may driver)) shown;
        passes = passes_at (shape_of h r) (k.ring r) (changed (shape_of h r) (changed (shape_of h r) (k.ring r) (Reaches t)) (Holds (number t))) (number t) refl refl shown;
      })

  target_keeps : (k : Known) → RingsKept h first k → (r : ℕ) (o : Option Spot) →
      ((t : Spot) → o ≡ Some t → (IsDriverRing h r → MayReach (shape_of h r) (k.ring r) t) × IsShownTo (shape_of h r) (k.ring r) (number t)) → RingsKept h first (moved_to h k r o)
  unfolding moved_to
  target_keeps k keeps r None may = keeps
  target_keeps k keeps r (Some t) may = set_keeps k keeps r t (may t refl).0 (may t refl).1

  -- all before the target is given, and what is free shows its cycle up to there
  abbrev MayGo : Known → Option ℕ → ℕ → Bool → Type 0
  MayGo k o p cycle =
      (r : ℕ) (t : Spot) → o ≡ Some r → target (shape_of h r) (k.ring r) p cycle ≡ Some t → (is_reached (shape_of h r) (k.ring r) t ≡ true) × IsShownTo (shape_of h r) (k.ring r) (number t)

  moved_keeps : (k : Known) → RingsKept h first k → (o : Option ℕ) (p : ℕ) (cycle : Bool) → MayGo k o p cycle → RingsKept h first (moved h k o p cycle)
  unfolding moved
  moved_keeps k keeps None p cycle may = keeps
  moved_keeps k keeps (Some r) p cycle may =
      target_keeps k keeps r (target (shape_of h r) (k.ring r) p cycle) (λ t named.
      let ahead : IsAhead (shape_of h r) (k.ring r) t = target_ahead (shape_of h r) (k.ring r) p cycle t named in
      let goes = may r t refl named in
      (λ driver. move_reached (shape_of h r) (k.ring r) t ahead.is_spot ahead.from goes.0, goes.1))

  bound_keeps : (k : Known) → RingsKept h first k → (s i : ℕ) (o : Option ℕ) (p : ℕ) (cycle : Bool) → MayGo k o p cycle → RingsKept h first (bound_to h k s i o p cycle)
  unfolding bound_to
  bound_keeps k keeps s i None p cycle may = keeps
  bound_keeps k keeps s i (Some r) p cycle may = search (rules, moved_keeps)

  pointed_keeps : (k : Known) → RingsKept h first k → (s i p : ℕ) (cycle : Bool) → MayPoint h k s i p cycle → RingsKept h first (pointed h k s i p cycle)
  unfolding pointed
  pointed_keeps k keeps s i p cycle may =
      cond_both (is_off (k.endpoint_state s i)) (bound_to h k s i (ring_having h p) p cycle) (moved h k (k.ring_of s i) p cycle) (RingsKept h first)
      (λ off. bound_keeps k keeps s i (ring_having h p) p cycle (λ r t at named. (may.binds off r t at named, may.bound_shown off r t at named)))
      (λ on. moved_keeps k keeps (k.ring_of s i) p cycle (λ r t at named. (may.moves on r t at named, may.moved_shown on r t at named)))

  -- a stopped endpoint's ring is held as far as its controller may be
  held_keeps : (k : Known) → RingsKept h first k → (o : Option ℕ) → RingsKept h first (held_at_ceiling h k o)
  unfolding held_at_ceiling
  held_keeps k keeps None = keeps
  held_keeps k keeps (Some r) =
      on_ring_keeps h first k r (Holds (ceiling (shape_of h r) (k.ring r))) keeps (λ driver.
      let allowed = shape_allowed h is r driver in
      let kept = keeps r driver in
      let within = ceiling_within (shape_of h r) allowed k.memory (k.ring r) kept.rules in
      record {
        rules = holds_keeps (shape_of h r) allowed k.memory (k.ring r) kept.rules (ceiling (shape_of h r) (k.ring r)) (record { from = within.0; to = within.1 }) (λ p free below. below);
        passes = passes_at (shape_of h r) (k.ring r) (changed (shape_of h r) (k.ring r) (Holds (ceiling (shape_of h r) (k.ring r)))) (ceiling (shape_of h r) (k.ring r)) refl refl (λ p free below. below);
      })

  change_keeps : (c : Command) (k : Known) (change : Change) → RingsKept h first k → MayChange h k change → RingsKept h first (changed_by h c k change)
  unfolding changed_by disabled typed in_state
  change_keeps c k (Places s i p cycle state) keeps may = search (rules, pointed_keeps)
  change_keeps c k (Stops s i) keeps may = search (rules, held_keeps)
  change_keeps c k _ keeps may = search rules

  changes_keep : (c : Command) (k : Known) (all : List Change) → RingsKept h first k → MayChangeAll h c k all → RingsKept h first (changed_by_all h c k all)
  unfolding changed_by_all
  changes_keep c k [] keeps may = keeps
  changes_keep c k (change ∷ rest) keeps may = changes_keep c (changed_by h c k change) rest (change_keeps c k change keeps may.0) may.1

  stop_keeps : (k : Known) (c : Command) → RingsKept h first k → RingsKept h first (stop_ended h k c)
  unfolding stop_ended
  stop_keeps k o keeps = grind (arith, same_keeps, stop_ended)

  finish_keeps : (k : Known) (b : Block) (o : Option Command) → RingsKept h first k →
      ((c : Command) → o ≡ Some c → code b ≡ 1 → MayChangeAll h c k (changes h.context_size k.memory (slot b) c)) → RingsKept h first (finished h k b o)
  unfolding finished succeeded
  finish_keeps k b None keeps may = keeps
  finish_keeps k b (Some c) keeps may =
      stop_keeps (if code b == 1 then succeeded h k (slot b) c else k) c
      (cond_both (code b == 1) (succeeded h k (slot b) c) k (RingsKept h first)
      (λ success. changes_keep c k (changes h.context_size k.memory (slot b) c) keeps (may c refl (eqb-true (code b) 1 success))) (λ _. keeps))

module _ (h : Header) (is : IsHeader h) where
  at_floor : (k : Known) → next_command h k ≡ floor_number (k.ring (command_id h))
  unfolding next_command
  at_floor k = refl

  pub completion_keeps : (k : Known) (b : Block) → RingsKeep h k → EndpointsKeep h k → is_impossible_completion h k b ≡ false → MayFinish h k b → RingsKept h k (completed h k b)
  unfolding completed is_impossible_completion may_be_taken
  completion_keeps k b keeps endpoints possible may =
      let r : ℕ = command_id h in
      let n : ℕ = next_command h k in
      let l : Known = finished h k b (command_at h k n) in
      let three = or_parts (not (nat_lt n (ceiling (shape_of h r) (k.ring r))) || not (pointer b == address_of (shape_of h r) n) || code b == 0) (not (can_finish k b (command_at h k n))) possible in
      let two = or_parts (not (nat_lt n (ceiling (shape_of h r) (k.ring r))) || not (pointer b == address_of (shape_of h r) n)) (code b == 0) three.0 in
      let one = or_parts (not (nat_lt n (ceiling (shape_of h r) (k.ring r)))) (not (pointer b == address_of (shape_of h r) n)) two.0 in
      let below : n < ceiling (shape_of h r) (k.ring r) = ltb-true n (ceiling (shape_of h r) (k.ring r)) (not-false (nat_lt n (ceiling (shape_of h r) (k.ring r))) one.0) in
      let still : l.ring r ≡ k.ring r = finish_elsewhere h is k b (command_at h k n) endpoints in
      let finishes : RingsKept h k l = finish_keeps h is k k b (command_at h k n) (stands h k keeps) may in
      on_ring_keeps h k l r (Reaches (after (shape_of h r) n)) finishes (λ driver.
      let allowed = shape_allowed h is r driver in
      let within = ceiling_within (shape_of h r) allowed k.memory (k.ring r) (keeps r driver) in
      let reached : MayReach (shape_of h r) (k.ring r) (after (shape_of h r) n) = after_reached (shape_of h r) (k.ring r) n (omega (arith, at_floor k)) (omega (arith, within.1, below)) in
      let held : (m : ℕ) → (k.ring r).held ≡ Some m → number (after (shape_of h r) n) ≤ m =
      λ m at. omega (arith, number-after (shape_of h r) n, ceiling_held (shape_of h r) (k.ring r) m at, below) in
      record {
        rules = reaches_keeps (shape_of h r) allowed l.memory (l.ring r) (finishes r driver).rules (after (shape_of h r) n)
            (subst (λ (v : RingView). MayReach (shape_of h r) v (after (shape_of h r) n)) (sym still) reached)
            (subst (λ (v : RingView). (m : ℕ) → v.held ≡ Some m → number (after (shape_of h r) n) ≤ m) (sym still) held);
        passes = passes_held (shape_of h r) l.memory (l.ring r) (changed (shape_of h r) (l.ring r) (Reaches (after (shape_of h r) n))) (finishes r driver).rules refl refl;
      })
