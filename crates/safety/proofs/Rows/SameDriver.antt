-- What events leave as it is: registers, memory, and what is declared and given of each ring
use Rattle.safety.proofs.Words.{typed, [], ◌≡◌, ◌≢◌, ◌∷◌, ℕ, Bool, List, Option, refl, sym, subst, rules, cond_both, Block, BlockKind, code, slot, endpoint, Spot, number, after, RingView, RingChange, Reaches, Opens, Holds, changed, ceiling, target, Command, is_off, Change, Header, shape_of, command_id, ring_having, Known, on_ring, command_at, next_command, passed, broken_off, stopped_at, transferred, transferred_at, transfer_read, set_to, bound_to, moved_to, moved, pointed, disabled, in_state, held_at_ceiling, changed_by, changed_by_all, succeeded, stop_ended, finished, completed, event_read, arith}
use Rattle.safety.proofs.RingsKeep.DriverRows.{ring_here, ring_elsewhere}

-- what is declared and given of a ring
pub record SameGiven (v w : RingView) : Type 0 where
  pub queue : w.queue ≡ v.queue
  pub lengths : w.lengths ≡ v.lengths
  pub given : w.given ≡ v.given
  pub crossed : w.crossed ≡ v.crossed
  pub withdrawn : w.withdrawn ≡ v.withdrawn
  pub free : w.free ≡ v.free

pub record SameDriver (k l : Known) : Type 0 where
  pub started : l.started ≡ k.started
  pub stopped : l.stopped ≡ k.stopped
  pub halt : l.halt ≡ k.halt
  pub register : l.register ≡ k.register
  pub memory : l.memory ≡ k.memory
  pub soiled : l.soiled ≡ k.soiled
  pub reads : l.reads ≡ k.reads
  pub dequeue : l.dequeue ≡ k.dequeue
  pub rings : (r : ℕ) → SameGiven (k.ring r) (l.ring r)

same_given : (v : RingView) → SameGiven v v
same_given v = record { queue = refl; lengths = refl; given = refl; crossed = refl; withdrawn = refl; free = refl }

pub same_driver : (k : Known) → SameDriver k k
same_driver k = search (rules, same_given, k.ring)

pub both_drivers : (k l m : Known) → SameDriver k l → SameDriver l m → SameDriver k m
both_drivers k l m a b = search (rules)

-- the pointer of a ring, or where it is held
abbrev pub IsPointerChange : RingChange → Type 0
IsPointerChange (Reaches t) = Unit {0}
IsPointerChange Opens = Unit {0}
IsPointerChange (Holds n) = Unit {0}
IsPointerChange _ = ⊥

module _ (h : Header) where
  -- what holds of the view of a ring behind something that happens on some ring
  pub view_after : (P : RingView → Type 0) (k : Known) (r : ℕ) (change : RingChange) (q : ℕ) → (q ≡ r → P (changed (shape_of h r) (k.ring r) change)) → (q ≢ r → P (k.ring q)) →
      P ((on_ring h k r change).ring q)
  view_after P k r change q here there = search (rules, ring_here, ring_elsewhere)

  on_rings : (k : Known) (r : ℕ) (change : RingChange) → IsPointerChange change → (q : ℕ) → SameGiven (k.ring q) ((on_ring h k r change).ring q)
  on_rings k r change is q =
      view_after (SameGiven (k.ring q)) k r change q
      (λ same. subst (λ n. SameGiven (k.ring n) (changed (shape_of h r) (k.ring r) change)) (sym same) (grind arith)) (λ other. same_given (k.ring q))

  pub on_ring_same : (k : Known) (r : ℕ) (change : RingChange) → IsPointerChange change → SameDriver k (on_ring h k r change)
  unfolding on_ring
  on_ring_same k r change is =
      record { started = refl; stopped = refl; halt = refl; register = refl; memory = refl; soiled = refl; reads = refl; dequeue = refl; rings = on_rings k r change is }

  -- ---- a Transfer Event

  transferred_same : (k : Known) (c s i r : ℕ) (t : Spot) → SameDriver k (transferred h k c s i r t)
  unfolding transferred broken_off passed stopped_at
  transferred_same k c s i r t = search (rules, after, shape_of, number, both_drivers, on_ring_same, same_given, same_driver)

  pub transfer_same : (k : Known) (b : Block) → SameDriver k (transfer_read h k b)
  unfolding transfer_read transferred_at
  transfer_same k b = grind (arith, same_driver, transferred_same, code, slot, endpoint)

  -- ---- a completion

  set_same : (k : Known) (r : ℕ) (t : Spot) → SameDriver k (set_to h k r t)
  unfolding set_to
  set_same k r t =
      let l : Known = on_ring h k r (Reaches t) in
      both_drivers k l (on_ring h l r (Holds (number t))) (on_ring_same k r (Reaches t) tt) (on_ring_same l r (Holds (number t)) tt)

  moved_same : (k : Known) (o : Option ℕ) (p : ℕ) (cycle : Bool) → SameDriver k (moved h k o p cycle)
  unfolding moved moved_to
  moved_same k o p cycle = grind (arith, same_driver, set_same, target, shape_of, k.ring)

  pointed_same : (k : Known) (s i p : ℕ) (cycle : Bool) → SameDriver k (pointed h k s i p cycle)
  unfolding pointed bound_to
  pointed_same k s i p cycle =
      cond_both (is_off (k.endpoint_state s i)) (bound_to h k s i (ring_having h p) p cycle) (moved h k (k.ring_of s i) p cycle) (SameDriver k)
      (λ _. (grind (arith, same_driver, both_drivers, moved_same, same_given))) (λ _. moved_same k (k.ring_of s i) p cycle)

  pub change_same : (c : Command) (k : Known) (change : Change) → SameDriver k (changed_by h c k change)
  unfolding changed_by disabled typed in_state held_at_ceiling
  change_same c k o = grind (arith, same_given, both_drivers, pointed_same, same_driver, on_ring_same, ceiling, shape_of)

  pub changes_same : (c : Command) (k : Known) (all : List Change) → SameDriver k (changed_by_all h c k all)
  unfolding changed_by_all
  changes_same c k [] = same_driver k
  changes_same c k (change ∷ rest) =
      let l : Known = changed_by h c k change in
      both_drivers k l (changed_by_all h c l rest) (change_same c k change) (changes_same c l rest)

  pub stop_same : (k : Known) (c : Command) → SameDriver k (stop_ended h k c)
  unfolding stop_ended
  stop_same k o = grind (arith, same_given, same_driver)

  pub completion_same : (k : Known) (b : Block) → SameDriver k (completed h k b)
  unfolding completed finished succeeded
  completion_same k b =
      let l : Known = finished h k b (command_at h k (next_command h k)) in
      let t : Spot = after (shape_of h (command_id h)) (next_command h k) in
      both_drivers k l (on_ring h l (command_id h) (Reaches t)) (grind (arith, same_driver, both_drivers, changes_same, stop_same)) (on_ring_same l (command_id h) (Reaches t) tt)

  -- ---- any event

  pub event_same : (k : Known) (n : BlockKind) (b : Block) → SameDriver k (event_read h k n b)
  unfolding event_read
  event_same k o b = grind (arith, transfer_same, completion_same, same_driver)
