-- A ring that a row starts or moves is restored first: all of it stands as declared, and nothing of it is free any more
use Rattle.safety.proofs.UpperLaws.{KeepsValues, changed, [], ◌≡◌, ◌∷◌, ◌∙◌, ℕ, ◌≢◌, false, List, refl, sym, ap, Block, RingChange, Header, Read, IsHeader, command_id, World, Known, on_ring, learned, lenient, DriverKeeps, HeldMore, Agrees, ArePossible, Runs, all_read, ◌||◌, not, Bool, Option, None, Some, option_and_then, slice_get, inl, inr, rules, is_not_restored, Restores, restores_keeps, is_left, restored, restored_on, ring_moved, ring_restored, some_flips, command_of, flat_map, or_parts, Ring, list_any, none-some, same_Some, block_at, IsRestored, address_of, cycle_of, positions_given, flips_passed, unrestored, is_declared_as, Command, Row, Write, Bell, shape_of, driver_rings, command_at, command_given, MayCome, MovesRestored, KeepsPassed, IsTransferRing, arith, more_law, read_on, behind_kept, event_behind, read_same, none_fewer, quiet_keeps, restored_agrees, held_more_same, held_more_twice, weaker, driver_test, ring_elsewhere, ring_here, ring_shape, transfer_driver, transfer_not_command, HasRing, has_ring, none_of_ring, QuietSquare, quiet_square, IsQuiet, unrestored_before}
use Rattle.safety.proofs.DriverHistories.{kept_driver}

-- A descriptor that is withdrawn, or a ring that is restored, beneath all events that aren't read yet: the run goes on

-- Good is what the change rests on: it stays behind an event, and where it holds the change keeps what a driver keeps, and what events may tell
pub record IsGood (h : Header) (r : ℕ) (change : RingChange) (Good : Known → Type 0) : Type 0 where
  pub quiet : IsQuiet change
  pub other : r ≢ command_id h
  pub keeps : (k : Known) → DriverKeeps h k → Good k → DriverKeeps h (on_ring h k r change)
  pub values : (k : Known) → Good k → KeepsValues (shape_of h r) (k.ring r) (changed (shape_of h r) (k.ring r) change)
  pub behind : (k : Known) (e : Block) → DriverKeeps h k → lenient h k (Read e) ≡ [] → Good k → Good (learned h k (Read e))

module _ (h : Header) (is : IsHeader h) (r : ℕ) (change : RingChange) (Good : Known → Type 0) (g : IsGood h r change Good) where
  abbrev d : Known → Known
  d k = on_ring h k r change

  d_stopped : (k : Known) → (d k).stopped ≡ k.stopped
  unfolding on_ring
  d_stopped k = refl

  -- what is known, and what is known with the change somewhere beneath
  record Beside (k m : Known) : Type 0 where
    pub keeps : DriverKeeps h k
    pub keeps_beneath : DriverKeeps h m
    pub good : Good k
    pub on : k.stopped ≡ false
    pub held : HeldMore (d k) m

  one_on : (k m : Known) (e : Block) → lenient h k (Read e) ≡ [] → Beside k m → (lenient h m (Read e) ≡ []) × Beside (learned h k (Read e)) (learned h m (Read e))
  one_on k m e event b =
      let s : QuietSquare h r change g.quiet g.other k e = quiet_square h r change g.quiet g.other is k b.keeps (g.values k b.good) e event in
      let both = more_law h (d k) m e (g.keeps k b.keeps b.good) b.keeps_beneath b.held s.event in (
        both.0,
        record {
          keeps = kept_driver h is k (Read e) b.keeps (event, tt) (read_on h k e ∙ b.on);
          keeps_beneath = kept_driver h is m (Read e) b.keeps_beneath (both.0, tt) (read_on h m e ∙ sym (ap (λ x. x.stopped) b.held.rest) ∙ d_stopped k ∙ b.on);
          good = g.behind k e b.keeps event b.good;
          on = read_on h k e ∙ b.on;
          held = held_more_twice (d (learned h k (Read e))) (learned h (d k) (Read e)) (learned h m (Read e)) s.after both.1;
        },
      )

  all_on : (unread : List Block) (k m : Known) → ArePossible h k unread → Beside k m → ArePossible h m unread × Beside (all_read h k unread) (all_read h m unread)
  all_on [] k m possible b = (tt, b)
  all_on (e ∷ rest) k m possible b =
      let one = one_on k m e possible.0 b in
      let later = all_on rest (learned h k (Read e)) (learned h m (Read e)) possible.1 one.1 in
      ((one.0, later.0), later.1)

  -- the run goes on, where the change agrees with the world
  pub quiet_runs : (now : Known) (w v : World) → DriverKeeps h now → Good now → (run : Runs h now w) →
      ((later : Known) → DriverKeeps h later → Good later → Agrees h later run.unread w → Agrees h (d later) run.unread v) → Runs h (d now) v
  quiet_runs now w v keeps good run agrees =
      let b = all_on run.unread now (d now) run.possible (record { keeps = keeps; keeps_beneath = g.keeps now keeps good; good = good; on = run.on; held = held_more_same (d now) }) in
      let later : Known = all_read h now run.unread in
      record {
        unread = run.unread;
        possible = b.0;
        blocks = run.blocks;
        on = d_stopped now ∙ run.on;
        agrees = weaker h (d later) (all_read h (d now) run.unread) b.1.held run.unread v (agrees later b.1.keeps b.1.good run.agrees);
      }

-- a list is the lists of its elements alone, one after the other
each_alone : (test : Ring → Bool) (xs : List Ring) → list_any test (flat_map (λ q. q ∷ []) xs) ≡ list_any test xs
each_alone test [] = refl
each_alone test (x ∷ rest) = ap (λ b. test x || b) (each_alone test rest)

module _ (h : Header) (is : IsHeader h) (r : ℕ) (transfer : IsTransferRing h r) where
  other : r ≢ command_id h
  other = transfer_not_command h is r transfer

  abbrev Stands : Known → Type 0
  Stands k = is_not_restored (shape_of h r) (k.ring r) k.memory ≡ false

  moved : (k : Known) (c : Command) → MovesRestored k c → MovesRestored (on_ring h k r Restores) c
  unfolding on_ring
  moved k c restored t i x cycle at q has = search (rules, ring_here, ring_elsewhere)

  pub restored_keeps : (k : Known) → DriverKeeps h k → Stands k → DriverKeeps h (on_ring h k r Restores)
  restored_keeps k d stands =
      quiet_keeps h r Restores tt other k d (λ driver. restores_keeps (shape_of h r) (ring_shape h is r driver).is k.memory (k.ring r) (d.rings r driver) stands) (λ p c u. moved k c)

  -- behind an event no more is free, and memory and what is declared are the same
  behind : (k : Known) (e : Block) → DriverKeeps h k → lenient h k (Read e) ≡ [] → Stands k → Stands (learned h k (Read e))
  unfolding is_not_restored
  behind k e d may stands =
      let l : Known = learned h k (Read e) in
      let test : (ℕ → ℕ) → List Block → ℕ → Bool = λ m q p. not (is_declared_as (block_at m (address_of (shape_of h r) p)) (cycle_of (shape_of h r) p) (slice_get q p)) in
      elim ((event_behind h is k d e may).rings r) [
        | inl same ↦ (λ j. list_any (test ((event_behind h is k d e may).driver.memory j) (same j).queue) (unrestored (shape_of h r) (same j))) ∙ stands
        | inr on ↦
            (λ j. list_any (test ((event_behind h is k d e may).driver.memory j) (((read_same h k e).rings r).queue j)) (unrestored (shape_of h r) (l.ring r)))
            ∙ none_fewer (test k.memory (k.ring r).queue) (unrestored (shape_of h r) (k.ring r)) (unrestored (shape_of h r) (l.ring r))
            (unrestored_before (shape_of h r) k.memory (k.ring r) (l.ring r) on.1 (behind_kept h is k d e may r (driver_test h r (transfer_driver h r transfer))).passes) stands
      ]

  good : IsGood h r Restores Stands
  good = record { quiet = tt; other = other; keeps = restored_keeps; values = λ k stands p from below. refl; behind = behind }

  pub restored_runs : (k : Known) (w : World) → DriverKeeps h k → Stands k → Runs h k w → Runs h (on_ring h k r Restores) w
  restored_runs k w d stands run = quiet_runs h is r Restores Stands good k w w d stands run (λ later keeps good agrees. restored_agrees h r other later run.unread w agrees)

pub stopped_still : (h : Header) (k : Known) (o : Option ℕ) → (restored_on h k o).stopped ≡ k.stopped
unfolding restored_on on_ring
stopped_still h k o = grind arith

module _ (h : Header) (is : IsHeader h) (k : Known) (d : DriverKeeps h k) where
  -- the ring that a row starts or moves is the one of an endpoint
  pub record OfEndpoint (r : ℕ) : Type 0 where
    pub slot : ℕ
    pub index : ℕ
    pub has : k.ring_of slot index ≡ Some r

  restored_of : (row : Row) (r : ℕ) → ring_restored h k row ≡ Some r → OfEndpoint r
  unfolding ring_restored ring_moved
  restored_of (Bell s t) r at = record { slot = s; index = t; has = at }
  restored_of (Write a w) r at = (grind (arith, none-some))
  restored_of _ r at = absurd (none-some r at)

  transfer : (r : ℕ) → OfEndpoint r → IsTransferRing h r
  transfer r e = d.states.transfer e.slot e.index r e.has

  -- ---- where it is restored

  pub row_keeps : (row : Row) → is_left h k (ring_restored h k row) ≡ false → DriverKeeps h (restored h k row)
  unfolding restored_on is_left
  row_keeps row good = grind (arith, restored_keeps h is, transfer, restored_of row)

  pub row_runs : (row : Row) (w : World) → is_left h k (ring_restored h k row) ≡ false → Runs h k w → Runs h (restored h k row) w
  unfolding restored_on is_left
  row_runs row w good run = grind (arith, restored_runs h is, transfer, restored_of row)

  -- ---- the row may come there

  ring_of_same : (o : Option ℕ) → (restored_on h k o).ring_of ≡ k.ring_of
  unfolding restored_on on_ring
  ring_of_same o = grind arith

  -- nothing is free of the ring
  none_free : (o : Option ℕ) (r : ℕ) → o ≡ Some r → IsRestored ((restored_on h k o).ring r)
  unfolding restored_on
  none_free o r at = grind (arith, none-some, on_ring, same_Some, ring_here)

  command_ring_same : (row : Row) → (restored h k row).ring (command_id h) ≡ k.ring (command_id h)
  unfolding restored_on
  command_ring_same row = by (ring_restored h k row) refl
    where
      by : (o : Option ℕ) → ring_restored h k row ≡ o → (restored_on h k o).ring (command_id h) ≡ k.ring (command_id h)
      by None at = refl
      by (Some r) at = ring_elsewhere h k r (command_id h) Restores (λ same. transfer_not_command h is r (transfer r (restored_of row r at)) (sym same))

  bell_restored : (s t r : ℕ) → (restored h k (Bell s t)).ring_of s t ≡ Some r → IsRestored ((restored h k (Bell s t)).ring r)
  unfolding ring_restored
  bell_restored s t r has = none_free (ring_restored h k (Bell s t)) r (sym (ap (λ f. f s t) (ring_of_same (ring_restored h k (Bell s t)))) ∙ has)

  passed_kept : (m : Known) (a w : ℕ) → some_flips h m (Write a w) ≡ false → KeepsPassed h m a w
  unfolding some_flips
  passed_kept m a w none r driver =
      let has : HasRing h r = has_ring h r driver in
      let one = none_of_ring h r has (λ (q : Ring). flips_passed q.shape (m.ring q.id) a w) (λ q. q ∷ []) (each_alone (λ (q : Ring). flips_passed q.shape (m.ring q.id) a w) (driver_rings h) ∙ none) in
      let here : flips_passed has.ring.shape (m.ring has.ring.id) a w ≡ false = (or_parts (flips_passed has.ring.shape (m.ring has.ring.id) a w) false one).0 in
      ap (λ s. flips_passed s (m.ring r) a w) has.shape ∙ ap (λ n. flips_passed has.ring.shape (m.ring n) a w) (sym has.id) ∙ here

  pub row_comes : (row : Row) → lenient h (restored h k row) row ≡ [] → some_flips h (restored h k row) row ≡ false → MayCome h (restored h k row) row
  unfolding command_given command_at ring_restored ring_moved
  row_comes row clean none = search (rules, passed_kept, none_free, ring_restored, ring_moved, ring_of_same, option_and_then, command_of, slice_get, positions_given, shape_of, command_id, command_ring_same, bell_restored)
