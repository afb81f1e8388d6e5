-- A driver's row beneath the events that aren't read yet: they stay possible, and what is known when they are read differs from what
-- the row adds to it at the end in the numbers at which rings are held, if at all
use Rattle.safety.proofs.MiddleLaws.{driver_ring, may_declare, [], ◌≡◌, ◌+◌, ◌≤◌, ◌∷◌, ◌∙◌, ℕ, false, List, length, Some, arith, refl, sym, ap, subst, inl, inr, same_Some, Block, kind, erdp_address, is_reached_within, Header, Row, Sub, Write, Reg, Bell, Read, Register, Erdp, IsHeader, event_shape, IsRow, World, stored, counted, Known, learned, may_pass, is_bad_erdp, lenient, DriverKeeps, KeptByRestoring, MayCome, IsDriverRow, Agrees, ArePossible, Runs, all_read, HeldMore, is_idle, Square, SquareLaw, MoreLaw, ◌≢◌, ◌<◌, ◌++◌, true, Option, option_and_then, slice_get, cases_Bool, none-some, put, address_of, RingView, Declares, changed, declared, is_due, slice_get-append, ceiling_within, given_count_declared, Command, command_of, named_context, shape_of, command_id, UnderWay, on_ring, command_at, next_command, IsDriverRing, IsUnfinished, EventsStand, UnderWayMatches, IsUnchanged, Matches, rules, clean_tests, register_facts, event_same, view_after, held_more_same, held_more_twice, weaker, erdp_says, ring_shape, due_has_ring, put_at, put_off, command_is_ring, Late, agrees_counted, RingGoesOn, goes_same, declares_goes_on, KnownGoesOn, SameController, matches_go_on, register_agrees, is_named, not, is_value, RegRead, resets_by, resets, Usbcmd, is_done, reset_bit, learned_read, ◌&&◌}
use Rattle.safety.proofs.Rows.PlainRows.{plain_done, status_agrees}
use Rattle.safety.proofs.RunKeeps.KeptCounts.{passable, read_counts}
use Rattle.safety.proofs.Rows.RowRings.{rings_agree}
use Rattle.safety.proofs.Rows.RowRegisters.{MayMove}
use Rattle.safety.proofs.Rows.RowWrites.{writes_agree}
use Rattle.world_state.specs.DriverRows as driver
use Rattle.world_state.specs.World as of_world

-- A declaration where all events are read: what is known agrees with the world

-- a command under way is declared
pub under_way_declared : (h : Header) → IsHeader h → (k : Known) (w : World) → DriverKeeps h k → Matches h k w → (u : UnderWay) → w.under_way ≡ Some u → next_command h k < declared (k.ring (command_id h))
under_way_declared h is k w d m u at =
    elim (cases_Bool (is_named k)) [
      | inl on ↦
          let c = m.command on in
          let ring : IsDriverRing h (command_id h) = command_is_ring h k d on in
          let keeps = d.rings (command_id h) ring in
          let shape = (ring_shape h is (command_id h) ring).is in
          omega (
            arith,
            (subst (λ o. UnderWayMatches h k c.spot o) at c.under_way).0,
            c.ring.below,
            (ceiling_within (shape_of h (command_id h)) shape k.memory (k.ring (command_id h)) keeps).1,
            given_count_declared (shape_of h (command_id h)) shape k.memory (k.ring (command_id h)) keeps,
          )
      | inr off ↦ absurd (none-some u (sym (m.before off).none ∙ at))
    ]

module _ (h : Header) (is : IsHeader h) (k : Known) (unread : List Block) (w : World) (r : ℕ) (blocks : List Block) (d : DriverKeeps h k) (g : Agrees h k unread w) (clean : lenient h k (Sub r blocks) ≡ []) where
  m : Known
  m = on_ring h k r (Declares blocks)

  v : World
  v = driver.declared h w r blocks

  after : (P : ℕ → RingView → Type 0) (q : ℕ) → P r (changed (shape_of h r) (k.ring r) (Declares blocks)) → (q ≢ r → P q (k.ring q)) → P q (m.ring q)
  unfolding m
  after P q here there = view_after h (λ x. P q x) k r (Declares blocks) q (λ same. subst (λ n. P n (changed (shape_of h r) (k.ring r) (Declares blocks))) (sym same) here) there

  declared_on : IsDriverRing h r
  declared_on = driver_ring h r (may_declare h k r blocks clean).0

  goes_on : KnownGoesOn h k m
  unfolding m on_ring
  goes_on = record {
    named = refl;
    unused = λ unused. after (λ n x. not (is_value 0 x.held) ≡ false → not (is_value 0 (k.ring n).held) ≡ false) (command_id h) (λ u. u) (λ other u. u) unused;
    slot_state = refl;
    endpoint_state = refl;
    ring_of = refl;
    isochronous = refl;
    was_bound = refl;
    stop_seen = refl;
    device = λ s some. some;
    rings = λ q. after (λ n x. RingGoesOn (shape_of h n) (k.ring n) x) q (declares_goes_on (shape_of h r) (ring_shape h is r declared_on).is k.memory (k.ring r) (d.rings r declared_on) blocks) (λ other. goes_same (shape_of h q) (k.ring q));
  }

  controller : SameController w v
  unfolding v driver.declared
  controller = record { slot_state = refl; endpoint_state = refl; ring_of = refl; isochronous = refl; scribbles = refl; under_way = refl; inside = refl; there = refl; states = λ q. refl }

  queue_stays : (q p : ℕ) → p < declared (k.ring q) → slice_get (m.ring q).queue p ≡ slice_get (k.ring q).queue p
  queue_stays q p = after (λ n x. p < declared (k.ring n) → slice_get x.queue p ≡ slice_get (k.ring n).queue p) q (λ low. slice_get-append (k.ring r).queue blocks p low) (λ other low. refl)

  before : (p : ℕ) (c : Command) → IsUnfinished h m p c → IsUnfinished h k p c
  unfolding command_at
  before p c u =
      let due = ap (λ t. is_due (shape_of h (command_id h)) t p) (goes_on.rings (command_id h)).floor in
      let was_due = sym due ∙ u.due in
      let given = after (λ n x. x.given p ≡ true → (k.ring n).given p ≡ true) (command_id h) (λ g. g) (λ other g. g) u.given in
      let low = (d.rings (command_id h) (due_has_ring h is (k.ring (command_id h)).floor p was_due)).given_declared p given in
      record { due = was_due; given = given; command = ap (λ x. option_and_then command_of x) (sym (queue_stays (command_id h) p low)) ∙ u.command }

  unchanged : (at : ℕ) (c : Option ℕ) → IsUnchanged h w at c → IsUnchanged h v at c
  unfolding v driver.declared
  unchanged at o same = grind arith

  matches : Matches h m v
  matches =
      matches_go_on h k m w v goes_on controller (λ u at. queue_stays (command_id h) (next_command h k) (under_way_declared h is k w d g.matches u at))
      (λ p c u. unchanged (address_of (shape_of h (command_id h)) p) (named_context c) (g.matches.contexts p c (before p c u))) g.matches

  queues : (q : ℕ) → put w.queue r (w.queue r ++ blocks) q ≡ (m.ring q).queue
  queues q =
      after (λ n x. put w.queue r (w.queue r ++ blocks) n ≡ x.queue) q
      (put_at w.queue r (w.queue r ++ blocks) ∙ ap (λ l. l ++ blocks) (g.stands.queues r)) (λ other. put_off w.queue r (w.queue r ++ blocks) q other ∙ g.stands.queues q)

  lengths : (q : ℕ) → put w.lengths r (w.lengths r ++ length blocks ∷ []) q ≡ (m.ring q).lengths
  lengths q =
      after (λ n x. put w.lengths r (w.lengths r ++ length blocks ∷ []) n ≡ x.lengths) q
      (put_at w.lengths r (w.lengths r ++ length blocks ∷ []) ∙ ap (λ l. l ++ length blocks ∷ []) (g.stands.lengths r))
      (λ other. put_off w.lengths r (w.lengths r ++ length blocks ∷ []) q other ∙ g.stands.lengths q)

  events : EventsStand h v unread
  unfolding v driver.declared of_world.event_at
  events = let e = g.events in record { order = e.order; count = e.count; places = e.places; started = e.started; ring = e.ring }

  read : v.posted ≡ m.reads
  unfolding m v on_ring driver.declared
  read = g.read

  late : Late v
  unfolding v driver.declared
  late a = omega (arith, g.stamps a)

  pub declares_agree : Agrees h (learned h k (Sub r blocks)) unread (counted h (driver.declared h w r blocks))
  unfolding m v learned on_ring driver.declared
  declares_agree = agrees_counted h m unread v (search (rules, queues, lengths)) events matches read late

module _ (h : Header) where
  pub read_on : (k : Known) (b : Block) → (learned h k (Read b)).stopped ≡ k.stopped
  unfolding learned
  read_on k b = (event_same h k (kind b) b).stopped

  -- events read count, and leave ERDP
  counts : (unread : List Block) (k : Known) →
      ((all_read h k unread).reads ≡ k.reads + length unread) × ((all_read h k unread).dequeue ≡ k.dequeue) × ((all_read h k unread).stopped ≡ k.stopped)
  counts [] k = (omega arith, refl, refl)
  counts (e ∷ rest) k =
      let later = counts rest (learned h k (Read e)) in
      let one = read_counts h k e in
      (omega (arith, later.0, one.0), later.1 ∙ one.1, later.2 ∙ read_on k e)

  -- ---- the row where all events are read

  may_move : (k : Known) (w : World) (r : Register) (x : ℕ) → w.reads ≡ k.reads → w.dequeue ≡ k.dequeue → w.dequeue ≤ w.reads → is_bad_erdp h k r x ≡ false → MayMove h w r x
  unfolding MayMove
  may_move k w Erdp x reads dequeue low good =
      elim (erdp_says h k x good) [
        | inl reached ↦ (grind (arith, may_pass, is_reached_within, event_shape, erdp_address, passable))
        | inr none ↦ inr none.1
      ]
  may_move k w _ x reads dequeue low good = tt

  row_agrees : IsHeader h → (now k : Known) (unread : List Block) (w v : World) (d : Row) → IsDriverRow d → DriverKeeps h k → Agrees h k unread w → w.reads ≡ now.reads → w.dequeue ≡ now.dequeue →
      lenient h now d ≡ [] → MayCome h k d → (learned h k d).stopped ≡ false → plain_done h w d ≡ Some v → Agrees h (learned h k d) unread (counted h v)
  unfolding driver.row_done
  row_agrees is now k unread w v (Sub r blocks) driver_row keeps g reads dequeue before clean on at =
      subst (λ u. Agrees h (learned h k (Sub r blocks)) unread (counted h u)) (same_Some (driver.declared h w r blocks) v at) (declares_agree h is k unread w r blocks keeps g clean.0)
  row_agrees is now k unread w v (Write a x) driver_row keeps g reads dequeue before clean on at =
      subst (λ u. Agrees h (learned h k (Write a x)) unread (counted h u)) (same_Some (stored w a x) v at) (writes_agree h is k unread w a x keeps g clean.0)
  row_agrees is now k unread w v (Reg r x) driver_row keeps g reads dequeue before clean on at =
      subst (λ u. Agrees h (learned h k (Reg r x)) unread (counted h u)) (same_Some (driver.register_row h w r x) v at)
      (register_agrees h is k unread w keeps g r x (may_move now w r x reads dequeue g.events.order.dequeued (register_facts h now r x before).erdp) clean.0 on)
  row_agrees is now k unread w v (Bell s t) driver_row keeps g reads dequeue before clean on at =
      subst (λ u. Agrees h (learned h k (Bell s t)) unread (counted h u)) (same_Some (driver.bell_row h w s t) v at) (rings_agree h is k unread w keeps g s t clean.0)
  row_agrees is now k unread w v (RegRead r x) driver_row keeps g reads dequeue before clean on at = status_agrees h k unread w keeps g r x v at
  row_agrees is now k unread w v _ driver_row keeps g reads dequeue before clean on at = absurd driver_row

  -- ---- along the unread events

  -- an event changes no phase
  reset_same : (k l : Known) (r : Register) (x : ℕ) → l.halt ≡ k.halt → resets k r x ≡ false → resets l r x ≡ false
  unfolding resets
  reset_same k l Usbcmd x same stays = ap (λ a. is_done a && reset_bit x) same ∙ stays
  reset_same k l r x same stays = refl

  still_stays : (k : Known) (e : Block) (d : Row) → resets_by k d ≡ false → resets_by (learned h k (Read e)) d ≡ false
  still_stays k e (Reg r x) stays = reset_same k (learned h k (Read e)) r x (ap (λ m. m.halt) (learned_read h k e) ∙ (event_same h k (kind e) e).halt) stays
  still_stays k e d stays = refl

  -- what is known, and what is known with the row d somewhere beneath
  record Beside (d : Row) (k m : Known) : Type 0 where
    pub keeps : DriverKeeps h k
    pub keeps_beneath : DriverKeeps h m
    pub possible : MayCome h k d
    pub awake : is_idle h k d ≡ false
    pub on : (learned h k d).stopped ≡ false
    pub stays : resets_by k d ≡ false
    pub held : HeldMore (learned h k d) m

  module _ (is : IsHeader h) (square : SquareLaw h) (more : MoreLaw h) (kept : KeptByRestoring h (DriverKeeps h)) (d : Row) (is_row : IsRow d) (driver_row : IsDriverRow d) where
    one_on : (k m : Known) (e : Block) → lenient h k (Read e) ≡ [] → Beside d k m → (lenient h m (Read e) ≡ []) × Beside d (learned h k (Read e)) (learned h m (Read e))
    one_on k m e event b =
        let s : Square h k d e = square k d e is is_row driver_row b.keeps b.possible event b.awake b.on b.stays in
        let both = more (learned h k d) m e (kept is k d b.keeps b.possible b.on) b.keeps_beneath b.held s.event in (
          both.0,
          record {
            keeps = kept is k (Read e) b.keeps (event, tt) (read_on k e ∙ (clean_tests h k d b.possible.0).0);
            keeps_beneath = kept is m (Read e) b.keeps_beneath (both.0, tt) (read_on m e ∙ sym (ap (λ x. x.stopped) b.held.rest) ∙ b.on);
            possible = s.row;
            awake = s.awake;
            on = ap (λ x. x.stopped) s.after.rest ∙ read_on (learned h k d) e ∙ b.on;
            stays = still_stays k e d b.stays;
            held = held_more_twice (learned h (learned h k (Read e)) d) (learned h (learned h k d) (Read e)) (learned h m (Read e)) s.after both.1;
          },
        )

    all_on : (unread : List Block) (k m : Known) → ArePossible h k unread → Beside d k m → ArePossible h m unread × Beside d (all_read h k unread) (all_read h m unread)
    all_on [] k m possible b = (tt, b)
    all_on (e ∷ rest) k m possible b =
        let one = one_on k m e possible.0 b in
        let later = all_on rest (learned h k (Read e)) (learned h m (Read e)) possible.1 one.1 in
        ((one.0, later.0), later.1)

    -- the run goes on behind a row that isn't idle
    pub awake_runs : (now : Known) (w v : World) → DriverKeeps h now → (run : Runs h now w) → MayCome h now d → is_idle h now d ≡ false → (learned h now d).stopped ≡ false → resets_by now d ≡ false →
        plain_done h w d ≡ Some v → Runs h (learned h now d) (counted h v)
    awake_runs now w v keeps run possible awake on stays at =
        let first : Beside d now (learned h now d) = record {
          keeps = keeps;
          keeps_beneath = kept is now d keeps possible on;
          possible = possible;
          awake = awake;
          on = on;
          stays = stays;
          held = held_more_same (learned h now d);
        } in
        let b = all_on run.unread now (learned h now d) run.possible first in
        let later : Known = all_read h now run.unread in
        let c = counts run.unread now in
        let g = run.agrees in
        record {
          unread = run.unread;
          possible = b.0;
          blocks = run.blocks;
          on = on;
          agrees = weaker h (learned h later d) (all_read h (learned h now d) run.unread) b.1.held run.unread (counted h v)
              (row_agrees is now later run.unread w v d driver_row b.1.keeps g (omega (arith, g.read, c.0, g.events.count)) (g.stands.dequeue ∙ c.1) possible.0 b.1.possible b.1.on at);
        }
