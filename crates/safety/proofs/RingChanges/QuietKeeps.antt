-- A descriptor that is withdrawn, or a ring that is restored: what a driver keeps stays, events stay possible, and the world still agrees
use Rattle.safety.proofs.MiddleLaws.{KeepsValues, names_still, slot, endpoint, pointer, ◌≡◌, ◌≤◌, ℕ, true, arith, refl, sym, ap, rules, Withdraws, Restores, length-no_ops, split_border, number, Shape, RingView, RingChange, changed, declared, floor_number, ceiling, is_border, is_placement, move_more, GivesMore, [], ◌≢◌, ◌<◌, ◌∙◌, option_and_then, slice_get, subst, ltb-true, Block, command_of, Header, Read, IsHeader, shape_of, command_id, Known, on_ring, command_at, next_command, learned, may_be_taken, lenient, DriverKeeps, IsHeldMore, HeldMore, nat_lt, RingKeeps, IsRestored, is_stop_of, Command, device_named, entry_of, is_stopping_now, is_soiled, MovesRestored, IsDriverRing, IsUnfinished, DeviceKeeps, List, Option, length_from, no_ops, split_at, without_descriptor, put, address_of, named_context, World, IsUnchanged, Matches, Agrees, RingAlike, ceiling_more, held_same, Standing, PlacesStay, MovesAhead, RingGoesOn, SameGiven, transfer_driver, event_facts, ring_elsewhere, SameDriver, both_drivers, view_after, Alike, named_still, SameStates, RingsStay, same_stay, put_at, put_off, SameController, matches_go_on, same_controller, unfinished_view, is_used, is_value, not, IsNobodys, is_in, ◌&&◌, ◌||◌, false, and_right}
use Rattle.safety.proofs.RingsKeep.KeptRings.{next_unfinished, command_holds}
use Rattle.safety.proofs.AlikeEvents.AlikeEvents.{EventAlike, ReadAlike, read_alike}
use Rattle.safety.proofs.Targets.PlacedTargets.{placed_targets}
use Rattle.safety.proofs.AlikeEvents.HeldFurther.{states_from, EverySlot, held_more, counted, read_same, flip_driver}
use Rattle.world_state.specs.World as of_world
use Rattle.segments.specs.Descriptors as descriptors

-- A descriptor that is withdrawn, and a ring that is restored, change neither what is given of the ring nor where its pointer is

abbrev pub IsQuiet : RingChange → Type 0
IsQuiet (Withdraws p) = Unit {0}
IsQuiet Restores = Unit {0}
IsQuiet _ = ⊥

-- w is v, but for what is declared, how it is cut into descriptors, and what is free
pub record Quiet (v w : RingView) : Type 0 where
  pub rest : record v { queue = w.queue; lengths = w.lengths; withdrawn = w.withdrawn; free = w.free } ≡ w
  pub many : declared w ≡ declared v
  pub borders : (q : ℕ) → is_border v.lengths 0 q ≡ true → is_border w.lengths 0 q ≡ true

pub quiet_same : (v : RingView) → Quiet v v
quiet_same v = record { rest = refl; many = refl; borders = λ q border. border }

pub quiet_view : (shape : Shape) (v : RingView) (change : RingChange) → IsQuiet change → Quiet v (changed shape v change)
quiet_view shape v o quiet = grind (arith, length-no_ops, split_border)

-- where nothing was declared nothing is withdrawn
quiet_nobody : (shape : Shape) (v : RingView) (change : RingChange) → IsQuiet change → IsNobodys v → IsNobodys (changed shape v change)
unfolding descriptors.no_ops descriptors.split_at
quiet_nobody shape v (Withdraws p) quiet n = record {
  queue = ap (λ blocks. no_ops blocks p (length_from v.lengths 0 p)) n.queue;
  lengths = ap (λ many. split_at many 0 p) n.lengths;
  held = n.held;
  floor = n.floor;
  given = n.given;
  free = λ q. (λ j. n.free q j || (is_in q p (length_from v.lengths 0 p) && n.given q j)) ∙ and_right (is_in q p (length_from v.lengths 0 p)) false refl;
}
quiet_nobody shape v Restores quiet n = record { queue = n.queue; lengths = n.lengths; held = n.held; floor = n.floor; given = n.given; free = λ q. refl }
quiet_nobody shape v _ quiet n = absurd quiet

module _ (v w : RingView) (q : Quiet v w) where
  pub quiet_floor : w.floor ≡ v.floor
  quiet_floor = sym (ap (λ (x : RingView). x.floor) q.rest)

  pub quiet_held : w.held ≡ v.held
  quiet_held = sym (ap (λ (x : RingView). x.held) q.rest)

  pub quiet_alike : RingAlike v w
  quiet_alike = search (rules, quiet_floor, held_same, quiet_held)

  gives_more : GivesMore v w
  gives_more = quiet_alike.more

  module _ (shape : Shape) where
    ceiling_down : ceiling shape w ≤ ceiling shape v
    ceiling_down = ceiling_more shape w v (search (rules, quiet_floor, held_same, quiet_held))

    pub quiet_goes_on : KeepsValues shape v w → RingGoesOn shape v w
    quiet_goes_on values = search (rules, quiet_floor, ceiling_more, quiet_alike, gives_more, quiet_held)

    pub quiet_standing : Standing shape v w
    quiet_standing = search (rules, quiet_floor, move_more, gives_more)

    pub quiet_ahead : MovesAhead shape v w
    quiet_ahead p cycle moves = search (rules, arith, move_more, v, gives_more, ceiling, declared, ceiling_down)

    pub quiet_places : PlacesStay shape v w
    unfolding is_placement
    quiet_places p cycle placed = search (rules, arith, move_more, v, gives_more, ceiling, floor_number, ceiling_down, number, quiet_floor)

-- A descriptor that is withdrawn, or a ring that is restored, beneath an event that isn't read yet: the event stays possible, and the order
-- doesn't matter but for the numbers at which rings are held

module _ (h : Header) (r : ℕ) (change : RingChange) (quiet : IsQuiet change) where
  abbrev pub quieted : Known → Known
  quieted k = on_ring h k r change

  pub quiet_rings : (k : Known) (q : ℕ) → Quiet (k.ring q) ((quieted k).ring q)
  quiet_rings k q =
      view_after h (Quiet (k.ring q)) k r change q
      (λ same. subst (λ n. Quiet (k.ring n) (changed (shape_of h r) (k.ring r) change)) (sym same) (quiet_view (shape_of h r) (k.ring r) change quiet)) (λ other. quiet_same (k.ring q))

  -- what an event may tell stays, so long as it does on the ring
  pub keeps_values : (k : Known) → KeepsValues (shape_of h r) (k.ring r) (changed (shape_of h r) (k.ring r) change) → (q : ℕ) → KeepsValues (shape_of h q) (k.ring q) ((quieted k).ring q)
  keeps_values k values q =
      view_after h (λ x. KeepsValues (shape_of h q) (k.ring q) x) k r change q
      (λ same. subst (λ n. KeepsValues (shape_of h n) (k.ring n) (changed (shape_of h r) (k.ring r) change)) (sym same) values) (λ other p from below. refl)

  alike : (k : Known) → Alike EverySlot k (quieted k)
  unfolding on_ring
  alike k = search (rules, quiet_alike, quiet_rings)

  -- ---- what an event reads

  below_ceiling : (k : Known) → may_be_taken h k ≡ true → next_command h k < ceiling (shape_of h (command_id h)) (k.ring (command_id h))
  unfolding may_be_taken
  below_ceiling k may = ltb-true (next_command h k) (ceiling (shape_of h (command_id h)) (k.ring (command_id h))) may

  module _ (other : r ≢ command_id h) where
    -- the command ring is as it was
    pub command_same : (k : Known) → (quieted k).ring (command_id h) ≡ k.ring (command_id h)
    command_same k = ring_elsewhere h k r (command_id h) change (λ same. other (sym same))

    events : IsHeader h → (k : Known) → DriverKeeps h k → KeepsValues (shape_of h r) (k.ring r) (changed (shape_of h r) (k.ring r) change) → k.started ≡ true → EventAlike h k (quieted k)
    unfolding on_ring command_at
    events is k d values on =
        let l : Known = quieted k in
        record {
          started = refl;
          stopped = refl;
          reads = refl;
          room = omega arith;
          config = refl;
          names = λ e q t has below.
              names_still h k e q t l (quiet_floor (k.ring q) (l.ring q) (quiet_rings k q)) (omega (arith, (quiet_rings k q).many)) (λ tells p from up. keeps_values k values q p from (omega (arith, below tells)))
              (named_still (shape_of h q) (k.ring q) (l.ring q) (quiet_floor (k.ring q) (l.ring q) (quiet_rings k q)) (omega (arith, (quiet_rings k q).many)) (pointer e) t
              (d.rings q (transfer_driver h q (d.states.transfer (slot e) (endpoint e) q has))).is_spot);
          command = record {
            command = λ c may at. ap (λ (v : RingView). option_and_then command_of (slice_get v.queue (next_command h k))) (command_same k) ∙ at;
            does = λ n c may at. refl;
            targets = λ n c may at.
                placed_targets h is k l d (λ q. quiet_floor (k.ring q) (l.ring q) (quiet_rings k q)) (λ q. omega (arith, (quiet_rings k q).many)) refl n c
                (command_holds h k (next_command h k) c (d.unfinished (next_command h k) c (next_unfinished h is k d on (below_ceiling k may) c at)));
          };
        }

    -- ---- where the driver did the same, the change does

    rings_given : (k l : Known) → SameDriver k l → (q : ℕ) → SameGiven ((quieted k).ring q) ((quieted l).ring q)
    rings_given k l d q =
        view_after h (λ v. SameGiven v ((quieted l).ring q)) k r change q
        (λ same. view_after h (SameGiven (changed (shape_of h r) (k.ring r) change)) l r change q (λ _. (grind arith))
        (λ away. absurd (away same)))
        (λ away. view_after h (SameGiven (k.ring q)) l r change q (λ same. absurd (away same)) (λ _. d.rings q))

    drivers : (k l : Known) → SameDriver k l → SameDriver (quieted k) (quieted l)
    unfolding on_ring
    drivers k l d = search (rules, quieted, rings_given)

    counted_quieted : (k : Known) → quieted (counted h k) ≡ counted h (quieted k)
    unfolding on_ring
    counted_quieted k = refl

    -- ---- the event behind the change, and before it

    pub record QuietSquare (k : Known) (e : Block) : Type 0 where
      pub event : lenient h (quieted k) (Read e) ≡ []
      pub after : HeldMore (quieted (learned h k (Read e))) (learned h (quieted k) (Read e))

    pub quiet_square : IsHeader h → (k : Known) → DriverKeeps h k → KeepsValues (shape_of h r) (k.ring r) (changed (shape_of h r) (k.ring r) change) → (e : Block) → lenient h k (Read e) ≡ [] → QuietSquare k e
    unfolding on_ring
    quiet_square is k d values e may =
        let l : Known = quieted k in
        let k_read : Known = learned h k (Read e) in
        let l_read : Known = learned h l (Read e) in
        let read : ReadAlike h EverySlot k l e = read_alike h EverySlot k l (alike k) (events is k d values (event_facts h k e may).started) e may in
        let driver : SameDriver (quieted k_read) l_read =
        both_drivers (quieted k_read) (counted h l) l_read
        (subst (λ x. SameDriver (quieted k_read) x) (counted_quieted k) (drivers k_read (counted h k) (flip_driver (counted h k) k_read (read_same h k e)))) (read_same h l e) in
        let floor_same : (q : ℕ) → ((quieted k_read).ring q).floor ≡ (k_read.ring q).floor = λ q. quiet_floor (k_read.ring q) ((quieted k_read).ring q) (quiet_rings k_read q) in
        let held_same : (q : ℕ) → ((quieted k_read).ring q).held ≡ (k_read.ring q).held = λ q. quiet_held (k_read.ring q) ((quieted k_read).ring q) (quiet_rings k_read q) in
        record {
          event = read.possible;
          after = held_more (quieted k_read) l_read driver
              (let t = states_from k_read l_read read.after in record {
                was_bound = t.was_bound;
                slot_state = t.slot_state;
                endpoint_state = t.endpoint_state;
                ring_of = t.ring_of;
                isochronous = t.isochronous;
                must_move = t.must_move;
                stop_seen = t.stop_seen;
                device = t.device;
              })
              (λ q. (read.after.rings q).floor ∙ sym (floor_same q)) (λ q. subst (λ o. IsHeldMore o (l_read.ring q).held) (sym (held_same q)) (read.after.rings q).held);
        }

module _ (h : Header) (r : ℕ) (change : RingChange) (quiet : IsQuiet change) (other : r ≢ command_id h) (k : Known) where
  abbrev l : Known
  l = on_ring h k r change

  same : l.ring (command_id h) ≡ k.ring (command_id h)
  same = command_same h r change quiet other k

  before : (p : ℕ) (f : Command) → IsUnfinished h l p f → IsUnfinished h k p f
  before = search (rules, unfinished_view, k.ring, command_id, same)

  module _ (d : DriverKeeps h k) where
    floor_is : (q : ℕ) → (l.ring q).floor ≡ (k.ring q).floor
    floor_is q = quiet_floor (k.ring q) (l.ring q) (quiet_rings h r change quiet k q)

    held_is : (q : ℕ) → (l.ring q).held ≡ (k.ring q).held
    held_is q = quiet_held (k.ring q) (l.ring q) (quiet_rings h r change quiet k q)

    device_keeps : (s e : ℕ) → DeviceKeeps h k s e → DeviceKeeps h l s e
    unfolding on_ring entry_of device_named is_soiled
    device_keeps s e old = search (rules, l)

    states : SameStates k l
    unfolding on_ring
    states = record { memory = refl; soiled = refl; device = refl; slot_state = refl; off = λ s i. refl; ring_of = refl; was_bound = refl }

    stays : (f : Command) → (MovesRestored k f → MovesRestored l f) → RingsStay h k l f
    unfolding on_ring
    stays f moved = search (rules, l, quiet_ahead, quiet_rings, quiet_standing, quiet_places)

    ring_keeps : (IsDriverRing h r → RingKeeps (shape_of h r) k.memory (changed (shape_of h r) (k.ring r) change)) → (q : ℕ) → IsDriverRing h q → RingKeeps (shape_of h q) k.memory (l.ring q)
    unfolding on_ring
    ring_keeps here q ring = search (rules, view_after, d.rings)

    used_before : is_used h l ≡ true → is_used h k ≡ true
    used_before used = ap (λ (v : RingView). not (is_value 0 v.held)) (sym same) ∙ used

    pub quiet_keeps : (IsDriverRing h r → RingKeeps (shape_of h r) k.memory (changed (shape_of h r) (k.ring r) change)) →
        ((p : ℕ) (f : Command) → IsUnfinished h k p f → MovesRestored k f → MovesRestored (on_ring h k r change) f) → DriverKeeps h (on_ring h k r change)
    unfolding on_ring is_stopping_now may_be_taken next_command command_at
    quiet_keeps here moved = record {
      rings = ring_keeps here;
      commands_stay = subst IsRestored (sym same) d.commands_stay;
      clean = d.clean;
      command_ring = search (rules, l, slice_get, same);
      states = search (rules, l, held_is, nat_lt, floor_number, ceiling, shape_of, command_id, is_stop_of, option_and_then, command_of, slice_get, same);
      numbered = d.numbered;
      unstarted = λ off. (search (rules, l));
      run = record { again = d.run.again; started = d.run.started; running = d.run.running; used = λ started used. d.run.used started (used_before used); named = d.run.named; absent = λ used. d.run.absent (used_before used); unused = λ off named. ap (λ (v : RingView). not (is_value 0 v.held)) same ∙ d.run.unused off named };
      sized = d.sized;
      erstsz_written = d.erstsz_written;
      dequeued = d.dequeued;
      read_room = d.read_room;
      devices = λ s e at. device_keeps s e (d.devices s e at);
      unfinished = same_stay h k l states d.unfinished before (λ p f u. stays f (moved p f (before p f u)));
      nobody = λ q none. view_after h IsNobodys k r change q (λ here. quiet_nobody (shape_of h r) (k.ring r) change quiet (d.nobody r (sym here ∙ none))) (λ away. d.nobody q none);
    }

  -- where all events are read, what is known agrees with the world
  module _ (unread : List Block) (w v : World) (c : SameController w v) (g : Agrees h k unread w) where
    pub quiet_matches : KeepsValues (shape_of h r) (k.ring r) (changed (shape_of h r) (k.ring r) change) → ((at : ℕ) (f : Option ℕ) → IsUnchanged h w at f → IsUnchanged h v at f) → Matches h l v
    unfolding on_ring
    quiet_matches values unchanged =
        matches_go_on h k l w v (search (rules, l, quiet_goes_on, quiet_rings, keeps_values h r change quiet k values)) c (λ u at. ap (λ (x : RingView). slice_get x.queue (next_command h k)) same)
        (λ p f u. unchanged (address_of (shape_of h (command_id h)) p) (named_context f) (g.matches.contexts p f (before p f u))) g.matches

-- nothing happens in the world where a ring is restored
pub restored_agrees : (h : Header) (r : ℕ) → r ≢ command_id h → (k : Known) (unread : List Block) (w : World) → Agrees h k unread w → Agrees h (on_ring h k r Restores) unread w
unfolding on_ring
restored_agrees h r other k unread w g = record {
  stands = (search (rules, view_after));
  events = g.events;
  matches = quiet_matches h r Restores tt other k unread w w (same_controller w) g (λ p from below. refl) (λ at f as_it_was. as_it_was);
  read = g.read;
  stamps = g.stamps;
}

module _ (h : Header) (r p : ℕ) (other : r ≢ command_id h) (k : Known) (values : KeepsValues (shape_of h r) (k.ring r) (changed (shape_of h r) (k.ring r) (Withdraws p))) (unread : List Block) (w : World) (g : Agrees h k unread w) where
  abbrev v : World
  v = without_descriptor w r p

  abbrev after_it : Known
  after_it = on_ring h k r (Withdraws p)

  unchanged : (at : ℕ) (f : Option ℕ) → IsUnchanged h w at f → IsUnchanged h v at f
  unfolding without_descriptor
  unchanged at o as_it_was = grind arith

  after : (P : ℕ → RingView → Type 0) (q : ℕ) → P r (changed (shape_of h r) (k.ring r) (Withdraws p)) → (q ≢ r → P q (k.ring q)) → P q (after_it.ring q)
  after P q here there = view_after h (λ x. P q x) k r (Withdraws p) q (λ same. subst (λ n. P n (changed (shape_of h r) (k.ring r) (Withdraws p))) (sym same) here) there

  queue_here : no_ops (w.queue r) p (length_from (w.lengths r) 0 p) ≡ no_ops (k.ring r).queue p (length_from (k.ring r).lengths 0 p)
  queue_here = λ j. no_ops (g.stands.queues r j) p (length_from (g.stands.lengths r j) 0 p)

  queues : (q : ℕ) → v.queue q ≡ (after_it.ring q).queue
  unfolding without_descriptor
  queues q =
      after (λ n x. put w.queue r (no_ops (w.queue r) p (length_from (w.lengths r) 0 p)) n ≡ x.queue) q (put_at w.queue r (no_ops (w.queue r) p (length_from (w.lengths r) 0 p)) ∙ queue_here)
      (λ away. put_off w.queue r (no_ops (w.queue r) p (length_from (w.lengths r) 0 p)) q away ∙ g.stands.queues q)

  lengths : (q : ℕ) → v.lengths q ≡ (after_it.ring q).lengths
  unfolding without_descriptor
  lengths q =
      after (λ n x. put w.lengths r (split_at (w.lengths r) 0 p) n ≡ x.lengths) q (put_at w.lengths r (split_at (w.lengths r) 0 p) ∙ ap (λ ns. split_at ns 0 p) (g.stands.lengths r))
      (λ away. put_off w.lengths r (split_at (w.lengths r) 0 p) q away ∙ g.stands.lengths q)

  pub withdrawn_agrees : Agrees h (on_ring h k r (Withdraws p)) unread (without_descriptor w r p)
  unfolding on_ring without_descriptor of_world.event_at
  withdrawn_agrees = search (rules, queues, lengths, quiet_matches, unchanged, values)
