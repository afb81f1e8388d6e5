-- Another event ring, or none, in place of the one that was there, before the controller is started: what a driver keeps it keeps still, and the
-- world agrees with what is known still
use Rattle.safety.proofs.LowerLaws.{IsNobodys, no_id, [], Block, ◌≡◌, ◌≢◌, ◌+◌, ◌%◌, ◌<◌, ◌∙◌, ℕ, not, Bool, true, false, List, All, All-nil, Option, Some, None, slice_get, refl, sym, ap, subst, inl, inr, rules, arith, cases_eq, false≢true, or_parts, none-some, option_and_then, put, put_at, put_off, RingView, Spot, new_ring, RingKeeps, IsRestored, is_inside, address_of, Erstsz, Header, Ring, shape_of, command_id, Known, Command, command_at, next_command, floor_number, suc, zero, named_slot, named_endpoint, named_context, NoOp, EnableSlot, binds, binds_ring, ring_bound, is_placed, has_repeats, is_bad_move, adds_streams, has_bad_content, names_disabled_endpoint, Data, ◌⊎◌, is_some, names_disabled_slot, is_disabled, is_bad_command, has_bad_context, is_used, is_value, IsDriverRing, IsUnfinished, CommandKeeps, MovesIf, StaysIf, map, list_any, is_ring, CommandRingKeeps, StatesKeep, RunKeeps, DriverKeeps, was_stop_seen, World, UnderWay, emptied, state_of, next_take, RingMatches, FreeRing, EndpointRing, UnderWayMatches, IsUnchanged, Rests, Matches, Stands, EventsStand, touches_events, Agrees, resting, Shape}
use Rattle.safety.proofs.RingChanges.OtherRings.{free_new, new_is_nobodys}

-- commands that name no slot
two_commands : (c : Command) → named_slot c ≡ None → (c ≡ NoOp) ⊎ (c ≡ EnableSlot)
two_commands NoOp none = inl refl
two_commands EnableSlot none = inr refl
two_commands o none = grind (arith, none-some)

none_before : (n : ℕ) (started : Bool) → (0 < n → started ≡ true) → started ≡ false → n ≡ 0
none_before zero started on off = refl
none_before (suc n) started on off = absurd (false≢true (sym off ∙ on (omega arith)))

-- a controller that isn't started has posted nothing
pub nothing_posted : (h : Header) (w : World) (unread : List Block) → EventsStand h w unread → w.started ≡ false → w.posted ≡ 0
nothing_posted h w unread e before = none_before w.posted w.started e.started before

module _ (h : Header) (rings : List Ring) (k : Known) (id : ℕ) (soiled : ℕ → Bool) where
  abbrev pub g : Header
  g = record h { rings = rings }

  abbrev pub views : ℕ → RingView
  views = put k.ring id new_ring

  abbrev pub l : Known
  l = record k { ring = views; soiled = soiled }

  pub record AnotherEvents : Type 0 where
    -- all rings but the one with this ID are as they were, and that one is no driver's
    pub shapes : (r : ℕ) → r ≢ id → shape_of g r ≡ shape_of h r
    pub command : command_id g ≡ command_id h
    pub command_other : command_id h ≢ id
    pub was_driver : (r : ℕ) → IsDriverRing g r → (r ≢ id) × IsDriverRing h r
    pub driver : (r : ℕ) → IsDriverRing h r → IsDriverRing g r
    pub clean : (r a : ℕ) → IsDriverRing g r → a % 4 ≡ 0 → is_inside (shape_of g r) a ≡ true → soiled a ≡ false
    -- a word that isn't soiled and belongs to no event wasn't, nor did it
    pub quiet : (a : ℕ) → soiled a ≡ false → touches_events g a ≡ false → (k.soiled a ≡ false) × (touches_events h a ≡ false)
    -- the controller isn't started, and its event ring isn't set up
    pub before : k.started ≡ false
    pub unwritten : k.register Erstsz ≡ None

  module _ (d : DriverKeeps h k) (o : AnotherEvents) where
    view_same : (r : ℕ) → r ≢ id → views r ≡ k.ring r
    view_same r other = put_off k.ring id new_ring r other

    command_apart : command_id g ≢ id
    command_apart same = o.command_other (sym o.command ∙ same)

    command_view : views (command_id g) ≡ k.ring (command_id h)
    command_view = ap views o.command ∙ view_same (command_id h) o.command_other

    command_shape : shape_of g (command_id g) ≡ shape_of h (command_id h)
    command_shape = ap (λ n. shape_of g n) o.command ∙ o.shapes (command_id h) o.command_other

    no_rings : (s i : ℕ) → k.ring_of s i ≡ None
    no_rings s i = (d.unstarted o.before).rings s i

    none_has : {X : Type 0} (s i r : ℕ) → k.ring_of s i ≡ Some r → X
    none_has s i r at = absurd (none-some r (sym (no_rings s i) ∙ at))

    none_seen : {X : Type 0} (s i : ℕ) → k.stop_seen s i ≡ true → X
    none_seen s i seen = absurd (false≢true (sym ((d.unstarted o.before).seen s i) ∙ seen))

    no_devices : (s e : ℕ) → k.device s ≡ Some e → ⊥
    no_devices s e at = none-some e (sym (d.states.no_device s ((d.unstarted o.before).slots s)) ∙ at)

    states : StatesKeep g l
    states = record {
      no_slot = d.states.no_slot;
      no_endpoint = d.states.no_endpoint;
      off = d.states.off;
      on = d.states.on;
      transfer = λ s i r at. none_has s i r at;
      one_endpoint = λ s i t j r at other. none_has s i r at;
      open_runs = λ s i r at none. none_has s i r at;
      seen_command = λ s i seen. none_seen s i seen;
      seen_runs = d.states.seen_runs;
      seen_held = λ s i r seen at. none_has s i r at;
      slots = d.states.slots;
      first = d.states.first;
      no_device = d.states.no_device;
    }

    command_keeps : CommandRingKeeps g l
    command_keeps = record {
      commands = λ p b at. d.command_ring.commands p b (ap (λ (v : RingView). slice_get v.queue p) (sym command_view) ∙ at);
      alone = subst (λ (v : RingView). All (λ n. n ≡ 1) v.lengths) (sym command_view) d.command_ring.alone;
      held = subst (λ (v : RingView). (v.held ≡ None) ⊎ ((v.held ≡ Some 0) × (v.floor ≡ Data 0) × ((shape_of g (command_id g)).offset ≡ 0))) (sym command_view)
          (subst (λ (shape : Shape). ((k.ring (command_id h)).held ≡ None) ⊎ (((k.ring (command_id h)).held ≡ Some 0) × ((k.ring (command_id h)).floor ≡ Data 0) × (shape.offset ≡ 0))) (sym command_shape) d.command_ring.held);
    }

    used_same : is_used g l ≡ is_used h k
    used_same = ap (λ (v : RingView). not (is_value 0 v.held)) command_view

    driver_still : IsDriverRing h (command_id h) → IsDriverRing g (command_id g)
    driver_still ring = subst (IsDriverRing g) (sym o.command) (o.driver (command_id h) ring)

    run : RunKeeps g l
    run = record {
      again = d.run.again;
      started = d.run.started;
      running = d.run.running;
      used = λ on used. d.run.used on (sym used_same ∙ used);
      named = λ named. driver_still (d.run.named named);
      absent = λ used. driver_still (d.run.absent (sym used_same ∙ used));
      unused = λ off named. used_same ∙ d.run.unused off named;
    }

    -- ---- unfinished commands: none of them names a slot

    pub unfinished_before : (p : ℕ) (c : Command) → IsUnfinished g l p c → IsUnfinished h k p c
    unfolding command_at
    unfinished_before p c u = search (rules, g, l, option_and_then, slice_get)

    no_slot : (slot : Option ℕ) → names_disabled_slot k slot ≡ false → slot ≡ None
    unfolding names_disabled_slot
    no_slot None good = refl
    no_slot (Some s) good = absurd (false≢true (sym good ∙ ap is_disabled ((d.unstarted o.before).slots s)))

    slotless : (c : Command) → is_bad_command h k c ≡ false → named_slot c ≡ None
    unfolding is_bad_command
    slotless c good =
        let content = or_parts _ (has_bad_content h k c) good in
        let context = or_parts _ (has_bad_context h k (named_context c)) content.0 in
        no_slot (named_slot c) (or_parts (names_disabled_slot k (named_slot c)) (names_disabled_endpoint k (named_endpoint c)) context.0).0

    -- one that binds and moves nothing
    plain : (p : ℕ) (c : Command) → is_bad_command g l c ≡ false → adds_streams g l c ≡ false → binds g l c ≡ [] → MovesIf g l c → StaysIf g l c → CommandKeeps h k p c → CommandKeeps g l p c
    unfolding binds_ring has_repeats
    plain p c good profile none moves stays keeps = record {
      alone = λ q e u other. keeps.alone q e (unfinished_before q e u) other;
      good = good;
      in_profile = profile;
      device = keeps.device;
      binds = subst (All (λ b. is_placed g l (ring_bound g b) b ≡ true)) (sym none) (All-nil (λ b. is_placed g l (ring_bound g b) b ≡ true));
      repeats = ap (λ bs. has_repeats (map (ring_bound g) bs)) none;
      unkept = λ r s i binding has. none_has s i r has;
      unshared = λ r q e binding u other. absurd (false≢true (sym (ap (list_any (λ b. is_ring r (ring_bound g b))) none) ∙ binding));
      moves_on = moves;
      stays = stays;
      restored = λ s i p cycle at r has. none_has s i r has;
    }

    command_still : (p : ℕ) (c : Command) → named_slot c ≡ None → CommandKeeps h k p c → CommandKeeps g l p c
    unfolding is_bad_command names_disabled_slot names_disabled_endpoint has_bad_context has_bad_content adds_streams binds is_bad_move
    command_still p c none keeps =
        elim (two_commands c none) [
          | inl same ↦ subst (CommandKeeps g l p) (sym same) (plain p NoOp refl refl refl refl tt (subst (CommandKeeps h k p) same keeps))
          | inr same ↦ subst (CommandKeeps g l p) (sym same) (plain p EnableSlot refl refl refl refl tt (subst (CommandKeeps h k p) same keeps))
        ]

    nobody : (r : ℕ) → r ≡ no_id → IsNobodys (views r)
    nobody r none = elim (cases_eq r id) [
      | inl same ↦ subst IsNobodys (sym (ap views same ∙ put_at k.ring id new_ring)) new_is_nobodys
      | inr other ↦ subst IsNobodys (sym (view_same r other)) (d.nobody r none)
    ]

    pub another_events_kept : DriverKeeps g l
    another_events_kept = record {
      rings = λ r ring.
          let was = o.was_driver r ring in
          subst (λ v. RingKeeps (shape_of g r) k.memory v) (sym (view_same r was.0)) (subst (λ x. RingKeeps x k.memory (k.ring r)) (sym (o.shapes r was.0)) (d.rings r was.1));
      commands_stay = subst IsRestored (sym command_view) d.commands_stay;
      clean = o.clean;
      command_ring = command_keeps;
      states = states;
      numbered = λ s i r at. none_has s i r at;
      unstarted = λ off. let u = d.unstarted off in record { reads = u.reads; dequeue = u.dequeue; slots = u.slots; rings = u.rings; seen = u.seen };
      run = run;
      sized = λ written. absurd (false≢true (sym (ap (λ o. is_some o) o.unwritten) ∙ written));
      erstsz_written = d.erstsz_written;
      dequeued = d.dequeued;
      read_room = λ some. absurd (omega (arith, some, (d.unstarted o.before).reads));
      devices = λ s e at. absurd (no_devices s e at);
      unfinished = λ p c u. let was = unfinished_before p c u in command_still p c (slotless c (d.unfinished p c was).good) (d.unfinished p c was);
      nobody = nobody;
    }

    -- ---- the world, in which nothing is posted

    module _ (w : World) where
      abbrev pub v : World
      v = resting w id

      here : {X : Type 0} (f : ℕ → X) (x : X) (r : ℕ) → r ≡ id → put f id x r ≡ x
      here f x r same = ap (λ n. put f id x n) same ∙ put_at f id x

      state_same : (r : ℕ) → r ≢ id → state_of v r ≡ state_of w r
      unfolding resting emptied
      state_same r other = λ j. record {
        pointer = w.pointer_of r;
        cycle = w.cycle_state r;
        active = put_off w.is_active id false r other j;
        events = put_off w.events id [] r other j;
        reported = put_off w.reported id 0 r other j;
      }

      rested : (r : ℕ) → r ≡ id → FreeRing (shape_of g r) k.ring_of (views r) (state_of v r) r
      unfolding resting emptied
      rested r same =
          free_new (shape_of g r) k.ring_of (views r) (state_of v r) r (λ t i at. none_has t i r at) (here w.is_active false r same) (here w.events [] r same) (here k.ring new_ring r same)

      ring_same : (r : ℕ) → r ≢ id → EndpointRing h k w r → EndpointRing g l v r
      ring_same r other (inl bound) = none_has bound.slot bound.index r bound.bound
      ring_same r other (inr free) =
          inr (subst (λ s. FreeRing (shape_of g r) k.ring_of (views r) s r) (sym (state_same r other))
          (subst (λ y. FreeRing (shape_of g r) k.ring_of y (state_of w r) r) (sym (view_same r other)) (subst (λ y. FreeRing y k.ring_of (k.ring r) (state_of w r) r) (sym (o.shapes r other)) free)))

      command_state : state_of v (command_id g) ≡ state_of w (command_id h)
      command_state = ap (λ n. state_of v n) o.command ∙ state_same (command_id h) o.command_other

      stop_seen_same : (c : Command) → was_stop_seen l c ≡ was_stop_seen k c
      unfolding was_stop_seen
      stop_seen_same c = grind arith

      next_same : next_command g l ≡ next_command h k
      unfolding next_command
      next_same = ap (λ (y : RingView). floor_number y) command_view

      under_way_still : (t : Spot) (u : Option UnderWay) → UnderWayMatches h k t u → UnderWayMatches g l t u
      unfolding next_command command_at shape_of
      under_way_still t None m = (m.0 ∙ sym next_same, m.1)
      under_way_still t (Some u) m = (m.0 ∙ ap (λ n. n + 1) (sym next_same), search (rules, g, l, slice_get, option_and_then, stop_seen_same))

      unchanged_still : (at : ℕ) (c : Option ℕ) → IsUnchanged h w at c → IsUnchanged g v at c
      unfolding resting emptied
      unchanged_still at o same = grind arith

      matches : Matches h k w → Matches g l v
      unfolding resting emptied
      matches m = record {
        slots = m.slots;
        endpoints = m.endpoints;
        ring_of = m.ring_of;
        isochronous = m.isochronous;
        rings = λ r apart. elim (cases_eq r id) [ inl same ↦ inr (rested r same) | inr other ↦ ring_same r other (m.rings r (λ same. apart (same ∙ sym o.command))) ];
        before = λ off. let b = m.before off in record {
          rests = subst (λ shape. Rests shape (state_of v (command_id g))) (sym command_shape) (subst (Rests (shape_of h (command_id h))) (sym command_state) b.rests);
          none = b.none;
        };
        command = λ on. let c = m.command on in record {
          spot = c.spot;
          ring = subst (λ s. RingMatches (shape_of g (command_id g)) (views (command_id g)) s c.spot) (sym command_state)
              (subst (λ y. RingMatches (shape_of g (command_id g)) y (state_of w (command_id h)) c.spot) (sym command_view)
              (subst (λ y. RingMatches y (k.ring (command_id h)) (state_of w (command_id h)) c.spot) (sym command_shape) c.ring));
          under_way = under_way_still c.spot w.under_way c.under_way;
        };
        new = λ unused. (λ j. next_take (command_shape j) ((command_state j).events)) ∙ m.new (sym used_same ∙ unused);
        scribbles = m.scribbles;
        contexts = λ p c u.
            unchanged_still (address_of (shape_of g (command_id g)) p) (named_context c)
            (subst (λ shape. IsUnchanged h w (address_of shape p) (named_context c)) (sym command_shape) (m.contexts p c (unfinished_before p c u)));
        inside = m.inside;
        there = m.there;
      }

      queue_same : (r : ℕ) → w.queue r ≡ (k.ring r).queue → put w.queue id [] r ≡ (views r).queue
      queue_same r was =
          elim (cases_eq r id) [
            | inl same ↦ here w.queue [] r same ∙ sym (ap (λ (y : RingView). y.queue) (here k.ring new_ring r same))
            | inr other ↦ put_off w.queue id [] r other ∙ was ∙ sym (ap (λ (y : RingView). y.queue) (view_same r other))
          ]

      lengths_same : (r : ℕ) → w.lengths r ≡ (k.ring r).lengths → put w.lengths id [] r ≡ (views r).lengths
      lengths_same r was =
          elim (cases_eq r id) [
            | inl same ↦ here w.lengths [] r same ∙ sym (ap (λ (y : RingView). y.lengths) (here k.ring new_ring r same))
            | inr other ↦ put_off w.lengths id [] r other ∙ was ∙ sym (ap (λ (y : RingView). y.lengths) (view_same r other))
          ]

      stands : Stands h k w → Stands g l v
      unfolding resting emptied
      stands s = record {
        started = s.started;
        stopped = s.stopped;
        halting = s.halting;
        halted = s.halted;
        told = s.told;
        registers = s.registers;
        queues = λ r. queue_same r (s.queues r);
        lengths = λ r. lengths_same r (s.lengths r);
        dequeue = s.dequeue;
        quiet = λ a clean apart. let was = o.quiet a clean apart in s.quiet a was.0 was.1;
      }

      events_stand : Agrees h k [] w → EventsStand g v []
      unfolding resting emptied
      events_stand a =
          let none = nothing_posted h w [] a.events (a.stands.started ∙ o.before) in
          record {
            order = record { dequeued = a.events.order.dequeued; read = a.events.order.read; room = λ some. absurd (omega (arith, some, none)) };
            count = a.events.count;
            places = λ i b at. absurd (none-some b at);
            started = a.events.started;
            ring = λ some. absurd (omega (arith, some, none));
          }

      pub another_events_agrees : Agrees h k [] w → Agrees g l [] v
      unfolding resting emptied
      another_events_agrees a = record { stands = stands a.stands; events = events_stand a; matches = matches a.matches; read = a.read; stamps = a.stamps }
