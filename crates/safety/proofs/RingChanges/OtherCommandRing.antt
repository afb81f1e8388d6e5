-- Another command ring, or none, in place of the one that was there, with nothing known of it yet: what a driver keeps it keeps still, and the
-- world agrees with what is known still
use Rattle.safety.proofs.LowerLaws.{IsNobodys, no_id, same_register, slice_get_past, [], ◌≡◌, ◌≢◌, ◌≤◌, ◌+◌, ◌%◌, ◌<◌, ◌∙◌, if◌then◌else◌, ℕ, not, true, false, List, All, All-nil, Option, Some, None, slice_get, length, refl, sym, ap, subst, inl, inr, arith, cases_Bool, cases_eq, false≢true, false_from_ne_true, and_parts, none-some, put, put_at, put_off, Block, block_at, RingView, RingState, Shape, ceiling, given_count, unwrap_or, new_ring, RingKeeps, is_inside, address_of, overlap, touches, AreInOrder, table_bytes, device_context_bytes, base_address, Register, Crcr, Erstba, Header, Ring, shape_of, command_id, event_shape, event_size, touches_ring, Known, entry_of, device_named, is_soiled, may_be_taken, is_stopping_now, is_done, is_used, is_value, IsDriverRing, IsTransferRing, DeviceKeeps, CommandRingKeeps, StatesKeep, RunKeeps, DriverKeeps, World, emptied, state_of, next_take, BoundRing, FreeRing, EndpointRing, Rests, Matches, Stands, EventsStand, Agrees, resting}
use Rattle.world_state.specs.World.{event_at}
use Rattle.safety.proofs.RingChanges.OtherRings.{free_new}

none_there : (blocks : List Block) (p : ℕ) → blocks ≡ [] → slice_get blocks p ≡ None
none_there blocks p none = slice_get_past blocks p (let empty : length blocks ≡ 0 = ap length none in omega (arith, empty))

-- of a free ring of which nothing is known nothing was taken
pub nothing_next : (shape : Shape) (ring_of : ℕ → ℕ → Option ℕ) (v : RingView) (s : RingState) (r : ℕ) → FreeRing shape ring_of v s r → IsNobodys v → next_take shape s.events ≡ 0
unfolding ceiling
nothing_next shape ring_of v s r free none =
    let zero : ceiling shape v ≡ 0 = ap (λ o. unwrap_or o (given_count shape v)) none.held in
    omega (arith, free.to, zero)

-- CRCR names no ring any more
abbrev pub unnamed : (Register → Option ℕ) → Register → Option ℕ
unnamed values q = if same_register q Crcr then None else values q

pub unnamed_other : (values : Register → Option ℕ) (q : Register) → q ≢ Crcr → unnamed values q ≡ values q
unnamed_other values Crcr other = absurd (other refl)
unnamed_other values _ other = refl

module _ (h : Header) (rings : List Ring) (k : Known) (id : ℕ) where
  abbrev pub g : Header
  g = record h { rings = rings }

  abbrev pub views : ℕ → RingView
  views = put k.ring id new_ring

  abbrev pub l : Known
  l = record k { ring = views; register = unnamed k.register }

  pub record AnotherRing : Type 0 where
    -- all rings but the one with this ID are as they were, and no endpoint has that one
    pub shapes : (r : ℕ) → r ≢ id → shape_of g r ≡ shape_of h r
    pub events : event_shape g ≡ event_shape h
    pub size : event_size g ≡ event_size h
    pub had : (s i r : ℕ) → k.ring_of s i ≡ Some r → (r ≢ id) × IsTransferRing g r
    pub some : id ≢ no_id
    -- of the command ring that is there now nothing is known
    pub fresh : IsNobodys (views (command_id g))
    pub unmoved : (shape_of g (command_id g)).offset ≡ 0
    pub keeps : (r : ℕ) → IsDriverRing g r → RingKeeps (shape_of g r) k.memory (views r)
    pub clean : (r a : ℕ) → IsDriverRing g r → a % 4 ≡ 0 → is_inside (shape_of g r) a ≡ true → k.soiled a ≡ false
    pub devices : (s d : ℕ) → k.device s ≡ Some d → (touches_ring g d (device_context_bytes h.context_size) ≡ false) × (touches_ring g (entry_of k s) 8 ≡ false)
    -- the controller wasn't started, or has halted, and no command can have been taken
    pub halted : k.started ≡ true → is_done k.halt ≡ true
    pub untaken : k.started ≡ true → may_be_taken h k ≡ false

  module _ (d : DriverKeeps h k) (o : AnotherRing) where
    view_same : (r : ℕ) → r ≢ id → views r ≡ k.ring r
    view_same r other = put_off k.ring id new_ring r other

    none_seen : (s i : ℕ) → k.stop_seen s i ≡ false
    unfolding is_stopping_now
    none_seen s i =
        elim (cases_Bool k.started) [
          | inr off ↦ (d.unstarted off).seen s i
          | inl on ↦ false_from_ne_true (k.stop_seen s i) (λ seen. false≢true (sym (o.untaken on) ∙ (and_parts (may_be_taken h k) _ (d.states.seen_command s i seen)).0))
        ]

    unused : is_used g l ≡ false
    unused = ap (λ q. not (is_value 0 q)) o.fresh.held

    states : StatesKeep g l
    states = record {
      no_slot = d.states.no_slot;
      no_endpoint = d.states.no_endpoint;
      off = d.states.off;
      on = d.states.on;
      transfer = λ s i r at. (o.had s i r at).1;
      one_endpoint = d.states.one_endpoint;
      open_runs = λ s i r at none. d.states.open_runs s i r at (ap (λ (v : RingView). v.held) (sym (view_same r (o.had s i r at).0)) ∙ none);
      seen_command = λ s i seen. absurd (false≢true (sym (none_seen s i) ∙ seen));
      seen_runs = d.states.seen_runs;
      seen_held = λ s i r seen. absurd (false≢true (sym (none_seen s i) ∙ seen));
      slots = d.states.slots;
      first = d.states.first;
      no_device = d.states.no_device;
    }

    command_keeps : CommandRingKeeps g l
    command_keeps = record {
      commands = λ p b at. absurd (none-some b (sym (none_there (views (command_id g)).queue p o.fresh.queue) ∙ at));
      alone = subst (λ n. All (λ n. n ≡ 1) n) (sym o.fresh.lengths) (All-nil (λ n. n ≡ 1));
      held = inr (o.fresh.held, o.fresh.floor, o.unmoved);
    }

    device_keeps : (s e : ℕ) → DeviceKeeps h k s e → k.device s ≡ Some e → DeviceKeeps g l s e
    unfolding device_named entry_of is_soiled
    device_keeps s e old at =
        assumption (
          old,
          o.devices s e at,
          λ (v : ℕ) (written : k.register Erstba ≡ Some v). subst (λ shape. overlap e (device_context_bytes h.context_size) (base_address v) (table_bytes shape) ≡ false) (sym o.events) (old.table v written),
        )

    run : RunKeeps g l
    run = record {
      again = d.run.again;
      started = d.run.started;
      running = λ on running. absurd (false≢true (sym running ∙ o.halted on));
      used = λ on used. absurd (false≢true (sym unused ∙ used));
      named = λ named. absurd (false≢true named);
      absent = λ used. absurd (false≢true (sym unused ∙ used));
      unused = λ off named. absurd (false≢true named);
    }

    nobody : (r : ℕ) → r ≡ no_id → IsNobodys (views r)
    nobody r none = subst IsNobodys (sym (view_same r (λ same. o.some (sym same ∙ none)))) (d.nobody r none)

    pub another_ring_kept : DriverKeeps g l
    another_ring_kept = record {
      rings = o.keeps;
      commands_stay = o.fresh.free;
      clean = o.clean;
      command_ring = command_keeps;
      states = states;
      numbered = d.numbered;
      unstarted = λ off. let u = d.unstarted off in record { reads = u.reads; dequeue = u.dequeue; slots = u.slots; rings = u.rings; seen = u.seen };
      run = run;
      sized = λ written. subst (λ n. 0 < n) (sym o.size) (d.sized written);
      erstsz_written = d.erstsz_written;
      dequeued = d.dequeued;
      read_room = λ some. subst (λ n. k.reads + 1 ≤ k.dequeue + n) (sym o.size) (d.read_room some);
      devices = λ s e at. device_keeps s e (d.devices s e at) at;
      unfinished = λ p c u. absurd (false≢true (sym (o.fresh.given p) ∙ u.given));
      nobody = nobody;
    }

    -- ---- the world, in which nothing happened on the ring that comes, or goes

    module _ (w : World) where
      abbrev pub v : World
      v = resting w id

      pub record OtherWorld : Type 0 where
        -- any other ring that isn't the command ring now
        pub others : (r : ℕ) → r ≢ id → r ≢ command_id g → EndpointRing h k w r
        -- the command ring that is there now
        pub rests : Rests (shape_of g (command_id g)) (state_of v (command_id g))
        pub new : next_take (shape_of g (command_id g)) (v.events (command_id g)) ≡ 0
        pub idle : w.under_way ≡ None

      here : {X : Type 0} (f : ℕ → X) (x : X) (r : ℕ) → r ≡ id → put f id x r ≡ x
      here f x r same = ap (λ n. put f id x n) same ∙ put_at f id x

      pub state_same : (r : ℕ) → r ≢ id → state_of v r ≡ state_of w r
      unfolding resting emptied
      state_same r other = λ j. record {
        pointer = w.pointer_of r;
        cycle = w.cycle_state r;
        active = put_off w.is_active id false r other j;
        events = put_off w.events id [] r other j;
        reported = put_off w.reported id 0 r other j;
      }

      pub rested : (r : ℕ) → r ≡ id → FreeRing (shape_of g r) k.ring_of (views r) (state_of v r) r
      unfolding resting emptied
      rested r same =
          free_new (shape_of g r) k.ring_of (views r) (state_of v r) r (λ t i at. (o.had t i r at).0 same) (here w.is_active false r same) (here w.events [] r same) (here k.ring new_ring r same)

      ring_same : (r : ℕ) → r ≢ id → EndpointRing h k w r → EndpointRing g l v r
      ring_same r other (inl bound) =
          inl (subst (λ s. BoundRing (shape_of g r) k.ring_of (views r) s r) (sym (state_same r other))
          (subst (λ y. BoundRing (shape_of g r) k.ring_of y (state_of w r) r) (sym (view_same r other)) (subst (λ y. BoundRing y k.ring_of (k.ring r) (state_of w r) r) (sym (o.shapes r other)) bound)))
      ring_same r other (inr free) =
          inr (subst (λ s. FreeRing (shape_of g r) k.ring_of (views r) s r) (sym (state_same r other))
          (subst (λ y. FreeRing (shape_of g r) k.ring_of y (state_of w r) r) (sym (view_same r other)) (subst (λ y. FreeRing y k.ring_of (k.ring r) (state_of w r) r) (sym (o.shapes r other)) free)))

      module _ (x : OtherWorld) where
        matches : Matches h k w → Matches g l v
        unfolding resting emptied
        matches m = record {
          slots = m.slots;
          endpoints = m.endpoints;
          ring_of = m.ring_of;
          isochronous = m.isochronous;
          rings = λ r apart. elim (cases_eq r id) [ inl same ↦ inr (rested r same) | inr other ↦ ring_same r other (x.others r other apart) ];
          before = λ off. record { rests = x.rests; none = x.idle };
          command = λ named. absurd (false≢true named);
          new = λ unused. x.new;
          scribbles = m.scribbles;
          contexts = λ p c u. absurd (false≢true (sym (o.fresh.given p) ∙ u.given));
          inside = m.inside;
          there = m.there;
        }

        queue_same : (r : ℕ) → w.queue r ≡ (k.ring r).queue → put w.queue id [] r ≡ (views r).queue
        queue_same r was =
            elim (cases_eq r id) [
              | inl same ↦ here w.queue [] r same ∙ sym (ap (λ (y : RingView). y.queue) (here k.ring new_ring r same))
              | inr other ↦ put_off w.queue id [] r other ∙ was ∙ sym (ap (λ (y : RingView). y.queue) (view_same r other))
            ]

        lengths_same : (r : ℕ) → w.lengths r ≡ (k.ring r).lengths → put w.lengths id [] r ≡ (views r).lengths
        lengths_same r was =
            elim (cases_eq r id) [
              | inl same ↦ here w.lengths [] r same ∙ sym (ap (λ (y : RingView). y.lengths) (here k.ring new_ring r same))
              | inr other ↦ put_off w.lengths id [] r other ∙ was ∙ sym (ap (λ (y : RingView). y.lengths) (view_same r other))
            ]

        stands : Stands h k w → Stands g l v
        unfolding resting emptied
        stands s = record {
          started = s.started;
          stopped = s.stopped;
          halting = s.halting;
          halted = s.halted;
          told = s.told;
          registers = λ q other. s.registers q other ∙ sym (unnamed_other k.register q other);
          queues = λ r. queue_same r (s.queues r);
          lengths = λ r. lengths_same r (s.lengths r);
          dequeue = s.dequeue;
          quiet = λ a clean apart. s.quiet a clean (ap (λ shape. touches shape a 4) (sym o.events) ∙ apart);
        }

        events_stand : (unread : List Block) → EventsStand h w unread → EventsStand g v unread
        unfolding resting emptied event_at
        events_stand unread e = record {
          order = subst (λ n. AreInOrder n (record { posted = w.posted; reads = w.reads; dequeue = w.dequeue })) (sym o.size) e.order;
          count = e.count;
          places = λ i b at. ap (λ shape. block_at w.memory (address_of shape (w.reads + i))) o.events ∙ e.places i b at;
          started = e.started;
          ring = λ some. subst (λ n. 0 < n) (sym o.size) (e.ring some);
        }

        pub another_ring_agrees : (unread : List Block) → Agrees h k unread w → Agrees g l unread v
        unfolding resting emptied
        another_ring_agrees unread a = record { stands = stands a.stands; events = events_stand unread a.events; matches = matches a.matches; read = a.read; stamps = a.stamps }
