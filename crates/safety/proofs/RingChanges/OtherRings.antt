-- What a driver keeps is kept where other rings are there, so long as those that endpoints and commands speak of are as they were
use Rattle.safety.proofs.LowerLaws.{has_runs, Erstba, arith, put, cases_eq, [], ◌≡◌, ◌≢◌, ◌≤◌, ◌+◌, ◌%◌, ◌^◌, ◌<◌, ◌||◌, ◌⊎◌, ◌∷◌, ◌∙◌, ℕ, Bool, true, false, List, map, All, Option, Some, None, nat_lt, option_and_then, slice_get, refl, sym, ap, subst, inl, inr, rules, IsRestored, new_ring, device_named, is_soiled, overlap, list_any-append, drops, context_pointer, context_cycle, base_address, table_bytes, list_any, flat_map, false≢true, or_parts, or_from, cases_option, All-head, All-tail, All-cons, All-nil, RingView, is_inside, ceiling, floor_number, is_move, RingKeeps, Command, AddressDevice, ConfigureEndpoint, SetTrDequeue, command_of, is_stop_of, named_slot, named_endpoint, named_context, device_context_bytes, input_context_bytes, Header, Ring, shape_of, command_id, event_shape, event_size, touches_ring, is_ring, Known, entry_of, command_at, next_command, may_be_taken, is_stopping_now, device_ranges, range_of_device, slots, covers, lease_start, lease_bytes, is_bad_area, Binding, binds, binding_in, ring_bound, binds_ring, has_repeats, is_placed, is_bad_dequeue, is_bad_move, IsDriverRing, IsTransferRing, IsUnfinished, was_stop_seen, DeviceKeeps, Stays, StaysIf, MovesIf, CommandKeeps, DriverKeeps, adds_streams, has_bad_content, has_bad_context, is_bad_added, is_bad_command, names_disabled_endpoint, names_disabled_slot, streams_in, takes_bad_device, type_in, next_take, Block, block_at, address_of, Spot, Shape, World, RingEvent, UnderWay, RingState, state_of, RingMatches, BoundRing, FreeRing, EndpointRing, UnderWayMatches, IsUnchanged, Matches, Agrees, has_other_words, is_out_of_order, put_at, put_off, is_used, is_value, Rests, not, IsNobodys}
use Rattle.world_state.specs.World.{event_at}

pub new_is_nobodys : IsNobodys new_ring
new_is_nobodys = record { queue = refl; lengths = refl; held = refl; floor = refl; given = λ p. refl; free = λ p. refl }

-- where a list is mapped alike, what passes of it is the same
any_map : {X Y : Type 0} (f : X → Y) (t : Y → Bool) (xs : List X) → list_any (λ x. t (f x)) xs ≡ list_any t (map f xs)
any_map f t [] = refl
any_map f t (x ∷ xs) = ap (λ b. t (f x) || b) (any_map f t xs)

same_any : {X Y : Type 0} (f g : X → Y) (t : Y → Bool) (xs : List X) → map f xs ≡ map g xs → list_any (λ x. t (f x)) xs ≡ list_any (λ x. t (g x)) xs
same_any f g t xs same = any_map f t xs ∙ ap (list_any t) same ∙ sym (any_map g t xs)

-- a ring on which nothing happened
pub free_new : (shape : Shape) (ring_of : ℕ → ℕ → Option ℕ) (y : RingView) (s : RingState) (r : ℕ) → ((t i : ℕ) → ring_of t i ≢ Some r) → s.active ≡ false → s.events ≡ [] → y ≡ new_ring →
    FreeRing shape ring_of y s r
unfolding is_out_of_order has_other_words next_take
free_new shape ring_of y s r none inactive empty new = search rules

module _ (h : Header) (rings : List Ring) (k : Known) (views : ℕ → RingView) where
  -- the header and the knowledge with other rings
  abbrev pub g : Header
  g = record h { rings = rings }

  abbrev pub l : Known
  l = record k { ring = views }

  pub stop_seen_same : (c : Command) → was_stop_seen l c ≡ was_stop_seen k c
  unfolding was_stop_seen
  stop_seen_same o = grind arith

  -- ring r is there, with its shape and what was known of it
  pub record IsAsBefore (r : ℕ) : Type 0 where
    pub transfer : IsTransferRing g r
    pub shape : shape_of g r ≡ shape_of h r
    pub view : views r ≡ k.ring r

  -- so is the ring that a binding names
  abbrev pub BindsAsBefore : Binding → Type 0
  BindsAsBefore b = (r : ℕ) → ring_bound h b ≡ Some r → (ring_bound g b ≡ Some r) × IsAsBefore r

  pub record OtherRings : Type 0 where
    pub command : command_id g ≡ command_id h
    pub command_ring : IsDriverRing h (command_id h) → IsDriverRing g (command_id h)
    pub command_shape : shape_of g (command_id g) ≡ shape_of h (command_id h)
    pub command_view : views (command_id g) ≡ k.ring (command_id h)
    pub events : event_shape g ≡ event_shape h
    pub version : g.version ≡ h.version
    pub size : event_size g ≡ event_size h
    -- of each ring that is there the rules are kept
    pub keeps : (r : ℕ) → IsDriverRing g r → RingKeeps (shape_of g r) k.memory (views r)
    pub clean : (r a : ℕ) → IsDriverRing g r → a % 4 ≡ 0 → is_inside (shape_of g r) a ≡ true → k.soiled a ≡ false
    pub had : (s i r : ℕ) → k.ring_of s i ≡ Some r → IsAsBefore r
    pub each : (r : ℕ) → (views r ≡ k.ring r) ⊎ (views r ≡ new_ring)
    -- no ring touches what commands and slots have under lease
    pub devices : (s d : ℕ) → k.device s ≡ Some d → (touches_ring g d (device_context_bytes h.context_size) ≡ false) × (touches_ring g (entry_of k s) 8 ≡ false)
    pub contexts : (p n : ℕ) (c : Command) → IsUnfinished h k p c → named_context c ≡ Some n → touches_ring g n (input_context_bytes h.context_size) ≡ false
    pub binds : (p : ℕ) (c : Command) → IsUnfinished h k p c → All BindsAsBefore (binds h k c)

  module _ (d : DriverKeeps h k) (o : OtherRings) where
    -- ---- device contexts

    device_keeps : (s e : ℕ) → DeviceKeeps h k s e → k.device s ≡ Some e → DeviceKeeps g l s e
    unfolding device_named entry_of is_soiled
    device_keeps s e old at =
        assumption (
          old,
          o.devices s e at,
          λ (v : ℕ) (written : k.register Erstba ≡ Some v). subst (λ shape. overlap e (device_context_bytes h.context_size) (base_address v) (table_bytes shape) ≡ false) (sym o.events) (old.table v written),
        )

    -- ---- unfinished commands

    pub unfinished_before : (p : ℕ) (c : Command) → IsUnfinished g l p c → IsUnfinished h k p c
    unfolding command_at
    unfinished_before p c u = search (rules, g, l, option_and_then, slice_get)

    device_covers : (from len s : ℕ) (a : Option ℕ) → list_any (covers g from len) (range_of_device g s a) ≡ list_any (covers h from len) (range_of_device h s a)
    unfolding range_of_device covers lease_start lease_bytes
    device_covers from len s o = grind arith

    devices_cover : (from len : ℕ) (ss : List ℕ) →
        list_any (covers g from len) (flat_map (λ s. range_of_device g s (k.device s)) ss) ≡ list_any (covers h from len) (flat_map (λ s. range_of_device h s (k.device s)) ss)
    devices_cover from len [] = refl
    devices_cover from len (s ∷ ss) = grind (arith, list_any-append, device_covers, devices_cover from len ss)

    area_same : (from len : ℕ) → touches_ring g from len ≡ false → is_bad_area h k from len ≡ false → is_bad_area g l from len ≡ false
    unfolding is_bad_area device_ranges
    area_same from len apart good =
        let parts = or_parts _ _ good in
        or_from (nat_lt (2 ^ 64) (from + len) || touches_ring g from len) (list_any (covers g from len) (device_ranges g l))
        (or_from (nat_lt (2 ^ 64) (from + len)) (touches_ring g from len) (or_parts _ _ parts.0).0 apart)
        (devices_cover from len slots ∙ parts.1)

    context_good : (n : Option ℕ) → ((a : ℕ) → n ≡ Some a → touches_ring g a (input_context_bytes h.context_size) ≡ false) → has_bad_context h k n ≡ false →
        has_bad_context g l n ≡ false
    unfolding has_bad_context is_soiled
    context_good o apart good = grind (arith, or_parts, or_from, area_same)

    -- an Address Device that is unfinished has its device context
    content_good : (c : Command) → ((s n : ℕ) (bsr : Bool) → c ≡ AddressDevice s bsr n → k.device s ≢ None) → has_bad_content h k c ≡ false →
        has_bad_content g l c ≡ false
    unfolding has_bad_content is_bad_added type_in takes_bad_device device_named
    content_good (AddressDevice s bsr n) device good = grind (arith, or_parts, or_from, cases_option (k.device s), device s n bsr refl)
    content_good (ConfigureEndpoint s false n) device good = good
    content_good _ device good = refl

    good_still : (p : ℕ) (c : Command) → IsUnfinished h k p c → CommandKeeps h k p c → is_bad_command g l c ≡ false
    unfolding is_bad_command names_disabled_slot names_disabled_endpoint
    good_still p c u keeps =
        let content = or_parts _ (has_bad_content h k c) keeps.good in
        let context = or_parts _ (has_bad_context h k (named_context c)) content.0 in
        let names = or_parts (names_disabled_slot k (named_slot c)) (names_disabled_endpoint k (named_endpoint c)) context.0 in
        or_from _ (has_bad_content g l c)
        (or_from _ (has_bad_context g l (named_context c))
        (or_from (names_disabled_slot l (named_slot c)) (names_disabled_endpoint l (named_endpoint c))
        ((grind arith) ∙ names.0) ((grind arith) ∙ names.1))
        (context_good (named_context c) (λ a at. o.contexts p a c u at) context.1))
        (content_good c keeps.device content.1)

    -- ---- what a command binds

    pub binds_same : (c : Command) → binds g l c ≡ binds h k c
    unfolding binds binding_in
    binds_same o = grind arith

    -- a binding that is placed names a ring, and the same one
    one_placed : (b : Binding) → BindsAsBefore b → is_placed h k (ring_bound h b) b ≡ true → (ring_bound g b ≡ ring_bound h b) × (is_placed g l (ring_bound g b) b ≡ true)
    unfolding is_placed
    one_placed b as_before placed = search (rules, g, l, cases_option, false≢true)

    all_placed : (bs : List Binding) → All BindsAsBefore bs → All (λ b. is_placed h k (ring_bound h b) b ≡ true) bs →
        (map (ring_bound g) bs ≡ map (ring_bound h) bs) × All (λ b. is_placed g l (ring_bound g b) b ≡ true) bs
    all_placed [] before placed = (refl, All-nil (λ b. is_placed g l (ring_bound g b) b ≡ true))
    all_placed (b ∷ bs) before placed =
        let one = one_placed b (All-head BindsAsBefore b bs before) (All-head (λ b. is_placed h k (ring_bound h b) b ≡ true) b bs placed) in
        let rest = all_placed bs (All-tail BindsAsBefore b bs before) (All-tail (λ b. is_placed h k (ring_bound h b) b ≡ true) b bs placed) in
        ((λ j. one.0 j ∷ rest.0 j), All-cons (λ b. is_placed g l (ring_bound g b) b ≡ true) b bs one.1 rest.1)

    pub record BoundStill (c : Command) : Type 0 where
      pub same : map (ring_bound g) (binds h k c) ≡ map (ring_bound h) (binds h k c)
      pub placed : All (λ b. is_placed g l (ring_bound g b) b ≡ true) (binds g l c)
      pub names : (r : ℕ) → binds_ring g l r c ≡ binds_ring h k r c

    pub bound_still : (p : ℕ) (c : Command) → IsUnfinished h k p c → BoundStill c
    unfolding binds_ring
    bound_still p c u =
        let all = all_placed (binds h k c) (o.binds p c u) (d.unfinished p c u).binds in
        record {
          same = all.0;
          placed = subst (λ bs. All (λ b. is_placed g l (ring_bound g b) b ≡ true) bs) (sym (binds_same c)) all.1;
          names = λ r. ap (λ bs. list_any (λ b. is_ring r (ring_bound g b)) bs) (binds_same c) ∙ same_any (ring_bound g) (ring_bound h) (is_ring r) (binds h k c) all.0;
        }

    -- ---- what a command moves

    dequeue_still : (q : Option ℕ) (p : ℕ) (cycle : Bool) → ((r : ℕ) → q ≡ Some r → IsAsBefore r) → is_bad_dequeue g l q p cycle ≡ is_bad_dequeue h k q p cycle
    unfolding is_bad_dequeue
    dequeue_still o p cycle before = grind arith

    moves_still : (c : Command) → MovesIf h k c → MovesIf g l c
    unfolding is_bad_move
    moves_still (SetTrDequeue s i p cycle) good = search (rules, dequeue_still, o.had)
    moves_still (AddressDevice s bsr n) good = tt
    moves_still _ good = refl

    stays_still : (c : Command) → StaysIf h k c → StaysIf g l c
    stays_still (AddressDevice s bsr n) stays = λ r at.
        let b = o.had s 1 r at in
        let old : Stays h k r n = stays r at in
        record {
          here = (λ j. is_move (b.shape j) (b.view j) (context_pointer h.context_size k.memory n 1) (context_cycle h.context_size k.memory n 1) (floor_number (b.view j)) (floor_number (b.view j))) ∙ old.here;
          nothing = λ p low. ap (λ (v : RingView). v.given p) b.view ∙ old.nothing p (subst (λ (v : RingView). floor_number v ≤ p) b.view low);
        }
    stays_still _ stays = tt

    command_keeps : (p : ℕ) (c : Command) → IsUnfinished h k p c → CommandKeeps g l p c
    unfolding drops adds_streams streams_in
    command_keeps p c u =
        let old : CommandKeeps h k p c = d.unfinished p c u in
        let bound : BoundStill c = bound_still p c u in
        record {
          alone = λ q e v other. old.alone q e (unfinished_before q e v) other;
          good = good_still p c u old;
          in_profile = (grind arith) ∙ old.in_profile;
          device = old.device;
          binds = bound.placed;
          repeats = ap (λ bs. has_repeats (map (ring_bound g) bs)) (binds_same c) ∙ ap has_repeats bound.same ∙ old.repeats;
          unkept = λ r s i binds has. (grind (arith, false)) ∙ old.unkept r s i (sym (bound.names r) ∙ binds) has;
          unshared = λ r q e binds v other.
              (bound_still q e (unfinished_before q e v)).names r ∙ old.unshared r q e (sym (bound.names r) ∙ binds) (unfinished_before q e v) other;
          moves_on = moves_still c old.moves_on;
          stays = stays_still c old.stays;
          restored = λ s i p cycle at r has. subst IsRestored (sym (o.had s i r has).view) (old.restored s i p cycle at r has);
        }

    used_same : is_used g l ≡ true → is_used h k ≡ true
    used_same used = ap (λ (v : RingView). not (is_value 0 v.held)) (sym o.command_view) ∙ used

    pub other_rings_keep : DriverKeeps g l
    unfolding is_stopping_now may_be_taken next_command command_at
    other_rings_keep = record {
      rings = o.keeps;
      commands_stay = subst IsRestored (sym o.command_view) d.commands_stay;
      clean = o.clean;
      command_ring = search (rules, g, l, slice_get);
      states = (search (rules, d.states, o.had, nat_lt, floor_number, ceiling, is_stop_of, option_and_then, command_of, slice_get));
      numbered = d.numbered;
      unstarted = λ before. search (rules, g, l);
      run = record {
        again = λ asked. ap (λ v. has_runs v) o.version ∙ d.run.again asked;
        started = d.run.started;
        running = d.run.running;
        used = λ started used. d.run.used started (used_same used);
        named = λ named. subst (IsDriverRing g) (sym o.command) (o.command_ring (d.run.named named));
        absent = λ used. subst (IsDriverRing g) (sym o.command) (o.command_ring (d.run.absent (used_same used)));
        unused = λ off named. ap (λ (v : RingView). not (is_value 0 v.held)) o.command_view ∙ d.run.unused off named;
      };
      sized = λ written. subst (λ n. 0 < n) (sym o.size) (d.sized written);
      erstsz_written = d.erstsz_written;
      dequeued = d.dequeued;
      read_room = λ some. subst (λ n. k.reads + 1 ≤ k.dequeue + n) (sym o.size) (d.read_room some);
      devices = λ s e at. device_keeps s e (d.devices s e at) at;
      unfinished = λ p c u. command_keeps p c (unfinished_before p c u);
      nobody = λ r none. elim (o.each r) [ inl same ↦ subst IsNobodys (sym same) (d.nobody r none) | inr new ↦ subst IsNobodys (sym new) new_is_nobodys ];
    }

  -- ---- a world agrees with what is known still, so long as the rings that endpoints have are as they were

  module _ (w : World) (queue : ℕ → List Block) (lengths : ℕ → List ℕ) (events : ℕ → List RingEvent) (reported : ℕ → ℕ) where
    -- the world with other declarations, takes and reports
    abbrev pub v : World
    v = record w { queue = queue; lengths = lengths; events = events; reported = reported }

    pub record OtherTakes : Type 0 where
      pub queues : (r : ℕ) → queue r ≡ (views r).queue
      pub counts : (r : ℕ) → lengths r ≡ (views r).lengths
      -- of the command ring and of rings that endpoints have the same was taken and reported
      pub command : (events (command_id h) ≡ w.events (command_id h)) × (reported (command_id h) ≡ w.reported (command_id h))
      pub had : (s i r : ℕ) → k.ring_of s i ≡ Some r → (events r ≡ w.events r) × (reported r ≡ w.reported r)
      pub free : (r : ℕ) → r ≢ command_id h → FreeRing (shape_of h r) k.ring_of (k.ring r) (state_of w r) r → FreeRing (shape_of g r) k.ring_of (views r) (state_of v r) r

    module _ (d : DriverKeeps h k) (o : OtherRings) (x : OtherTakes) where
      state_same : (r : ℕ) → events r ≡ w.events r → reported r ≡ w.reported r → state_of v r ≡ state_of w r
      state_same r taken told = λ j. record { pointer = w.pointer_of r; cycle = w.cycle_state r; active = w.is_active r; events = taken j; reported = told j }

      command_state : state_of v (command_id g) ≡ state_of w (command_id h)
      command_state = ap (λ n. state_of v n) o.command ∙ state_same (command_id h) x.command.0 x.command.1

      ring_still : (r : ℕ) → r ≢ command_id h → EndpointRing h k w r → EndpointRing g l v r
      ring_still r other (inl bound) =
          let same : IsAsBefore r = o.had bound.slot bound.index r bound.bound in
          let taken = x.had bound.slot bound.index r bound.bound in
          inl (subst (λ s. BoundRing (shape_of g r) k.ring_of (views r) s r) (sym (state_same r taken.0 taken.1))
          (subst (λ y. BoundRing (shape_of g r) k.ring_of y (state_of w r) r) (sym same.view) (subst (λ y. BoundRing y k.ring_of (k.ring r) (state_of w r) r) (sym same.shape) bound)))
      ring_still r other (inr free) = inr (x.free r other free)

      next_same : next_command g l ≡ next_command h k
      unfolding next_command
      next_same = ap (λ (y : RingView). floor_number y) o.command_view

      under_way_still : (t : Spot) (u : Option UnderWay) → UnderWayMatches h k t u → UnderWayMatches g l t u
      unfolding next_command command_at
      under_way_still t None m = (m.0 ∙ sym next_same, m.1)
      under_way_still t (Some u) m = (m.0 ∙ ap (λ n. n + 1) (sym next_same), search (rules, g, l, slice_get, option_and_then, stop_seen_same))

      unchanged_still : (at : ℕ) (c : Option ℕ) → IsUnchanged h w at c → IsUnchanged g v at c
      unchanged_still at o same = grind arith

      taken_command : events (command_id g) ≡ w.events (command_id h)
      taken_command = ap events o.command ∙ x.command.0

      matches_still : Matches h k w → Matches g l v
      matches_still m = record {
        slots = m.slots;
        endpoints = m.endpoints;
        ring_of = m.ring_of;
        isochronous = m.isochronous;
        rings = λ r other. let apart : r ≢ command_id h = λ same. other (same ∙ sym o.command) in ring_still r apart (m.rings r apart);
        before = λ off. let b = m.before off in record {
          rests = subst (λ shape. Rests shape (state_of v (command_id g))) (sym o.command_shape) (subst (Rests (shape_of h (command_id h))) (sym command_state) b.rests);
          none = b.none;
        };
        new = λ unused. (λ j. next_take (o.command_shape j) (taken_command j)) ∙ m.new (ap (λ (y : RingView). not (is_value 0 y.held)) (sym o.command_view) ∙ unused);
        command = λ on. let c = m.command on in record {
          spot = c.spot;
          ring = subst (λ s. RingMatches (shape_of g (command_id g)) (views (command_id g)) s c.spot) (sym command_state)
              (subst (λ y. RingMatches (shape_of g (command_id g)) y (state_of w (command_id h)) c.spot) (sym o.command_view)
              (subst (λ y. RingMatches y (k.ring (command_id h)) (state_of w (command_id h)) c.spot) (sym o.command_shape) c.ring));
          under_way = under_way_still c.spot w.under_way c.under_way;
        };
        scribbles = m.scribbles;
        contexts = λ p c u.
            unchanged_still (address_of (shape_of g (command_id g)) p) (named_context c)
            (subst (λ shape. IsUnchanged h w (address_of shape p) (named_context c)) (sym o.command_shape) (m.contexts p c (unfinished_before d o p c u)));
        inside = m.inside;
        there = m.there;
      }

      pub other_worlds_agree : (unread : List Block) → Agrees h k unread w → Agrees g l unread v
      unfolding event_at
      other_worlds_agree unread a = search (rules, g, l, v, block_at, w.memory, address_of, matches_still)

-- ---- a world that forgets a ring, of which nothing is known any more

module _ (h : Header) (rings : List Ring) (k : Known) (id : ℕ) (shapes : (s : ℕ) → s ≢ id → shape_of (record h { rings = rings }) s ≡ shape_of h s) (no_command : command_id h ≢ id)
    (not_had : (s i x : ℕ) → k.ring_of s i ≡ Some x → x ≢ id) (w : World) where
  abbrev views_left : ℕ → RingView
  views_left = put k.ring id new_ring

  abbrev forgets : World
  forgets = record w { queue = put w.queue id []; lengths = put w.lengths id []; events = put w.events id []; reported = put w.reported id 0 }

  there : {X : Type 0} (f : ℕ → X) (x : X) (s : ℕ) → s ≡ id → put f id x s ≡ x
  there f x s same = ap (λ n. put f id x n) same ∙ put_at f id x

  free_still : (s : ℕ) → FreeRing (shape_of h s) k.ring_of (k.ring s) (state_of w s) s → FreeRing (shape_of (record h { rings = rings }) s) k.ring_of (views_left s) (state_of forgets s) s
  free_still s free = elim (cases_eq s id) [
    | inl here ↦ free_new _ k.ring_of (views_left s) (state_of forgets s) s free.none free.rests.inactive (there w.events [] s here) (there k.ring new_ring s here)
    | inr other ↦
        subst (λ x. FreeRing (shape_of (record h { rings = rings }) s) k.ring_of (views_left s) x s) (sym (search (rules, put_off)))
        (subst (λ y. FreeRing (shape_of (record h { rings = rings }) s) k.ring_of y (state_of w s) s) (sym (put_off k.ring id new_ring s other)) (subst (λ y. FreeRing y k.ring_of (k.ring s) (state_of w s) s) (sym (shapes s other)) free))
  ]

  pub forgetting_agrees : DriverKeeps h k → OtherRings h rings k views_left → (unread : List Block) → Agrees h k unread w →
      Agrees (record h { rings = rings }) (record k { ring = views_left }) unread forgets
  forgetting_agrees d o unread a = other_worlds_agree h rings k views_left w forgets.queue forgets.lengths forgets.events forgets.reported d o (search (rules, cases_eq, there, new_ring, put_off, command_id, free_still)) unread a
