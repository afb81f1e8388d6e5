-- The record of a trace behind a ring that comes or goes
use Rattle.trace_record.proofs.UpperLaws.{◌≡◌, ◌≢◌, ◌∙◌, ◌<◌, ◌∷◌, ◌++◌, ℕ, List, [], Bool, true, false, Option, None, Some, refl, ap, sym, subst, arith, inl, inr, length, slice_get, Ring, Header, IsHeader, Known, is_command_kind, command_id, command_ring, shape_of, IsAmong, among_at, same_or_apart, together}
use Rattle.trace_record.proofs.BaseWords.{Command, FollowsUnfinished, HoldsAreas, HoldsSoiled, SoiledWords, input_context_bytes, inputs_of, ◌+◌, ◌==◌, ◌&&◌, ◌||◌, Evt, EventState, FollowsEvents, FollowsPlace, FollowsRegisters, FollowsRing, RingRecord, RingView, Shape, TraceRecord, FollowsTrace, cases_Bool, cond-true, cond-false, eq-eqb, event_ring, event_shape, false≢true, find, filter, is_event_kind, is_some, length-append, ne_eqb, new_ring, not, remove, shape_or, slice_get_within, touches}
use Rattle.trace_record.proofs.BaseWords.{Xfer, binds_ring, command_at, due_positions, filter_map, floor_number, place_count, range_with_len, unfinished_positions, eqb-true, id_or_none, is_being_bound, length-remove, list_any, unfinished}
use Rattle.trace_record.proofs.RingFinder.ListTests.{or_false}
use Rattle.trace_record.specs.FollowsTrace.{HoldsBound}
use Rattle.traces.specs.Header.{event_id, ring_with}
use Rattle.traces.specs.LivingRings.{with_ring, without_ring}
use Rattle.ring_knowledge.specs.declared.register_record.RegisterRecord.{RegisterRecord}
use Rattle.ring_knowledge.specs.Histories.{forgotten, gone}
use Rattle.trace_record.specs.RingChanges.{Comes, SameCommands}
use Rattle.trace_record.specs.RingFinder.RecordsOfRings.{FollowsRings}
use Rattle.trace_record.proofs.DeviceSlots.Steps.{follows_beside}
use Rattle.trace_record.proofs.ListPlaces.{another_place, at_remove, both_push, found_left, found_new, found_still, kept_others, none_left, none_passes, place_before}
use Rattle.trace_record.proofs.RingFinder.CommandRings.{command_id_is}
use Rattle.trace_record.proofs.RingFinder.FoundRings.{command_found}
use Rattle.trace_record.proofs.RingFinder.HeaderRings.{event_found, event_here, find_some, id_below, no_command_here}
use Rattle.trace_record.proofs.RingFinder.RingsApart.{numbers_apart, other_number, same_number}

-- ---- a ring that comes

module _ (h : Header) (k : Known) (r : Ring) (c : Comes h k r) where
  -- the other rings have other IDs
  other_id : (i : ℕ) (q : Ring) → slice_get h.rings i ≡ Some q → q.id ≢ r.id
  other_id i q at same = false≢true (sym (none_passes (λ x. x.id == r.id) h.rings c.unnamed q (among_at h.rings i q at)) ∙ eq-eqb q.id r.id same)

  other_view : (q : ℕ) → q ≢ r.id → (forgotten k r.id).ring q ≡ k.ring q
  unfolding forgotten
  other_view q other = cond-false (q == r.id) new_ring (k.ring q) (ne_eqb q r.id other)

  new_view : (forgotten k r.id).ring r.id ≡ new_ring
  unfolding forgotten
  new_view = cond-true (r.id == r.id) new_ring (k.ring r.id) (same_number r.id)

  pub rings_come : (records : List RingRecord) (known : RingRecord) → FollowsRings h k records → FollowsRing r.shape new_ring known → FollowsRings (with_ring h r) (forgotten k r.id) (records ++ known ∷ [])
  unfolding with_ring
  rings_come records known f fresh = record {
    as_many = length-append records (known ∷ []) ∙ ap (λ n. n + 1) f.as_many ∙ sym (length-append h.rings (r ∷ []));
    each = λ i q x at there driver. elim (both_push h.rings records r known i q x f.as_many at there) [
      | inl old ↦ subst (λ (v : RingView). FollowsRing q.shape v x) (sym (other_view q.id (other_id i q old.0))) (f.each i q x old.0 old.1 driver)
      | inr new ↦
          subst (λ (y : RingRecord). FollowsRing q.shape ((forgotten k r.id).ring q.id) y) new.1
          (subst (λ (y : Ring). FollowsRing y.shape ((forgotten k r.id).ring y.id) known) new.0 (subst (λ (v : RingView). FollowsRing r.shape v known) (sym new_view) fresh))
    ];
  }

  -- the event ring is as before
  events_stay : is_event_kind r.shape.kind ≡ false → event_ring (with_ring h r) ≡ event_ring h
  unfolding event_ring with_ring
  events_stay other = found_still (λ q. is_event_kind q.shape.kind) h.rings r other

  pub still_events : is_event_kind r.shape.kind ≡ false → (o : Option EventState) → FollowsEvents h k o → FollowsEvents (with_ring h r) (forgotten k r.id) o
  unfolding forgotten event_shape
  still_events other None f = events_stay other ∙ f
  still_events other (Some e) f = record {
    here = ap (λ (x : Option Ring). is_some x) (events_stay other) ∙ f.here;
    shape = ap (λ (x : Option Ring). shape_or Evt x) (events_stay other) ∙ f.shape;
    reads = f.reads;
    dequeue = f.dequeue;
  }

  -- or it is the ring that comes
  events_come : is_event_kind r.shape.kind ≡ true → event_ring (with_ring h r) ≡ Some r
  unfolding event_ring with_ring
  events_come event = found_new (λ q. is_event_kind q.shape.kind) h.rings r (c.events event).none event

  pub new_events : is_event_kind r.shape.kind ≡ true → (e : EventState) → e.shape ≡ r.shape → e.counts ≡ record { posted = 0; reads = 0; dequeue = 0 } → FollowsPlace (with_ring h r) (forgotten k r.id) e
  unfolding forgotten event_shape
  new_events event e shape counts = record {
    here = ap (λ (x : Option Ring). is_some x) (events_come event);
    shape = ap (λ (x : Option Ring). shape_or Evt x) (events_come event) ∙ sym shape;
    reads = (c.events event).reads ∙ sym (ap (λ x. x.reads) counts);
    dequeue = (c.events event).dequeue ∙ sym (ap (λ x. x.dequeue) counts);
  }

  registers_stay : (g : RegisterRecord) → FollowsRegisters k g → FollowsRegisters (forgotten k r.id) g
  unfolding forgotten
  registers_stay g f = record {
    run = record { started = f.run.started; stopped = f.run.stopped; halt = f.run.halt };
    as_many = f.as_many;
    values = f.values;
  }

  pub came : (t u : TraceRecord) (m : ℕ → ℕ) → FollowsTrace h k t m → FollowsRings (with_ring h r) (forgotten k r.id) u.rings.items → FollowsEvents (with_ring h r) (forgotten k r.id) u.events →
      FollowsTrace (with_ring h r) (forgotten k r.id) (record t { rings = u.rings; events = u.events }) m
  unfolding with_ring forgotten
  came t u m f rings events = record {
    words = f.words;
    rings = rings;
    registers = registers_stay t.registers f.registers;
    events = events;
    devices = follows_beside k (forgotten k r.id) t.devices f.devices;
    commands = subst (λ (cs : List Command). FollowsUnfinished cs t.commands) (sym c.same.commands) f.commands;
    bound = λ q. f.bound q ∙ sym (c.same.bound q);
    inputs = subst (λ (cs : List Command). HoldsAreas (input_context_bytes h.context_size) (inputs_of cs) t.inputs) (sym c.same.commands) f.inputs;
    contexts = f.contexts;
    soiled = f.soiled;
  }

-- ---- a ring that goes

pub not_from : (b : Bool) → not b ≡ false → b ≡ true
not_from b h = grind arith

not_true : (b : Bool) → not b ≡ true → b ≡ false
not_true b h = grind arith

module _ (h : Header) (headed : IsHeader h) (k : Known) (n : ℕ) (r : Ring) (at : slice_get h.rings n ≡ Some r) where
  abbrev g : Header
  g = without_ring h r.id

  abbrev l : Known
  l = gone h k r.id

  abbrev among : IsAmong r h.rings
  among = among_at h.rings n r at

  low : n < length h.rings
  low = slice_get_within h.rings n r at

  another_id : (i : ℕ) (q : Ring) → slice_get h.rings i ≡ Some q → i ≢ n → q.id ≢ r.id
  another_id i q there other = (numbers_apart h.rings (together h headed) i n q r there at other).ids

  taken_out : filter (λ q. not (q.id == r.id)) h.rings ≡ remove h.rings n
  taken_out =
      kept_others (λ q. not (q.id == r.id)) h.rings n r at (ap not (same_number r.id)) (λ i q there other. ap not (other_number q.id r.id (another_id i q there other)))

  -- a ring with its ID is it
  it_alone : (q : Ring) → IsAmong q h.rings → (q.id == r.id) ≡ true → r ≡ q
  it_alone q there same = elim (same_or_apart h.rings (together h headed) q r there among) [
    | inl one ↦ one
    | inr apart ↦ absurd (apart.ids (eqb-true q.id r.id same))
  ]

  view_left : (q : ℕ) → q ≢ r.id → l.ring q ≡ k.ring q
  unfolding gone forgotten
  view_left q other = cond-false (q == r.id) new_ring (k.ring q) (ne_eqb q r.id other)

  pub rings_go : (records : List RingRecord) → FollowsRings h k records → FollowsRings g l (remove records n)
  unfolding without_ring
  rings_go records f = subst (λ (rs : List Ring). FollowsRings (record h { rings = rs }) l (remove records n)) (sym taken_out) (record {
    as_many = omega (arith, length-remove h.rings n low, length-remove records n (omega (arith, low, f.as_many)), f.as_many);
    each = λ i q x there known driver.
        let j = place_before n i in
        let ring_at : slice_get h.rings j ≡ Some q = sym (at_remove h.rings n i low) ∙ there in
        let record_at : slice_get records j ≡ Some x = sym (at_remove records n i (omega (arith, low, f.as_many))) ∙ known in
        subst (λ (v : RingView). FollowsRing q.shape v x) (sym (view_left q.id (another_id j q ring_at (another_place n i)))) (f.each j q x ring_at record_at driver);
  })

  -- ---- events

  pub events_left : is_event_kind r.shape.kind ≡ false → event_ring g ≡ event_ring h
  unfolding event_ring without_ring
  events_left other =
      found_left (λ q. is_event_kind q.shape.kind) (λ q. not (q.id == r.id)) h.rings (λ q there goes. ap (λ (x : Ring). is_event_kind x.shape.kind) (sym (it_alone q there (not_from (q.id == r.id) goes))) ∙ other)

  pub events_gone : is_event_kind r.shape.kind ≡ true → event_ring g ≡ None
  unfolding event_ring without_ring
  events_gone event = none_left (λ q. is_event_kind q.shape.kind) (λ q. not (q.id == r.id)) h.rings (λ q there stays. elim (same_or_apart h.rings (together h headed) q r there among) [
    | inl one ↦ absurd (false≢true (sym (not_true (q.id == r.id) stays) ∙ eq-eqb q.id r.id (ap (λ (x : Ring). x.id) (sym one))))
    | inr apart ↦ elim (cases_Bool (is_event_kind q.shape.kind)) [ inl too ↦ absurd (apart.one_event too event) | inr other ↦ other ]
  ])

  pub events_follow : is_event_kind r.shape.kind ≡ false → (o : Option EventState) → FollowsEvents h k o → FollowsEvents g l o
  unfolding gone forgotten event_shape
  events_follow other None f = events_left other ∙ f
  events_follow other (Some e) f = record {
    here = ap (λ (x : Option Ring). is_some x) (events_left other) ∙ f.here;
    shape = ap (λ (x : Option Ring). shape_or Evt x) (events_left other) ∙ f.shape;
    reads = f.reads;
    dequeue = f.dequeue;
  }

  -- ---- soiled words

  event_id_other : is_event_kind r.shape.kind ≡ false → (r.id == event_id h) ≡ false
  unfolding event_id event_ring
  event_id_other other = by (event_ring h) refl
    where
      by : (o : Option Ring) → find (λ q. is_event_kind q.shape.kind) h.rings ≡ o → (r.id == id_or_none o) ≡ false
      by None none = let low : r.id < 256 = id_below h headed r among in other_number r.id 256 (λ same. omega (arith, same, low))
      by (Some e) there =
          let found = find_some (λ q. is_event_kind q.shape.kind) h.rings e there in
          other_number r.id e.id (λ same. false≢true (sym other ∙ ap (λ (q : Ring). is_event_kind q.shape.kind) (it_alone e found.0 (eq-eqb e.id r.id (sym same))) ∙ found.1))

  event_id_here : is_event_kind r.shape.kind ≡ true → (r.id == event_id h) ≡ true
  unfolding event_id
  event_id_here event = eq-eqb r.id (event_id h) (sym (ap id_or_none (event_found h headed r among event)))

  pub soiled_left : is_event_kind r.shape.kind ≡ false → (s : SoiledWords) → HoldsSoiled k.soiled s → HoldsSoiled l.soiled s
  unfolding gone
  soiled_left other s f = record {
    each = λ a aligned. ap (λ b. k.soiled a || (b && touches (event_shape h) a 4)) (event_id_other other) ∙ or_false (k.soiled a) ∙ f.each a aligned;
  }

  pub soiled_gone : is_event_kind r.shape.kind ≡ true → (s : SoiledWords) → HoldsSoiled (λ a. k.soiled a || touches r.shape a 4) s → HoldsSoiled l.soiled s
  unfolding gone
  soiled_gone event s f = record {
    each = λ a aligned.
        ap (λ b. k.soiled a || (b && touches (event_shape h) a 4)) (event_id_here event) ∙ ap (λ (x : Shape). k.soiled a || touches x a 4) (event_here h headed r among event) ∙ f.each a aligned;
  }

  -- ---- commands

  pub by_command_id : is_command_kind r.shape.kind ≡ (r.id == command_id h)
  by_command_id = elim (cases_Bool (is_command_kind r.shape.kind)) [
    | inl command ↦ command ∙ sym (eq-eqb r.id (command_id h) (sym (command_id_is h r (command_found h headed r among command))))
    | inr other ↦ other ∙ sym (other_number r.id (command_id h) (no_command_here h headed r among other))
  ]

  command_ring_gone : is_command_kind r.shape.kind ≡ true → command_ring g ≡ None
  unfolding command_ring without_ring
  command_ring_gone command = none_left (λ q. is_command_kind q.shape.kind) (λ q. not (q.id == r.id)) h.rings (λ q there stays. elim (same_or_apart h.rings (together h headed) q r there among) [
    | inl one ↦ absurd (false≢true (sym (not_true (q.id == r.id) stays) ∙ eq-eqb q.id r.id (ap (λ (x : Ring). x.id) (sym one))))
    | inr apart ↦ elim (cases_Bool (is_command_kind q.shape.kind)) [ inl too ↦ absurd (apart.one_command too command) | inr other ↦ other ]
  ])

  command_id_gone : is_command_kind r.shape.kind ≡ true → command_id g ≡ 256
  unfolding command_id
  command_id_gone command = ap id_or_none (command_ring_gone command)

  ring_gone : is_command_kind r.shape.kind ≡ true → ring_with g (command_id g) ≡ None
  unfolding without_ring
  ring_gone command =
      ap (λ i. ring_with g i) (command_id_gone command)
      ∙ none_left (λ q. q.id == 256) (λ q. not (q.id == r.id)) h.rings (λ q there stays. let low : q.id < 256 = id_below h headed q there in other_number q.id 256 (λ same. omega (arith, same, low)))

  due_gone : is_command_kind r.shape.kind ≡ true → (v : RingView) → due_positions (shape_of g (command_id g)) v ≡ []
  unfolding shape_of due_positions
  due_gone command v = ap (λ (o : Option Ring). range_with_len (floor_number v) (place_count (shape_or Xfer o))) (ring_gone command)

  pub commands_gone : is_command_kind r.shape.kind ≡ true → unfinished g l ≡ []
  unfolding unfinished unfinished_positions
  commands_gone command = ap (λ ps. filter_map (command_at g l) (filter (l.ring (command_id g)).given ps)) (due_gone command (l.ring (command_id g)))

  pub none_bound : is_command_kind r.shape.kind ≡ true → (q : ℕ) → false ≡ is_being_bound g l q
  unfolding is_being_bound
  none_bound command q = sym (ap (λ cs. list_any (binds_ring g l q) cs) (commands_gone command))

  pub went : (t u : TraceRecord) (m : ℕ → ℕ) → FollowsTrace h k t m → FollowsRings g l u.rings.items → FollowsRegisters l u.registers → FollowsEvents g l u.events → FollowsUnfinished (unfinished g l) u.commands →
      HoldsBound g l u.bound → HoldsAreas (input_context_bytes h.context_size) (inputs_of (unfinished g l)) u.inputs → HoldsSoiled l.soiled u.soiled →
      FollowsTrace g l (record t { rings = u.rings; registers = u.registers; events = u.events; commands = u.commands; bound = u.bound; inputs = u.inputs; soiled = u.soiled }) m
  unfolding without_ring gone forgotten
  went t u m f rings registers events commands bound inputs soiled = record {
    words = f.words;
    rings = rings;
    registers = registers;
    events = events;
    devices = follows_beside k l t.devices f.devices;
    commands = commands;
    bound = bound;
    inputs = inputs;
    contexts = f.contexts;
    soiled = soiled;
  }

  -- with all commands as they were
  pub went_beside : SameCommands h k g l → (t u : TraceRecord) (m : ℕ → ℕ) → FollowsTrace h k t m → FollowsRings g l u.rings.items → FollowsRegisters l u.registers → FollowsEvents g l u.events →
      HoldsSoiled l.soiled u.soiled → FollowsTrace g l (record t { rings = u.rings; registers = u.registers; events = u.events; soiled = u.soiled }) m
  went_beside same t u m f rings registers events soiled =
      went t (record t { rings = u.rings; registers = u.registers; events = u.events; soiled = u.soiled }) m f rings registers events
      (subst (λ (cs : List Command). FollowsUnfinished cs t.commands) (sym same.commands) f.commands) (λ q. f.bound q ∙ sym (same.bound q))
      (subst (λ (cs : List Command). HoldsAreas (input_context_bytes h.context_size) (inputs_of cs) t.inputs) (sym same.commands) f.inputs) soiled
