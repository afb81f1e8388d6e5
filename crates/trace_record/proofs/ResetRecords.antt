-- The record of a trace behind a reset
use Rattle.trace_record.proofs.UpperLaws.{rules, ◌≡◌, ◌≢◌, ◌∙◌, ◌<◌, ◌≤◌, ◌∷◌, ℕ, zero, suc, List, [], Bool, true, false, Option, None, Some, refl, ap, sym, subst, arith, inl, inr, length, slice_get, Ring, Header, IsHeader, Known, is_command_kind, command_id, command_ring, shape_of, IsAmong, among_at, same_or_apart, shape_there, together}
use Rattle.trace_record.proofs.BaseWords.{◌⊎◌, ◌+◌, ◌&&◌, if◌then◌else◌, Shape, cases_Bool, false≢true, is_driver_kind, none-some, same_Some, set}
use Rattle.trace_record.proofs.BaseWords.{cases_lt, filter, le-leb, list_any, nat_le, place_count, position, range_with_len, unfinished, unfinished_positions}
use Rattle.trace_record.proofs.BaseWords.{Command, EventState, FollowsDevices, FollowsEvents, FollowsRegisters, FollowsTrace, FollowsUnfinished, HoldsAreas, HoldsSoiled, SoiledWords, TraceRecord, binds_ring, command_at, cond-true, device_context_bytes, device_contexts, eq-eqb, filter_map, has, input_context_bytes, inputs_of, is_being_bound, nothing, slice_get_within, slots}
use Rattle.segments.specs.Places.{place_of}
use Rattle.segments.specs.RingView.{RingView, declared, due_positions, floor_number}
use Rattle.segments.specs.Spots.{after, number}
use Rattle.segments.proofs.SpotOrder.{after_is}
use Rattle.segments.specs.Ceiling.{given_count}
use Rattle.traces.specs.Header.{id_of, is_ring}
use Rattle.ring_knowledge.specs.declared.ring_record.RingRecord.{RingRecord}
use Rattle.ring_knowledge.specs.Resets.{behind_blocks, given_up, held_at_given, reset}
use Rattle.ring_knowledge.specs.RingRecords.{FollowsRing}
use Rattle.ring_knowledge.proofs.GivenCount.{count_is}
use Rattle.ring_knowledge.proofs.GivenUp.{floor_within}
use Rattle.ring_knowledge.proofs.Noted.{noted_past}
use Rattle.ring_knowledge.proofs.Ranges.{filter_none, none_each}
use Rattle.ownership_rules.specs.Registers.{has_gap}
use Rattle.trace_record.specs.Premises.{CommandsDeclared}
use Rattle.trace_record.specs.RingFinder.RecordsOfRings.{FollowsRings}
use Rattle.trace_record.proofs.RingFinder.CommandRings.{command_id_is, command_number, commands_among}
use Rattle.trace_record.proofs.CommandRing.{command_follows, none_due}
use Rattle.trace_record.proofs.RingFinder.FoundRings.{command_found, no_command_ring}
use Rattle.trace_record.proofs.RingFinder.RingsApart.{other_number, same_number}

-- in a list with a new element at n
at_set : {X : Type 0} (xs : List X) (n i : ℕ) (y x : X) → slice_get (set xs n y) i ≡ Some x → ((i ≡ n) × (y ≡ x)) ⊎ ((i ≢ n) × (slice_get xs i ≡ Some x))
at_set [] n i y x e = absurd (none-some x e)
at_set (z ∷ xs) zero zero y x e = inl (refl, same_Some y x e)
at_set (z ∷ xs) zero (suc i) y x e = inr ((λ same. omega (arith, same)), e)
at_set (z ∷ xs) (suc n) zero y x e = inr ((λ same. omega (arith, same)), e)
at_set (z ∷ xs) (suc n) (suc i) y x e = search (rules, none-some, same_Some, at_set xs n i y x e)

pub past_set : {X : Type 0} (xs : List X) (n i : ℕ) (y : X) → n < i → slice_get (set xs n y) i ≡ slice_get xs i
past_set [] n i y past = refl
past_set (z ∷ xs) n zero y past = absurd (omega arith)
past_set (z ∷ xs) zero (suc i) y past = refl
past_set (z ∷ xs) (suc n) (suc i) y past = past_set xs n i y (omega arith)

module _ (h : Header) (headed : IsHeader h) (k : Known) where
  -- a ring of the header is the command ring by its ID just where it is by its kind
  named_command : (ring : Ring) → IsAmong ring h.rings → is_ring ring.id (id_of (command_ring h)) ≡ is_command_kind ring.shape.kind
  named_command ring among = elim (cases_Bool (is_command_kind ring.shape.kind)) [
    | inl command ↦ ap (λ o. is_ring ring.id (id_of o)) (command_found h headed ring among command) ∙ same_number ring.id ∙ sym command
    | inr other ↦ by other (command_ring h) refl ∙ sym other
  ]
    where
      by : is_command_kind ring.shape.kind ≡ false → (o : Option Ring) → command_ring h ≡ o → is_ring ring.id (id_of o) ≡ false
      by other None none = refl
      by other (Some c) there =
          let at = commands_among h c there in
          elim (same_or_apart h.rings (together h headed) c ring at.0 among) [
            | inl same ↦ absurd (false≢true (sym other ∙ ap (λ (q : Ring). is_command_kind q.shape.kind) same ∙ at.1))
            | inr apart ↦ other_number c.id ring.id apart.ids
          ]

  ring_reset : (ring : Ring) → IsAmong ring h.rings →
      (if is_command_kind ring.shape.kind then given_up ring.shape (k.ring ring.id) else held_at_given ring.shape (k.ring ring.id)) ≡ (reset h k).ring ring.id
  unfolding reset
  ring_reset ring among =
      let shape = shape_there h headed ring among in
      sym (ap (λ b. if b then given_up (shape_of h ring.id) (k.ring ring.id) else held_at_given (shape_of h ring.id) (k.ring ring.id)) (named_command ring among)
      ∙ ap (λ (s : Shape). if is_command_kind ring.shape.kind then given_up s (k.ring ring.id) else held_at_given s (k.ring ring.id)) shape)

  -- all that was given of it is declared
  ring_declared : CommandsDeclared h k → (ring : Ring) → IsAmong ring h.rings → is_command_kind ring.shape.kind ≡ true → given_count ring.shape (k.ring ring.id) ≤ declared (k.ring ring.id)
  ring_declared declared_ ring among command =
      let id = command_id_is h ring (command_found h headed ring among command) in
      subst (λ (s : Shape). given_count s (k.ring ring.id) ≤ declared (k.ring ring.id)) (shape_there h headed ring among)
      (subst (λ i. given_count (shape_of h i) (k.ring i) ≤ declared (k.ring i)) id declared_)

  module _ (records : List RingRecord) (f : FollowsRings h k records) (d : CommandsDeclared h k) where
    -- one more ring is reset
    pub one_reset : (now : List RingRecord) (n : ℕ) (ring : Ring) (old new : RingRecord) → slice_get h.rings n ≡ Some ring → slice_get records n ≡ Some old →
        ((v : RingView) → FollowsRing ring.shape v old → (is_command_kind ring.shape.kind ≡ true → given_count ring.shape v ≤ declared v) →
        FollowsRing ring.shape (if is_command_kind ring.shape.kind then given_up ring.shape v else held_at_given ring.shape v) new) →
        ((i : ℕ) (q : Ring) (r : RingRecord) → i < n → slice_get h.rings i ≡ Some q → slice_get now i ≡ Some r → is_driver_kind q.shape.kind ≡ true → FollowsRing q.shape ((reset h k).ring q.id) r) →
        (i : ℕ) (q : Ring) (r : RingRecord) → i < n + 1 → slice_get h.rings i ≡ Some q → slice_get (set now n new) i ≡ Some r → is_driver_kind q.shape.kind ≡ true → FollowsRing q.shape ((reset h k).ring q.id) r
    one_reset now n ring old new here there step before i q r low at is driver = elim (at_set now n i new r is) [
      | inr other ↦ before i q r (omega (arith, low, other.0)) at other.1 driver
      | inl same ↦
          let one : ring ≡ q = same_Some ring q (sym here ∙ ap (slice_get h.rings) (sym same.0) ∙ at) in
          let among = among_at h.rings n ring here in
          let driven : is_driver_kind ring.shape.kind ≡ true = ap (λ (x : Ring). is_driver_kind x.shape.kind) one ∙ driver in
          subst (λ (x : RingRecord). FollowsRing q.shape ((reset h k).ring q.id) x) same.1
          (subst (λ (x : Ring). FollowsRing x.shape ((reset h k).ring x.id) new) one
          (subst (λ (v : RingView). FollowsRing ring.shape v new) (ring_reset ring among) (step (k.ring ring.id) (f.each n ring old here there driven) (ring_declared d ring among))))
    ]

-- ---- no command is unfinished

number_after : (shape : Shape) (p : ℕ) → number (after shape p) ≡ p + 1
number_after shape p = grind (arith, after_is)

number_behind : (shape : Shape) (n : ℕ) → number (behind_blocks shape n) ≡ n
unfolding behind_blocks
number_behind shape zero = refl
number_behind shape (suc p) = number_after shape p ∙ omega arith

module _ (shape : Shape) (v : RingView) (r : RingRecord) (known : FollowsRing shape v r) (gapless : list_any (λ p. v.given p && nat_le (given_count shape v) p) (due_positions shape v) ≡ false) where
  none_given : filter v.given (range_with_len (given_count shape v) (place_count shape)) ≡ []
  unfolding due_positions
  none_given = filter_none v.given (given_count shape v) (place_count shape) (λ p low high. elim (cases_lt p (floor_number v + place_count shape)) [
    | inl within ↦
        not_given (v.given p) (nat_le (given_count shape v) p) (le-leb (given_count shape v) p low)
        (none_each (λ q. v.given q && nat_le (given_count shape v) q) (floor_number v) (place_count shape) gapless p (omega (arith, low, floor_within shape v r known, count_is shape v r known)) within)
    | inr past ↦ known.marks.given p ∙ noted_past (floor_number v) (place_count shape) r.given.items (place_of shape p) p past
  ])
    where
      not_given : (a b : Bool) → b ≡ true → (a && b) ≡ false → a ≡ false
      not_given a b h both = grind arith

  given_none : filter (given_up shape v).given (due_positions shape (given_up shape v)) ≡ []
  unfolding given_up due_positions
  given_none = ap (λ n. filter v.given (range_with_len n (place_count shape))) (number_behind shape (given_count shape v)) ∙ none_given

some_at : {X : Type 0} (xs : List X) (i : ℕ) → i < length xs → (x : X) × (slice_get xs i ≡ Some x)
some_at [] i low = absurd (omega arith)
some_at (x ∷ xs) zero low = (x, refl)
some_at (x ∷ xs) (suc i) low = some_at xs i (omega arith)

module _ (h : Header) (headed : IsHeader h) (k : Known) where
  commands_reset : (c : Ring) → command_ring h ≡ Some c → (reset h k).ring (command_id h) ≡ given_up (shape_of h (command_id h)) (k.ring (command_id h))
  unfolding reset
  commands_reset c there =
      cond-true (is_ring (command_id h) (id_of (command_ring h))) _ _
      (ap (λ o. is_ring (command_id h) (id_of o)) there ∙ eq-eqb c.id (command_id h) (sym (command_id_is h c there)))

  pub none_unfinished : (records : List RingRecord) → FollowsRings h k records → has_gap h k ≡ false → unfinished h (reset h k) ≡ []
  unfolding unfinished unfinished_positions has_gap
  none_unfinished records f gapless = by (position (λ q. is_command_kind q.shape.kind) h.rings) refl
    where
      by : (o : Option ℕ) → position (λ q. is_command_kind q.shape.kind) h.rings ≡ o → unfinished h (reset h k) ≡ []
      by None none =
          ap (λ ps. filter_map (command_at h (reset h k)) (filter ((reset h k).ring (command_id h)).given ps)) (none_due h headed k (no_command_ring h none) ((reset h k).ring (command_id h)))
      by (Some n) is =
          let c = command_number h headed n is in
          let r = some_at records n (omega (arith, f.as_many, slice_get_within h.rings n c.ring c.at)) in
          let known = command_follows h headed k records f n r.0 is r.1 in
          ap (λ (v : RingView). filter_map (command_at h (reset h k)) (filter v.given (due_positions (shape_of h (command_id h)) v))) (commands_reset c.ring c.there)
          ∙ ap (filter_map (command_at h (reset h k))) (given_none (shape_of h (command_id h)) (k.ring (command_id h)) r.0 known gapless)

  none_bound : unfinished h (reset h k) ≡ [] → (r : ℕ) → false ≡ is_being_bound h (reset h k) r
  unfolding is_being_bound
  none_bound none r = sym (ap (λ cs. list_any (binds_ring h (reset h k) r) cs) none)

  no_contexts : [] ≡ device_contexts (reset h k)
  unfolding reset slots
  no_contexts = refl

  none_read : (o : Option EventState) → FollowsEvents h nothing o → FollowsEvents h (reset h k) o
  unfolding nothing reset
  none_read None f = f
  none_read (Some e) f = record { here = f.here; shape = f.shape; reads = f.reads; dequeue = f.dequeue }

  same_memory : (reset h k).memory ≡ k.memory
  unfolding reset
  same_memory = refl

  same_soiled : (reset h k).soiled ≡ k.soiled
  unfolding reset
  same_soiled = refl

  -- the record behind it
  pub reset_followed : (t u : TraceRecord) (m : ℕ → ℕ) → FollowsTrace h k t m → has_gap h k ≡ false → FollowsRings h (reset h k) u.rings.items → FollowsRegisters (reset h k) u.registers →
      FollowsEvents h nothing u.events → FollowsDevices (reset h k) u.devices → FollowsUnfinished [] u.commands → ((r : ℕ) → has u.bound r ≡ false) →
      HoldsAreas (input_context_bytes h.context_size) [] u.inputs → HoldsAreas (device_context_bytes h.context_size) [] u.contexts → u.soiled ≡ t.soiled → FollowsTrace h (reset h k) u m
  reset_followed t u m f gapless rings registers events devices commands bound inputs contexts soiled =
      let none = none_unfinished t.rings.items f.rings gapless in
      record {
        words = λ a. ap (λ (g : ℕ → ℕ). g a) same_memory ∙ f.words a;
        rings = rings;
        registers = registers;
        events = none_read u.events events;
        devices = devices;
        commands = subst (λ (cs : List Command). FollowsUnfinished cs u.commands) (sym none) commands;
        bound = λ r. bound r ∙ none_bound none r;
        inputs = subst (λ (cs : List Command). HoldsAreas (input_context_bytes h.context_size) (inputs_of cs) u.inputs) (sym none) inputs;
        contexts = subst (λ (places : List ℕ). HoldsAreas (device_context_bytes h.context_size) places u.contexts) no_contexts contexts;
        soiled = subst (λ (s : SoiledWords). HoldsSoiled (reset h k).soiled s) (sym soiled) (subst (λ (g : ℕ → Bool). HoldsSoiled g t.soiled) (sym same_soiled) f.soiled);
      }
