-- Before the first row, and what a search through the rings finds
use Rattle.trace_record.proofs.MiddleLaws.{rules, ◌≡◌, ◌+◌, ◌<◌, ◌∷◌, ◌++◌, ◌∙◌, ◌⊎◌, ℕ, List, [], true, false, Some, None, refl, ap, sym, inl, inr, length, get_or, subst, length-append, slice_get, is_some, slice_get_read, new_ring, due_positions, Ring, Header, IsHeader, is_event_kind, event_shape, event_ring, shape_or, shape_of, command_id, RingRecord, FollowsRing, nothing, FollowsTrace, FollowsEvents, FollowsPlace, inputs_of, device_contexts, list_any, AreFresh, IsFreshSo, EventState, FollowsDevices, FollowsRegisters, TraceRecord, among_at, each_among, not_found, event_found, filter_nothing, device_context_bytes, input_context_bytes, FollowsUnfinished, unfinished, unfinished_positions, SoiledWords, HoldsAreas, HoldsSoiled, slots, Command, binds_ring, is_being_bound, has}

-- in a list with a new element at the end
at_push : {X : Type 0} (xs : List X) (y : X) (i : ℕ) (x : X) → slice_get (xs ++ y ∷ []) i ≡ Some x → (slice_get xs i ≡ Some x) ⊎ ((i ≡ length xs) × (y ≡ x))
at_push [] y i x e = search rules
at_push (z ∷ xs) y i x e = search (rules, at_push xs y)

-- a record of each ring so far
pub fresh_push : (rings : List Ring) (records : List RingRecord) (ring : Ring) (i : ℕ) (r : RingRecord) → IsFreshSo rings records i → ring ≡ get_or rings i ring → i < length rings →
    FollowsRing ring.shape new_ring r → IsFreshSo rings (records ++ r ∷ []) (i + 1)
fresh_push rings records ring i r so item below fresh = record {
  as_many = length-append records (r ∷ []) ∙ ap (λ n. n + 1) so.as_many;
  each = λ j q x at there. elim (at_push records r j x there) [
    | inl old ↦ so.each j q x at old
    | inr new ↦ search (rules, slice_get, slice_get_read, length, new_ring)
  ];
}

blank_memory : (a : ℕ) → nothing.memory a ≡ 0
unfolding nothing
blank_memory a = refl

first_ring : (r : ℕ) → nothing.ring r ≡ new_ring
unfolding nothing
first_ring r = refl

first_soiled : (s : SoiledWords) → HoldsSoiled (λ a. false) s → HoldsSoiled nothing.soiled s
unfolding nothing
first_soiled s held = held

nothing_unfinished : (h : Header) → [] ≡ unfinished h nothing
unfolding nothing unfinished unfinished_positions
nothing_unfinished h = rw (filter_nothing (λ p. false) (λ p. refl) (due_positions (shape_of h (command_id h)) new_ring)) refl

none_bound : (h : Header) (r : ℕ) → false ≡ is_being_bound h nothing r
unfolding is_being_bound
none_bound h r = ap (λ cs. list_any (binds_ring h nothing r) cs) (nothing_unfinished h)

no_contexts : [] ≡ device_contexts nothing
unfolding nothing slots
no_contexts = refl

-- before the first row
pub follows_first : (h : Header) (t : TraceRecord) → AreFresh h.rings t.rings.items → FollowsRegisters nothing t.registers → FollowsEvents h nothing t.events → FollowsDevices nothing t.devices →
    FollowsUnfinished [] t.commands → ((r : ℕ) → has t.bound r ≡ false) → HoldsAreas (input_context_bytes h.context_size) [] t.inputs → HoldsAreas (device_context_bytes h.context_size) [] t.contexts → HoldsSoiled (λ a. false) t.soiled →
    (m : ℕ → ℕ) → ((a : ℕ) → m a ≡ 0) → FollowsTrace h nothing t m
follows_first h t fresh registers_ events_ devices_ commands_ bound_ inputs_ contexts_ soiled_ m blank = record {
  words = λ a. blank_memory a ∙ sym (blank a);
  rings = record { as_many = fresh.as_many; each = λ i q r at there driver. rw (first_ring q.id) (fresh.each i q r at there) };
  registers = registers_;
  events = events_;
  devices = devices_;
  commands = subst (λ (cs : List Command). FollowsUnfinished cs t.commands) (nothing_unfinished h) commands_;
  bound = λ r. bound_ r ∙ none_bound h r;
  inputs = subst (λ (cs : List Command). HoldsAreas (input_context_bytes h.context_size) (inputs_of cs) t.inputs) (nothing_unfinished h) inputs_;
  contexts = subst (λ (places : List ℕ). HoldsAreas (device_context_bytes h.context_size) places t.contexts) no_contexts contexts_;
  soiled = first_soiled t.soiled soiled_;
}

-- the event ring with nothing read
pub place_first : (h : Header) → IsHeader h → (i : ℕ) (r : Ring) → r ≡ get_or h.rings i r → i < length h.rings → is_event_kind r.shape.kind ≡ true → (e : EventState) → e.shape ≡ r.shape →
    e.counts ≡ record { posted = 0; reads = 0; dequeue = 0 } → FollowsPlace h nothing e
unfolding nothing event_shape
place_first h headed i r item below event e shape_ counts = search (rules, among_at, slice_get_read, length, event_found, is_some, shape_or)

pub no_event_ring : (h : Header) → ((i : ℕ) (d : Ring) → i < length h.rings → is_event_kind (get_or h.rings i d).shape.kind ≡ false) → event_ring h ≡ None
unfolding event_ring
no_event_ring h none = not_found (λ q. is_event_kind q.shape.kind) h.rings (each_among (λ q. is_event_kind q.shape.kind) h.rings none)
