-- What the record of a trace holds after rings and endpoints have changed
pub use Rattle.trace_record.proofs.RingFinder.CommandRings.{command_id_is, found_at}
use Rattle.driver_rows.proofs.LowerLaws.{rules, ◌≡◌, ◌≢◌, ◌≤◌, ℕ, List, Bool, true, false, Some, None, ap, sym, ◌∙◌, arith, inl, inr, set, subst, length, slice_get, position, and_parts, length-set, same_Some, none-some, slice_get_cases, slice_get_within, is_off, EndpointState, put_pair, RingView, RingChange, changed, Ring, Header, IsHeader, is_driver_kind, RingRecord, FollowsRing, Known, on_ring, unfinished, FollowsDevices, ring_elsewhere, FollowsRings, IsAmong, among_at, each_among, numbers_apart, together, shape_there, position-None, TraceRecord, FollowsTrace, binds_same, bound_same, Apart, SameRegisters, at_set, registers_still, events_still}
use Rattle.trace_record.proofs.DeviceSlots.UnfinishedSame.{ring_here}

-- ---- the records of rings

-- past the end of a list there is nothing
pub none_past : {X : Type 0} (xs : List X) (n : ℕ) → length xs ≤ n → slice_get xs n ≡ None
none_past xs n past = search (rules, slice_get_cases)

-- there is a record of each ring
pub has_record : (h : Header) (k : Known) (items : List RingRecord) → FollowsRings h k items → (n : ℕ) (ring : Ring) → slice_get h.rings n ≡ Some ring → (r : RingRecord) × (slice_get items n ≡ Some r)
has_record h k items f n ring at =
    elim (slice_get_cases items n).1 [ inl found ↦ (found.0, found.2) | inr past ↦ absurd (omega (arith, f.as_many, past.0, slice_get_within h.rings n ring at)) ]

-- of all other rings the same is known
abbrev pub IsOnly : Known → Known → ℕ → Type 0
IsOnly k l r = (q : ℕ) → q ≢ r → l.ring q ≡ k.ring q

module _ (h : Header) (headed : IsHeader h) (k l : Known) (items : List RingRecord) (f : FollowsRings h k items) where
  -- the same is known of all rings of the header
  pub rings_same : ((q : Ring) → IsAmong q h.rings → l.ring q.id ≡ k.ring q.id) → FollowsRings h l items
  rings_same same =
      record { as_many = f.as_many; each = λ i q r at is d. subst (λ (v : RingView). FollowsRing q.shape v r) (sym (same q (among_at h.rings i q at))) (f.each i q r at is d) }

  module _ (n : ℕ) (ring : Ring) (at : slice_get h.rings n ≡ Some ring) where
    -- a new record of one ring, where those of all others still follow
    pub rings_noted : ((q : Ring) → IsAmong q h.rings → Apart q ring → (r : RingRecord) → FollowsRing q.shape (k.ring q.id) r → FollowsRing q.shape (l.ring q.id) r) →
        (new : RingRecord) → (is_driver_kind ring.shape.kind ≡ true → FollowsRing ring.shape (l.ring ring.id) new) → FollowsRings h l (set items n new)
    rings_noted others new here = record {
      as_many = length-set items n new ∙ f.as_many;
      each = λ i q r there is driver. elim (at_set items n i new r is) [
        | inl same ↦
            let one : q ≡ ring = same_Some q ring (sym there ∙ ap (λ j. slice_get h.rings j) same.0 ∙ at) in
            subst (λ (x : RingRecord). FollowsRing q.shape (l.ring q.id) x) same.1
            (subst (λ (y : Ring). FollowsRing y.shape (l.ring y.id) new) (sym one) (here (ap (λ (y : Ring). is_driver_kind y.shape.kind) (sym one) ∙ driver)))
        | inr other ↦ others q (among_at h.rings i q there) (numbers_apart h.rings (together h headed) i n q ring there at other.0) r (f.each i q r there other.1 driver)
      ];
    }

    module _ (only : IsOnly k l ring.id) where
      pub rings_with : (new : RingRecord) → (is_driver_kind ring.shape.kind ≡ true → FollowsRing ring.shape (l.ring ring.id) new) → FollowsRings h l (set items n new)
      rings_with = rings_noted (λ q among apart r g. subst (λ (v : RingView). FollowsRing q.shape v r) (sym (only q.id apart.ids)) g)

      -- none of one that is none of the records
      pub rings_without : slice_get items n ≡ None → FollowsRings h l items
      rings_without none = record {
        as_many = f.as_many;
        each = λ i q r there is driver.
            subst (λ (v : RingView). FollowsRing q.shape v r)
            (sym (only q.id (numbers_apart h.rings (together h headed) i n q ring there at (λ same. none-some r (sym none ∙ ap (λ j. slice_get items j) (sym same) ∙ is))).ids)) (f.each i q r there is driver);
      }

-- no ring that a search has not found
pub none_found : (p : Ring → Bool) (rs : List Ring) → position p rs ≡ None → (q : Ring) → IsAmong q rs → p q ≡ false
none_found p rs none = each_among p rs (λ i d below. position-None p rs i d none below)

-- something happens on one ring
module _ (h : Header) (headed : IsHeader h) (k : Known) (n : ℕ) (ring : Ring) (at : slice_get h.rings n ≡ Some ring) (change : RingChange) where
  pub only_on : IsOnly k (on_ring h k ring.id change) ring.id
  only_on q other = ring_elsewhere h k ring.id q change other

  pub here_on : (on_ring h k ring.id change).ring ring.id ≡ changed ring.shape (k.ring ring.id) change
  here_on = ring_here h k ring.id change ∙ ap (λ s. changed s (k.ring ring.id) change) (shape_there h headed ring (among_at h.rings n ring at))

-- ---- the whole record

-- all but rings and endpoints is as it was
pub record IsBeside (k l : Known) : Type 0 where
  pub memory : l.memory ≡ k.memory
  pub started : l.started ≡ k.started
  pub stopped : l.stopped ≡ k.stopped
  pub halt : l.halt ≡ k.halt
  pub register : l.register ≡ k.register
  pub reads : l.reads ≡ k.reads
  pub dequeue : l.dequeue ≡ k.dequeue
  pub device : l.device ≡ k.device
  pub soiled : l.soiled ≡ k.soiled

-- the same default control endpoints are off
abbrev pub AreOffAs : Known → Known → Type 0
AreOffAs k l = (s : ℕ) → is_off (l.endpoint_state s 1) ≡ is_off (k.endpoint_state s 1)

-- where one endpoint that is on gets another state in which it is
pub put_on : (f : ℕ → ℕ → EndpointState) (s i : ℕ) (state : EndpointState) → is_off (f s i) ≡ false → is_off state ≡ false → (q : ℕ) → is_off (put_pair f s i state q 1) ≡ is_off (f q 1)
put_on f s i state before after q = search (rules, and_parts)

module _ (h : Header) (k l : Known) (t : TraceRecord) (m : ℕ → ℕ) (f : FollowsTrace h k t m) (b : IsBeside k l) (off : AreOffAs k l) (same : unfinished h l ≡ unfinished h k) where
  same_registers : SameRegisters k l
  same_registers = record { started = b.started; stopped = b.stopped; halt = b.halt; register = b.register; reads = b.reads; dequeue = b.dequeue }

  pub followed : (after : TraceRecord) → after ≡ record t { rings = after.rings; devices = after.devices } → FollowsRings h l after.rings.items → FollowsDevices l after.devices → FollowsTrace h l after m
  followed after is rings devices = search (rules, registers_still, same_registers, events_still, bound_same, binds_same)
