-- What is lent after an event but a completion: a Transfer Event ends the leases of what its ring passes
use Rattle.leases.proofs.UpperLaws.{◌≡◌, ◌≢◌, ◌+◌, ◌≤◌, ◌∙◌, ◌==◌, ℕ, List, true, false, None, Some, Option, refl, ap, sym, arith, subst, map, position, option_map, and_parts, BlockKind, TransferEvent, CommandCompletion, code, endpoint, kind, slot, is_transfer_event, is_of_service, is_stopping, is_success, Spot, Shape, number, RingKeeps, floor_number, Ring, Header, Read, IsHeader, driver_rings, is_driver_kind, ring_with, shape_of, Known, event_read, learned, RingSpot, code_told, event_at, spot_on, transfer_read, transferred_at, is_among, open_leases, IsIn, DriverKeeps, IsDriverRing, IsTransferRing, transfer_driver, transfer_not_command, come_to, Lent, ended_where, is_passed, RangeIndexes, none_here, not_found, ring_found, shape_there, false_unless, IsAmong, TraceRecord, HoldsAll, IsNextRow, grown, rules, IsWithinLap, nothing_new, command_same, entries_kept, open_same, transfer_lent, from_drivers, if◌then◌else◌, Bool, inl, inr, ◌&&◌, [], ◌∷◌, nat_tests, cases_Bool, has_isoch, counted_code, Leased}
use Rattle.trb.specs.declared.block.Block as blocks
use Rattle.segments.specs.Ceiling.{named_by}
use Rattle.ring_knowledge.specs.Rings.{spot_named}
use Rattle.safety.proofs.Reports.NamedData.{spot_ahead}

-- one event more was read
counted_same : (h : Header) (k : Known) → open_leases h (record k { reads = k.reads + 1 }) ≡ open_leases h k
counted_same h k = search (rules, open_same, command_same, entries_kept)

-- the ring of the driver with its ID
pub driver_there : (h : Header) → IsHeader h → (q : Ring) → IsIn q (driver_rings h) → IsDriverRing h q.id
driver_there h headed q at = let found = from_drivers h q at in record { ring = q; found = ring_found h headed q found.0; kind = found.1 }

-- a lap ahead nothing is given
pub lap_now : (h : Header) → IsHeader h → (k : Known) → DriverKeeps h k → (q : Ring) → IsIn q (driver_rings h) → IsWithinLap q.shape (k.ring q.id)
lap_now h headed k d q at =
    let keeps : RingKeeps q.shape k.memory (k.ring q.id) = subst (λ (s : Shape). RingKeeps s k.memory (k.ring q.id)) (shape_there h headed q (from_drivers h q at).0) (d.rings q.id (driver_there h headed q at)) in
    search (rules, false_unless, keeps.given_within, keeps.crossed_within, and_parts)

-- to come on is to come not back
pub comes_on : (c : ℕ) (t : Spot) (floor : ℕ) → floor ≤ number t → floor ≤ come_to c t floor
unfolding come_to
comes_on c t floor ahead = search (rules, is_success, number, is_stopping)

is_transfer : (n : BlockKind) → is_transfer_event n ≡ true → n ≡ TransferEvent
is_transfer n e = grind arith

spot_found : (h : Header) (k : Known) (b : blocks.Block) (o : Option ℕ) (r : ℕ) (t : Spot) → o ≡ Some r → spot_named h k b r ≡ Some t → spot_on h k b o ≡ Some (record { ring = r; spot = t })
unfolding spot_on
spot_found h k b o r t some is = ap (spot_on h k b) some ∙ ap (option_map (λ (u : Spot). let x : RingSpot = record { ring = r; spot = u } in x)) is

spot_none : (h : Header) (k : Known) (b : blocks.Block) (o : Option ℕ) (r : ℕ) → o ≡ Some r → spot_named h k b r ≡ None → spot_on h k b o ≡ None
unfolding spot_on
spot_none h k b o r some is = ap (spot_on h k b) some ∙ ap (option_map (λ (u : Spot). let x : RingSpot = record { ring = r; spot = u } in x)) is

no_ring_spot : (h : Header) (k : Known) (b : blocks.Block) (o : Option ℕ) → o ≡ None → spot_on h k b o ≡ None
unfolding spot_on
no_ring_spot h k b o none = ap (spot_on h k b) none

-- by a code that tells of the service of an endpoint the controller stays where it stood
served : (isochronous : Bool) (c : ℕ) → is_of_service c ≡ true → (t : Spot) (floor : ℕ) → come_to (counted_code isochronous c) t floor ≡ floor
unfolding come_to
served isochronous c serves t floor = grind (arith, nat_tests)

-- on the way from a number to itself nothing is passed
none_passed : (r n : ℕ) (l : Leased) → is_passed r n n l ≡ false
none_passed r n l = grind (arith, nat_tests)

none_ends : (r n row : ℕ) (ts : List Lent) → map (ended_where (is_passed r n n) row) ts ≡ ts
unfolding ended_where
none_ends r n row [] = refl
none_ends r n row (t ∷ ts) = search (rules, none_passed, none_ends r n row ts)

-- no spot, whichever test says so
either : {A : Type 0} (b : Bool) (o : Option A) → o ≡ None → (if b then None else o) ≡ None
either true o none = refl
either false o none = none

-- the ring of an endpoint is one of the header
pub ring_of_header : (h : Header) (k : Known) → DriverKeeps h k → (s i r : ℕ) → k.ring_of s i ≡ Some r → position (λ (q : Ring). q.id == r) h.rings ≡ None → ⊥
ring_of_header h k d s i r at none = grind (arith, ring_with, not_found, none_here, d.states.transfer s i r at, not_found (λ q. q.id == r) h.rings (none_here h (λ q. q.id == r) h.rings none refl))

module _ (h : Header) (headed : IsHeader h) (k : Known) (ts : List Lent) (b : blocks.Block) (number_ : ℕ) (t : TraceRecord) (m : ℕ → ℕ) (next : IsNextRow h k ts (Read b) t m) where
  pub keeps : DriverKeeps h k
  keeps = next.keeps

  -- an event that says nothing of a ring
  pub quiet : event_read h k (kind b) b ≡ k → grown h k (Read b) number_ ts ≡ ts
  unfolding learned
  quiet is = nothing_new h k ts next.step.opened (Read b) number_ (λ l. ap (λ (x : Known). is_among (open_leases h (record x { reads = k.reads + 1 })) l) is ∙ ap (λ ls. is_among ls l) (counted_same h k))

  pub other_lent : is_transfer_event (kind b) ≡ false → kind b ≢ CommandCompletion → grown h k (Read b) number_ ts ≡ ts
  unfolding event_read
  other_lent e f = quiet (grind arith)

  unnamed : is_transfer_event (kind b) ≡ true → event_at h k b ≡ None → event_read h k (kind b) b ≡ k
  unfolding event_read transfer_read transferred_at
  unnamed transfers none = ap (λ n. event_read h k n b) (is_transfer (kind b) transfers) ∙ ap (transferred_at h k b) none

  -- one that tells of the service of its endpoint
  pub service_lent : is_transfer_event (kind b) ≡ true → is_of_service (code b) ≡ true → grown h k (Read b) number_ ts ≡ ts
  unfolding event_at
  service_lent transfers serves = quiet (unnamed transfers (rw serves refl))

  told_served : is_of_service (code b) ≡ true → (spot : Spot) (floor : ℕ) → come_to (code_told h k b) spot floor ≡ floor
  unfolding code_told
  told_served serves spot floor = served (has_isoch h.version && k.isochronous (slot b) (endpoint b)) (code b) serves spot floor

  pub unbound_lent : is_transfer_event (kind b) ≡ true → k.ring_of (slot b) (endpoint b) ≡ None → grown h k (Read b) number_ ts ≡ ts
  unfolding event_at
  unbound_lent transfers none = quiet (unnamed transfers (either (is_of_service (code b)) _ (no_ring_spot h k b (k.ring_of (slot b) (endpoint b)) none)))

  module _ (transfers : is_transfer_event (kind b) ≡ true) (r : ℕ) (of : k.ring_of (slot b) (endpoint b) ≡ Some r) (q : Ring) (among : IsAmong q h.rings) (id : q.id ≡ r) where
    here : k.ring_of (slot b) (endpoint b) ≡ Some q.id
    here = of ∙ ap (λ (x : ℕ). Some x) (sym id)

    transfer : IsTransferRing h q.id
    transfer = keeps.states.transfer (slot b) (endpoint b) q.id here

    keeps_there : RingKeeps (shape_of h q.id) k.memory (k.ring q.id)
    keeps_there = keeps.rings q.id (transfer_driver h q.id transfer)

    pub ring_keeps : RingKeeps q.shape k.memory (k.ring q.id)
    ring_keeps = subst (λ (s : Shape). RingKeeps s k.memory (k.ring q.id)) (shape_there h headed q among) keeps_there

    pub driver_kind : is_driver_kind q.shape.kind ≡ true
    driver_kind = search (rules, transfer_driver, transfer, ring_found, is_driver_kind, kind)

    named_here : (o : Option Spot) → named_by q.shape (k.ring q.id) b ≡ o → spot_named h k b q.id ≡ o
    unfolding spot_named
    named_here o is = ap (λ s. named_by s (k.ring q.id) b) (shape_there h headed q among) ∙ is

    pub unnamed_lent : named_by q.shape (k.ring q.id) b ≡ None → grown h k (Read b) number_ ts ≡ ts
    unfolding event_at
    unnamed_lent none = quiet (unnamed transfers (either (is_of_service (code b)) _ (spot_none h k b (k.ring_of (slot b) (endpoint b)) q.id here (named_here None none))))

    module _ (spot : Spot) (is : named_by q.shape (k.ring q.id) b ≡ Some spot) where
      pub comes : floor_number (k.ring q.id) ≤ come_to (code_told h k b) spot (floor_number (k.ring q.id))
      comes = comes_on (code_told h k b) spot (floor_number (k.ring q.id)) (spot_ahead h k b q.id spot keeps_there (named_here (Some spot) is)).from

      found : is_of_service (code b) ≡ false → event_at h k b ≡ Some (record { ring = q.id; spot = spot })
      unfolding event_at
      found other = rw other (spot_found h k b (k.ring_of (slot b) (endpoint b)) q.id spot here (named_here (Some spot) is))

      passed_lent : grown h k (Read b) number_ ts ≡ map (ended_where (is_passed q.id (floor_number (k.ring q.id)) (come_to (code_told h k b) spot (floor_number (k.ring q.id)))) number_) ts
      passed_lent = elim (cases_Bool (is_of_service (code b))) [
        | inl serves ↦
            service_lent transfers serves
            ∙ sym (ap (λ n. map (ended_where (is_passed q.id (floor_number (k.ring q.id)) n) number_) ts) (told_served serves spot (floor_number (k.ring q.id))) ∙ none_ends q.id (floor_number (k.ring q.id)) number_ ts)
        | inr other ↦ search (
          rules,
          transfer_lent h k ts next.step.opened b number_ (record { ring = q.id; spot = spot }),
          is_transfer,
          found other,
          transfer_not_command,
          transfer,
          comes,
          lap_now,
          keeps,
        )
      ]

      module _ {B : Type 0} {Holds : Header → List Lent → B → Type 0} where
        pub transfer_ends : (book : B) (x : RangeIndexes) (from to : ℕ) → from ≡ floor_number (k.ring q.id) → to ≡ come_to (code_told h k b) spot (floor_number (k.ring q.id)) →
            HoldsAll Holds h (map (ended_where (is_passed q.id from to) number_) ts) book x → HoldsAll Holds h (grown h k (Read b) number_ ts) book x
        transfer_ends book x from to same reached all = rw passed_lent (rw (same, reached) at all)
