-- What ends with a ring that goes, as a log is told of it; and what the rules of rings say
use Rattle.leases.proofs.UpperLaws.{arith, ◌≡◌, ◌≢◌, ◌||◌, ◌∙◌, ℕ, true, false, List, [], None, Some, map, refl, sym, ap, inl, inr, ne_eqb, cases_Bool, false≢true, or_false, Header, IsHeader, Ring, RingKind, Known, Evt, RingRow, FreeRow, IsIn, driver_rings, is_driver_kind, from_filter, ring_with, open_leases, segment_ranges, Leased, is_among, among_is, in_among, is_input_context, is_of_ring, Lent, AreOpen, ended_where, in_turn, lenient, is_bad_free, is_bad_ring, is_event_kind, Cmd, Xfer, false_from_ne_true, goes_badly, lenient_tests, tests_fail, InOn, block, link, all_twice, ended_alike, over_alike, IsRange, each_open, open_are_ranges, from_turn, is_segment, open_segment, segments_are, to_turn, IsAmong, ◌==◌, among_at, eqb-true, get_or, position, ring_found, ring_here, slice_get}
use Rattle.leases.proofs.RingLeases.OpenBehind.{is_over}
use Rattle.safety.proofs.RingChanges.LeftOut as left

pub coming_good : (h : Header) (k : Known) (ring : Ring) → lenient h k (RingRow ring) ≡ [] → is_bad_ring h k ring ≡ false
unfolding lenient_tests
coming_good h k ring clean = (tests_fail h k (RingRow ring) clean).0

pub going_good : (h : Header) (k : Known) (id : ℕ) → lenient h k (FreeRow id) ≡ [] → is_bad_free h k id ≡ false
unfolding lenient_tests
going_good h k id clean = (tests_fail h k (FreeRow id) clean).0

-- the ring with an ID, where it is looked up
pub record RingAt (h : Header) (id n : ℕ) (q : Ring) : Type 0 where
  pub at : slice_get h.rings n ≡ Some q
  pub among : IsAmong q h.rings
  pub same : q.id ≡ id
  pub found : ring_with h id ≡ Some q

pub ring_at : (h : Header) → IsHeader h → (id n : ℕ) (q : Ring) → position (λ (r : Ring). r.id == id) h.rings ≡ Some n → q ≡ get_or h.rings n q → RingAt h id n q
ring_at h is id n q named item =
    let here = ring_here h (λ r. r.id == id) h.rings n q named refl item in
    let among = among_at h.rings n q here.0 in
    let same : q.id ≡ id = eqb-true q.id id here.1 in
    record { at = here.0; among = among; same = same; found = ap (ring_with h) (sym same) ∙ ring_found h is q among }

-- a ring that isn't there doesn't go
pub none_goes : (h : Header) (k : Known) (id : ℕ) → is_bad_free h k id ≡ false → ring_with h id ≡ None → ⊥
unfolding is_bad_free goes_badly
none_goes h k id good none = false≢true (sym good ∙ ap (goes_badly h k id) none)

pub event_kind : (kind : RingKind) → is_event_kind kind ≡ true → kind ≡ Evt
event_kind kind is = grind (arith, false≢true)

module _ (h : Header) (is : IsHeader h) (k : Known) (id : ℕ) (q : Ring) (found : ring_with h id ≡ Some q) (n : ℕ) (ts : List Lent) where
  abbrev ended : List Lent
  ended = map (ended_where (is_over q.shape.kind id) n) ts

  over_now : (kind : RingKind) → q.shape.kind ≡ kind → map (ended_where (is_over kind id) n) ts ≡ ended
  over_now kind same = ap (λ (x : RingKind). map (ended_where (is_over x id) n) ts) (sym same)

  pub transfer_over : q.shape.kind ≡ Xfer → map (ended_where (is_of_ring id) n) ts ≡ ended
  transfer_over kind = over_alike (is_of_ring id) (is_over Xfer id) n ts (λ l. refl) ∙ over_now Xfer kind

  pub command_over : q.shape.kind ≡ Cmd → map (ended_where (is_of_ring id) n) (map (ended_where is_input_context n) ts) ≡ ended
  command_over kind = all_twice (is_of_ring id) is_input_context n ts ∙ over_now Cmd kind

  -- no lease is of the event ring's ID
  another : q.shape.kind ≡ Evt → (x : Ring) → IsIn x (driver_rings h) → x.id ≢ id
  unfolding driver_rings
  another kind x at same =
      let was = from_filter (λ r. is_driver_kind r.shape.kind) h.rings x at in
      false≢true (sym (ap is_driver_kind kind) ∙ ap (λ (r : Ring). is_driver_kind r.shape.kind) (sym (left.only_one h is id q found x was.0 same)) ∙ was.1)

  of_another : (x : Ring) (l : Leased) → x.id ≢ id → InOn x (k.ring x.id) l → is_of_ring id l ≡ false
  of_another x _ other (block p low high given) = ne_eqb x.id id other
  of_another x _ other (link c low high crossed) = ne_eqb x.id id other

  of_range : (l : Leased) → IsRange l → is_of_ring id l ≡ false
  of_range l range = grind arith

  none_of_ring : q.shape.kind ≡ Evt → (l : Leased) → is_among (open_leases h k) l ≡ true → is_of_ring id l ≡ false
  none_of_ring kind = each_open h k (λ l. is_of_ring id l ≡ false) (λ x at l on_it. of_another x l (another kind x at) on_it) (λ l at. of_range l (open_are_ranges h k l at))

  among_segments : (l : Leased) → is_among (open_leases h k) l ≡ true → is_among (in_turn (segment_ranges h)) l ≡ is_segment l
  among_segments l is_open = elim (cases_Bool (is_segment l)) [
    | inl segment ↦ in_among (in_turn (segment_ranges h)) l (to_turn (segment_ranges h) l (open_segment h k l (among_is (open_leases h k) l is_open) segment)) ∙ sym segment
    | inr other ↦
        false_from_ne_true (is_among (in_turn (segment_ranges h)) l) (λ among.
        false≢true (sym other ∙ segments_are h l (from_turn (segment_ranges h) l (among_is (in_turn (segment_ranges h)) l among))))
        ∙ sym other
  ]

  pub event_over : AreOpen h k ts → q.shape.kind ≡ Evt → map (ended_where (is_among (in_turn (segment_ranges h))) n) ts ≡ ended
  event_over opened kind =
      ended_alike (λ i l. is_among (open_leases h k) l ≡ true) (is_among (in_turn (segment_ranges h))) (is_over Evt id) n 0 ts
      (λ i l is_open. among_segments l is_open ∙ sym (ap (λ b. is_segment l || b) (none_of_ring kind l is_open) ∙ or_false (is_segment l))) opened
      ∙ over_now Evt kind
