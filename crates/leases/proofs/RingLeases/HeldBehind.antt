-- A log of leases goes on with the rings that are there behind a ring that goes, and behind one that comes: what isn't over is of other rings
use Rattle.leases.proofs.UpperLaws.{rules, ◌≡◌, ◌≢◌, ◌+◌, ◌<◌, ◌&&◌, ◌∙◌, ℕ, true, false, List, map, length, Some, slice_get, refl, sym, ap, subst, eq-eqb, and_parts, not-true, false≢true, Header, IsHeader, Ring, RingKind, Known, Evt, DriverKeeps, IsIn, driver_rings, from_filter, ring_with, open_leases, segment_ranges, Leased, Block, Link, Range, DeviceContext, EventSegment, InputContext, SegmentTable, SlotEntry, is_among, among_is, is_input_context, Lent, AllUnended, AreOpen, AreShapedAlike, IsShapedAlike, HoldsAll, FindsRanges, IsRangeFound, RangeIndexes, command_place, ended_where, in_turn, index_in, passed_on, with_begun, without_end, IsComing, forgotten, is_bad_free, is_bad_ring, with_ring, without_ring, TablesFit, Cmd, Xfer, is_event_kind, is_command_kind, gone, both_told, each_open, open_are_ranges, IsOpen, only_passed, passed_open, from_turn, all_behind, in_slice, segments_begin, all_anew, is_segment, open_context, open_segment, segments_are}
use Rattle.leases.proofs.RingLeases.OpenBehind.{among_filtered, goes_open, is_over, places_stay, remains, segments_stay, shape_other as shape_behind}
use Rattle.leases.proofs.RingLeases.OpenComing.{comes_same, comes_segments, no_segments, none_before, other_id, places_same, segments_kept, shape_other as shape_beside}

-- ---- the indexes of ranges

module _ (h g : Header) (x y : RangeIndexes) where
  -- what the indexes find they find with other rings, by uses
  record FindsAgain (l : Leased) : Type 0 where
    pub context : (n a p : ℕ) → l ≡ Range n a (InputContext p) → (command_place g p ≡ command_place h p) × (y.contexts ≡ x.contexts)
    pub segment : (n a : ℕ) → l ≡ Range n a EventSegment → (segment_ranges g ≡ segment_ranges h) × (y.segments ≡ x.segments)
    pub table : y.table ≡ x.table
    pub entries : y.entries ≡ x.entries
    pub devices : y.devices ≡ x.devices

  found_again : (i : ℕ) (l : Leased) → FindsAgain l → IsRangeFound h x i l → IsRangeFound g y i l
  found_again i (Block r p) again found = tt
  found_again i (Link r q) again found = tt
  found_again i (Range n a EventSegment) again found =
      let same = again.segment n a refl in
      (found.0, found.1 ∙ ap (λ m. m + found.0) (sym same.1), ap (λ ls. slice_get (in_turn ls) found.0) same.0 ∙ found.2)
  found_again i (Range n a SegmentTable) again found = again.table ∙ found
  found_again i (Range n a (InputContext p)) again found = let same = again.context n a p refl in ap (λ t. index_in t (command_place g p)) same.1 ∙ ap (index_in x.contexts) same.0 ∙ found
  found_again i (Range n a (SlotEntry s)) again found = ap (λ t. index_in t s) again.entries ∙ found
  found_again i (Range n a (DeviceContext s)) again found = ap (λ t. index_in t s) again.devices ∙ found

-- ---- a ring that goes

module _ (h : Header) (is : IsHeader h) (k : Known) (d : DriverKeeps h k) (tables : TablesFit k) (id : ℕ) (q : Ring) (found : ring_with h id ≡ Some q) (good : is_bad_free h k id ≡ false) where
  abbrev left_h : Header
  left_h = without_ring h id

  abbrev left_k : Known
  left_k = gone h k id

  was_open : (l : Leased) → IsOpen (open_leases left_h left_k) l → (is_among (open_leases h k) l && remains q.shape.kind id l) ≡ true
  was_open l open_now = sym (among_filtered (remains q.shape.kind id) (open_leases h k) l) ∙ ap (λ ls. is_among ls l) (sym (goes_open h is k d tables id q found good)) ∙ open_now

  stayed : (l : Leased) → IsOpen (open_leases left_h left_k) l → is_over q.shape.kind id l ≡ false
  stayed l open_now = not-true (is_over q.shape.kind id l) (and_parts (is_among (open_leases h k) l) (remains q.shape.kind id l) (was_open l open_now)).1

  not_of_ring : (kind : RingKind) (s p : ℕ) → is_over kind id (Block s p) ≡ false → s ≢ id
  not_of_ring Cmd s p none same = false≢true (sym none ∙ eq-eqb s id same)
  not_of_ring Evt s p none same = false≢true (sym none ∙ eq-eqb s id same)
  not_of_ring Xfer s p none same = false≢true (sym none ∙ eq-eqb s id same)

  not_of_link : (kind : RingKind) (s p : ℕ) → is_over kind id (Link s p) ≡ false → s ≢ id
  not_of_link Cmd s p none same = false≢true (sym none ∙ eq-eqb s id same)
  not_of_link Evt s p none same = false≢true (sym none ∙ eq-eqb s id same)
  not_of_link Xfer s p none same = false≢true (sym none ∙ eq-eqb s id same)

  alike_behind : (l : Leased) → IsOpen (open_leases left_h left_k) l → IsShapedAlike h left_h l
  alike_behind (Block s p) open_now = shape_behind h is k d tables id q found good s (not_of_ring q.shape.kind s p (stayed (Block s p) open_now))
  alike_behind (Link s c) open_now = shape_behind h is k d tables id q found good s (not_of_link q.shape.kind s c (stayed (Link s c) open_now))
  alike_behind (Range n a e) open_now = tt

  -- ranges that go with the ring aren't open
  no_context_over : (kind : RingKind) (n a p : ℕ) → is_over kind id (Range n a (InputContext p)) ≡ false → is_command_kind kind ≡ false
  no_context_over Cmd n a p none = absurd (false≢true (sym none))
  no_context_over Evt n a p none = refl
  no_context_over Xfer n a p none = refl

  no_segment_over : (kind : RingKind) (n a : ℕ) → is_over kind id (Range n a EventSegment) ≡ false → is_event_kind kind ≡ false
  no_segment_over Cmd n a none = refl
  no_segment_over Evt n a none = absurd (false≢true (sym none))
  no_segment_over Xfer n a none = refl

  again_behind : (x : RangeIndexes) (l : Leased) → IsOpen (open_leases left_h left_k) l → FindsAgain h left_h x x l
  again_behind x l open_now = record {
    context = λ n a p same. (places_stay h is k d tables id q found good (no_context_over q.shape.kind n a p (ap (is_over q.shape.kind id) (sym same) ∙ stayed l open_now)) p, refl);
    segment = λ n a same. (segments_stay h is k d tables id q found good (no_segment_over q.shape.kind n a (ap (is_over q.shape.kind id) (sym same) ∙ stayed l open_now)), refl);
    table = refl;
    entries = refl;
    devices = refl;
  }

  module _ (n : ℕ) (early : n < without_end) (ts : List Lent) (opened : AreOpen h k ts) where
    abbrev ended : List Lent
    ended = map (ended_where (is_over q.shape.kind id) n) ts

    -- what goes with it ends
    pub goes_lent : passed_on (open_leases h k) (open_leases left_h left_k) n ts ≡ ended
    goes_lent = only_passed (open_leases h k) (open_leases left_h left_k) n ts opened (is_over q.shape.kind id)
        (λ l. ap (λ ls. is_among ls l) (goes_open h is k d tables id q found good) ∙ among_filtered (remains q.shape.kind id) (open_leases h k) l)

    open_behind : AllUnended (λ i l. IsOpen (open_leases left_h left_k) l) 0 ended
    open_behind = subst (λ (us : List Lent). AllUnended (λ i l. IsOpen (open_leases left_h left_k) l) 0 us) goes_lent (passed_open (open_leases h k) (open_leases left_h left_k) n ts early)

    pub goes_held : {B : Type 0} (Holds : Header → List Lent → B → Type 0) → ((h g : Header) (ts : List Lent) (log : B) → AreShapedAlike h g ts → Holds h ts log → Holds g ts log) →
        (book : B) (x : RangeIndexes) → HoldsAll Holds h ended book x → HoldsAll Holds left_h (passed_on (open_leases h k) (open_leases left_h left_k) n ts) book x
    goes_held Holds other_rings book x held = rw goes_lent (record {
      held = other_rings h left_h ended book (all_anew (λ i l. IsOpen (open_leases left_h left_k) l) (λ i l. IsShapedAlike h left_h l) 0 ended (λ i l. alike_behind l) open_behind) held.held;
      found = both_told (λ i l. IsOpen (open_leases left_h left_k) l) (IsRangeFound h x) (IsRangeFound left_h x) 0 ended
          (λ i l open_now finds. found_again h left_h x x i l (again_behind x l open_now) finds) open_behind held.found;
    })

-- ---- a ring that comes

-- the ring of a lease is one of the header's
abbrev IsThere : Header → Leased → Type 0
IsThere h (Block r p) = (q : Ring) × IsIn q h.rings × (q.id ≡ r)
IsThere h (Link r c) = (q : Ring) × IsIn q h.rings × (q.id ≡ r)
IsThere h (Range n a e) = Unit {0}

open_there : (h : Header) (k : Known) (l : Leased) → IsOpen (open_leases h k) l → IsThere h l
unfolding driver_rings
open_there h k = search (rules, each_open h k (IsThere h), from_filter, open_are_ranges)

module _ (h : Header) (is : IsHeader h) (k : Known) (d : DriverKeeps h k) (tables : TablesFit k) (r : Ring) (coming : IsComing r) (good : is_bad_ring h k r ≡ false) where
  abbrev more_h : Header
  more_h = with_ring h r

  abbrev more_k : Known
  more_k = forgotten k r.id

  alike_there : (l : Leased) → IsThere h l → IsShapedAlike h more_h l
  alike_there (Block s p) there = shape_beside h is k d tables r coming good s (λ same. other_id h is k d tables r coming good there.0 there.1 (there.2 ∙ same))
  alike_there (Link s c) there = shape_beside h is k d tables r coming good s (λ same. other_id h is k d tables r coming good there.0 there.1 (there.2 ∙ same))
  alike_there (Range n a e) there = tt

  alike_beside : (l : Leased) → IsOpen (open_leases h k) l → IsShapedAlike h more_h l
  alike_beside l is_open = alike_there l (open_there h k l is_open)

  -- where a command ring comes no context is open
  not_commands : (l : Leased) → IsOpen (open_leases h k) l → is_input_context l ≡ true → is_command_kind r.shape.kind ≡ false
  not_commands l is_open context = by r.shape.kind refl
    where
      by : (kind : RingKind) → r.shape.kind ≡ kind → is_command_kind kind ≡ false
      by Cmd kind = absurd (subst (IsIn l) (none_before h is k d tables r coming good kind) (open_context h k l (among_is (open_leases h k) l is_open) context))
      by Evt kind = refl
      by Xfer kind = refl

  -- where an event ring comes no segment is
  not_events : (l : Leased) → IsOpen (open_leases h k) l → is_segment l ≡ true → is_event_kind r.shape.kind ≡ false
  not_events l is_open segment = by r.shape.kind refl
    where
      by : (kind : RingKind) → r.shape.kind ≡ kind → is_event_kind kind ≡ false
      by Cmd kind = refl
      by Evt kind = absurd (subst (IsIn l) (no_segments h is k d tables r coming good kind) (open_segment h k l (among_is (open_leases h k) l is_open) segment))
      by Xfer kind = refl

  module _ (x y : RangeIndexes) (contexts : y.contexts ≡ x.contexts) (entries : y.entries ≡ x.entries) (devices : y.devices ≡ x.devices) (table : y.table ≡ x.table)
      (segments : is_event_kind r.shape.kind ≡ false → y.segments ≡ x.segments) where
    again_beside : (l : Leased) → IsOpen (open_leases h k) l → FindsAgain h more_h x y l
    again_beside l is_open = record {
      context = λ n a p same. (places_same h is k d tables r coming good (not_commands l is_open (ap is_input_context same)) p, contexts);
      segment = λ n a same. let other = not_events l is_open (ap is_segment same) in (segments_kept h is k d tables r coming good other, segments other);
      table = table;
      entries = entries;
      devices = devices;
    }

    found_beside : (ts : List Lent) → AreOpen h k ts → FindsRanges h ts x → FindsRanges more_h ts y
    found_beside ts opened found = both_told (λ i l. IsOpen (open_leases h k) l) (IsRangeFound h x) (IsRangeFound more_h y) 0 ts
        (λ i l is_open finds. found_again h more_h x y i l (again_beside l is_open) finds) opened found

  segment_alike : (l : Leased) → is_segment l ≡ true → IsShapedAlike h more_h l
  segment_alike (Range n a EventSegment) is = tt
  segment_alike (Range n a SegmentTable) is = tt
  segment_alike (Range n a (InputContext p)) is = tt
  segment_alike (Range n a (SlotEntry s)) is = tt
  segment_alike (Range n a (DeviceContext s)) is = tt
  segment_alike (Block s p) is = absurd (false≢true is)
  segment_alike (Link s p) is = absurd (false≢true is)

  module _ (n : ℕ) (ts : List Lent) (opened : AreOpen h k ts) {B : Type 0} (Holds : Header → List Lent → B → Type 0)
      (other_rings : (h g : Header) (ts : List Lent) (log : B) → AreShapedAlike h g ts → Holds h ts log → Holds g ts log) (book : B) where
    alike : AreShapedAlike h more_h ts
    alike = all_anew (λ i l. IsOpen (open_leases h k) l) (λ i l. IsShapedAlike h more_h l) 0 ts (λ i l. alike_beside l) opened

    -- a command or transfer ring
    pub comes_held : is_event_kind r.shape.kind ≡ false → (x : RangeIndexes) → HoldsAll Holds h ts book x →
        HoldsAll Holds more_h (passed_on (open_leases h k) (open_leases more_h more_k) n ts) book x
    comes_held other x held = rw (comes_same h is k d tables r coming good n ts opened other) (record {
      held = other_rings h more_h ts book alike held.held;
      found = found_beside x x refl refl refl refl (λ e. refl) ts opened held.found;
    })

    -- an event ring
    pub segments_held : r.shape.kind ≡ Evt → (x y : RangeIndexes) → y ≡ record x { segments = y.segments } → y.segments ≡ length ts →
        Holds h (with_begun n ts (in_turn (segment_ranges more_h))) book → FindsRanges h ts x → HoldsAll Holds more_h (passed_on (open_leases h k) (open_leases more_h more_k) n ts) book y
    unfolding with_begun
    segments_held kind x y same first held found =
        rw (comes_segments h is k d tables r coming good n ts opened kind) (record {
          held = other_rings h more_h (with_begun n ts (in_turn (segment_ranges more_h))) book
              (all_behind (λ i l. IsShapedAlike h more_h l) n 0 ts (in_turn (segment_ranges more_h)) alike
              (λ j l at. segment_alike l (segments_are more_h l (from_turn (segment_ranges more_h) l (in_slice (in_turn (segment_ranges more_h)) j l at))))) held;
          found = segments_begin more_h y n ts first
              (found_beside x y (ap (λ z. z.contexts) same) (ap (λ z. z.entries) same) (ap (λ z. z.devices) same) (ap (λ z. z.table) same)
              (λ other. absurd (false≢true (sym other ∙ ap is_event_kind kind))) ts opened found);
        })
