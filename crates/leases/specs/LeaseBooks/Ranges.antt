-- Where the leases of ranges of bytes stand among the leases, by what the ranges are for
use Rattle.std.specs.Prelude.{◌≡◌, ℕ, ◌+◌, ◌*◌, ◌==◌, ◌&&◌, Bool, true, false, not, List, map, slice_get, Some}
use Rattle.std.specs.List.{list_any}
use Rattle.segments.specs.Places.{place_of}
use Rattle.segments.specs.declared.segment.Segment.{Segment}
use Rattle.traces.specs.declared.header.Header.{Header}
use Rattle.traces.specs.Header.{command_id, shape_of}
use Rattle.ownership_rules.specs.OpenLeases.{Leased, Block, Link, Range, Use, EventSegment, SegmentTable, InputContext, SlotEntry, DeviceContext, same_leased, segment_ranges}
use Rattle.leases.specs.LeaseBooks.Lents.{Lent, in_turn, is_unended}
use Rattle.leases.specs.LeaseBooks.Books.{AllUnended}
use Rattle.leases.specs.LeaseBooks.IndexTables.{index_in}
use Rattle.leases.specs.declared.book.ranges.RangeIndexes.{RangeIndexes}

-- the place of a command on the command ring
abbrev pub command_place : Header → ℕ → ℕ
command_place h p = place_of (shape_of h (command_id h)) p

-- the segments of an event ring, in the order of leases that begin at one row
abbrev pub segments_in_turn : List Segment → List Leased
segments_in_turn segments = in_turn (map (λ s. Range (16 * s.count) s.base EventSegment) segments)

-- the range of n bytes at a for this use is found at this index; those of an event ring's segments follow the first in their order
abbrev pub IsUseFound : Header → RangeIndexes → ℕ → ℕ → ℕ → Use → Type 0
IsUseFound h x i n a EventSegment = (j : ℕ) × (i ≡ x.segments + j) × (slice_get (in_turn (segment_ranges h)) j ≡ Some (Range n a EventSegment))
IsUseFound h x i n a SegmentTable = x.table ≡ i
IsUseFound h x i n a (InputContext p) = index_in x.contexts (command_place h p) ≡ i
IsUseFound h x i n a (SlotEntry s) = index_in x.entries s ≡ i
IsUseFound h x i n a (DeviceContext s) = index_in x.devices s ≡ i

abbrev pub IsRangeFound : Header → RangeIndexes → ℕ → Leased → Type 0
IsRangeFound h x i (Block r p) = Unit {0}
IsRangeFound h x i (Link r q) = Unit {0}
IsRangeFound h x i (Range n a e) = IsUseFound h x i n a e

-- each range that is lent and not over is found where it stands
abbrev pub FindsRanges : Header → List Lent → RangeIndexes → Type 0
FindsRanges h ts x = AllUnended (IsRangeFound h x) 0 ts

-- ranges for both uses would be found at one index
abbrev pub share_a_use : Header → Use → Use → Bool
share_a_use h EventSegment EventSegment = true
share_a_use h SegmentTable SegmentTable = true
share_a_use h (InputContext p) (InputContext q) = command_place h p == command_place h q
share_a_use h (SlotEntry s) (SlotEntry t) = s == t
share_a_use h (DeviceContext s) (DeviceContext t) = s == t
share_a_use h _ _ = false

abbrev pub shares_use : Header → Use → Leased → Bool
shares_use h e (Block r p) = false
shares_use h e (Link r q) = false
shares_use h e (Range n a f) = share_a_use h e f

-- no range that is lent and not over shares its index with that of this use
unfoldable pub is_use_free : Header → List Lent → Use → Bool
is_use_free h lents e = not (list_any (λ t. is_unended t && shares_use h e t.leased) lents)

-- it is lent and not over
unfoldable pub is_lent : List Lent → Leased → Bool
is_lent lents l = list_any (λ t. is_unended t && same_leased l t.leased) lents

-- it stands at this index, if it is lent and not over
abbrev pub StandsAt : List Lent → Leased → ℕ → Type 0
StandsAt ts l i = AllUnended (λ j m. m ≡ l → j ≡ i) 0 ts

-- each of these is lent, one behind the other from an index on
abbrev pub StandFrom : List Lent → List Leased → ℕ → Type 0
StandFrom ts ls first = (j : ℕ) (l : Leased) → slice_get ls j ≡ Some l → StandsAt ts l (first + j) × (is_lent ts l ≡ true)
