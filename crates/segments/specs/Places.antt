-- Places, positions, their addresses and cycles, and the Links between segments: xHCI 4.9.2, 4.11.5.1
use Rattle.std.specs.Prelude.{ℕ, suc, zero, ◌+◌, ◌-◌, ◌*◌, ◌/◌, ◌%◌, ◌==◌, ◌&&◌, Bool, List, [], ◌∷◌, length, slice_index, nat_lt, nat_le, map, Option, None, position, is_some, unwrap_or}
use Rattle.std.specs.List.{flat_map, list_any}
use Rattle.trb.specs.declared.ring_kind.RingKind.{RingKind}
use Rattle.trb.specs.declared.ring_kind.RingKind.TheVariants.{Cmd, Evt, Xfer}
use Rattle.segments.specs.declared.segment.Segment.{Segment}
use Rattle.segments.specs.ShapeValue.{Shape}

-- the addresses of n blocks from a on
abbrev pub blocks_from : ℕ → ℕ → List ℕ
blocks_from a zero = []
blocks_from a (suc n) = a ∷ blocks_from (a + 16) n

-- how many blocks of a segment hold data: in a command or transfer ring the last one is its Link
abbrev pub data_count : RingKind → Segment → ℕ
data_count Evt s = s.count
data_count Cmd s = s.count - 1
data_count Xfer s = s.count - 1

-- the data places of a ring, in order, by their addresses
abbrev pub data_places : Shape → List ℕ
data_places shape = flat_map (λ s. blocks_from s.base (data_count shape.kind s)) shape.segments

abbrev pub place_count : Shape → ℕ
place_count shape = length (data_places shape)

-- the data place of position p, from 0 on, and the lap that it belongs to
unfoldable pub place_of : Shape → ℕ → ℕ
place_of shape p = (p + shape.offset) % place_count shape

unfoldable pub lap_of : Shape → ℕ → ℕ
lap_of shape p = (p + shape.offset) / place_count shape

-- where position p lies
abbrev pub address_of : Shape → ℕ → ℕ
address_of shape p = slice_index (data_places shape) (place_of shape p)

-- the Cycle bit that position p has: 1 in the first lap, and flipped from lap to lap
abbrev pub cycle_of : Shape → ℕ → ℕ
cycle_of shape p = 1 - lap_of shape p % 2

-- the Links, in order, by their addresses
abbrev pub links_of : RingKind → List Segment → List ℕ
links_of Evt segments = []
links_of Cmd segments = map (λ s. s.base + 16 * (s.count - 1)) segments
links_of Xfer segments = map (λ s. s.base + 16 * (s.count - 1)) segments

abbrev pub links : Shape → List ℕ
links shape = links_of shape.kind shape.segments

-- after how many data places of a lap each Link is crossed
abbrev pub ends_from : ℕ → List Segment → List ℕ
ends_from before [] = []
ends_from before (s ∷ rest) = (before + (s.count - 1)) ∷ ends_from (before + (s.count - 1)) rest

abbrev pub ends_of : RingKind → List Segment → List ℕ
ends_of Evt segments = []
ends_of Cmd segments = ends_from 0 segments
ends_of Xfer segments = ends_from 0 segments

abbrev pub ends : Shape → List ℕ
ends shape = ends_of shape.kind shape.segments

-- the Link that is crossed on the way to position q, by the number of its segment, if one is
abbrev pub link_crossed : Shape → ℕ → Option ℕ
link_crossed shape zero = None
link_crossed shape (suc q) = position (λ n. n == place_of shape q + 1) (ends shape)

abbrev pub is_crossing : Shape → ℕ → Bool
is_crossing shape q = is_some (link_crossed shape q)

abbrev pub link_address : Shape → ℕ → ℕ
link_address shape q = slice_index (links shape) (unwrap_or (link_crossed shape q) 0)

-- where the Link of segment i leads: to the next segment, the last one to the first
abbrev pub link_target : Shape → ℕ → ℕ
link_target shape i = slice_index (map (λ s. s.base) shape.segments) ((i + 1) % length shape.segments)

-- the Link of segment i is the last one, which toggles the cycle
abbrev pub toggles : Shape → ℕ → Bool
toggles shape i = i + 1 == length shape.segments

-- the address is one of len bytes from base on
abbrev pub is_in : ℕ → ℕ → ℕ → Bool
is_in address base len = nat_le base address && nat_lt address (base + len)

-- m bytes from a on and n bytes from b on, neither of them none, have a byte in common
abbrev pub overlap : ℕ → ℕ → ℕ → ℕ → Bool
overlap a m b n = nat_lt a (b + n) && nat_lt b (a + m)

-- a segment has the byte at this address
abbrev pub segment_has : ℕ → Segment → Bool
segment_has address s = is_in address s.base (16 * s.count)

abbrev pub is_inside : Shape → ℕ → Bool
is_inside shape address = list_any (segment_has address) shape.segments

-- a segment has one of len bytes from this address on; of no bytes none has one
abbrev pub touches : Shape → ℕ → ℕ → Bool
touches shape from len = nat_lt 0 len && list_any (λ s. overlap from len s.base (16 * s.count)) shape.segments
