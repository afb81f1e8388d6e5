-- What finds a header's rings by ID and by address
use Rattle.std.specs.Prelude.{◌≡◌, ℕ, ◌+◌, ◌*◌, ◌/◌, ◌%◌, ◌<◌, ◌≤◌, List, [], ◌∷◌, ◌++◌, length, map, Option, Some, None, slice_get, slice_index, slice_index_or, position}
use Rattle.std.specs.List.{Contains}
use Rattle.std.specs.List.Sorted.{IsNonDecreasingBy, IsPermutation}
use Rattle.segments.specs.declared.segment.Segment.{Segment}
use Rattle.traces.specs.declared.ring.Ring.{Ring}
use Rattle.traces.specs.Header.{is_command_kind, is_event_kind}
use Rattle.trace_record.specs.declared.ring_finder.finder.Start.{Start}
use Rattle.trace_record.specs.declared.ring_finder.finder.Finder.{Finder}

-- where a segment of ring n starts, and how many bytes it has
abbrev pub start_of : ℕ → Segment → Start
start_of n s = record { address = s.base; bytes = 16 * s.count; ring = n }

-- where the segments of rings start; the first ring has number n
abbrev pub starts_from : ℕ → List Ring → List Start
starts_from n [] = []
starts_from n (ring ∷ rest) = map (start_of n) ring.shape.segments ++ starts_from (n + 1) rest

-- the numbers of the first rings stand at their IDs, and no others
pub record AreNumbers (rings : List Ring) (count : ℕ) (numbers : List (Option ℕ)) : Type 0 where
  pub all : length numbers ≡ 256
  pub right : (id n : ℕ) → slice_index_or numbers id None ≡ Some n → (ring : Ring) × (slice_get rings n ≡ Some ring) × (ring.id ≡ id)
  pub each : (n : ℕ) (ring : Ring) → n < count → slice_get rings n ≡ Some ring → slice_index_or numbers ring.id None ≡ Some n

-- where the hint for an address stands: by its page of 64 KiB
abbrev pub slot_of : ℕ → ℕ
slot_of a = (a / 65536 + a / 65536 / 256) % 1024

-- the hints for the first segments tell where a segment stands
pub record AreHints (starts : List Start) (count : ℕ) (hints : List ℕ) : Type 0 where
  pub all : length hints ≡ 1024
  pub each : (k : ℕ) (d : Start) → k < count → slice_index hints (slot_of (slice_index_or starts k d).address) < length starts

-- it has the number of each ring, where each segment starts, by rising address, hints where, as many by small pages, and the numbers of the command ring and the event ring
pub record IsFinder (rings : List Ring) (f : Finder) : Type 0 where
  pub numbers : AreNumbers rings (length rings) f.numbers.items
  pub starts : IsPermutation (starts_from 0 rings) f.starts.items
  pub sorted : IsNonDecreasingBy (λ s. s.address) f.starts.items
  pub hints : AreHints f.starts.items (length f.starts.items) f.hints.items
  pub near : length f.near.items ≡ 1024
  pub commands : f.commands ≡ position (λ ring. is_command_kind ring.shape.kind) rings
  pub events : f.events ≡ position (λ ring. is_event_kind ring.shape.kind) rings

-- the ring of the last start at or before an address, if there is one
abbrev pub IsRingBefore : List Start → ℕ → Option ℕ → Type 0
IsRingBefore starts a None = (s : Start) → Contains starts s → a < s.address
IsRingBefore starts a (Some number) =
    (start : Start) × Contains starts start × (start.ring ≡ number) × (start.address ≤ a) × ((s : Start) → Contains starts s → s.address ≤ a → s.address ≤ start.address)
