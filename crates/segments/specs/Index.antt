-- What finds a segment of a ring by a search: how many data places lie before each, and where each starts
use Rattle.std.specs.Prelude.{◌≡◌, ℕ, suc, zero, ◌+◌, ◌<◌, ◌≤◌, ◌%◌, ◌==◌, true, false, List, [], ◌∷◌, length, slice_index, slice_index_or, Option, Some, None}
use Rattle.std.specs.List.{All, list_any}
use Rattle.std.specs.List.Sorted.{IsNonDecreasingBy}
use Rattle.trb.specs.declared.ring_kind.RingKind.{RingKind}
use Rattle.segments.specs.declared.segment.Segment.{Segment}
use Rattle.segments.specs.declared.index.Start.{Start}
use Rattle.segments.specs.declared.index.SegmentIndex.{SegmentIndex}
use Rattle.segments.specs.Places.{data_count, segment_has}

-- segment j of a list
abbrev pub segment_at : List Segment → ℕ → Segment
segment_at ss j = slice_index_or ss j (record { base = 0; count = 0 })

-- how many data places there are before segment j
abbrev pub before : RingKind → List Segment → ℕ → ℕ
before kind [] j = 0
before kind (s ∷ rest) zero = 0
before kind (s ∷ rest) (suc j) = data_count kind s + before kind rest j

-- of the first segments: how many data places lie before each
pub record AreFirsts (kind : RingKind) (segments : List Segment) (count : ℕ) (firsts : List ℕ) : Type 0 where
  pub many : length firsts ≡ count
  pub each : (j : ℕ) → j < count → slice_index firsts j ≡ before kind segments j

-- it is where a segment starts
pub record IsStart (segments : List Segment) (start : Start) : Type 0 where
  pub number : start.segment < length segments
  pub base : start.base ≡ (segment_at segments start.segment).base

-- of the first segments: where each starts, in order
pub record AreStarts (segments : List Segment) (count : ℕ) (starts : List Start) : Type 0 where
  pub many : length starts ≡ count
  pub each : (j : ℕ) (d : Start) → j < count → slice_index_or starts j d ≡ record { base = (segment_at segments j).base; segment = j }

-- each segment has a multiple of so many data places
pub record AreMultiples (kind : RingKind) (segments : List Segment) (step : ℕ) : Type 0 where
  pub some : 0 < step
  pub each : (j : ℕ) → j < length segments → data_count kind (segment_at segments j) % step ≡ 0

-- it has the first place of each segment, and where each starts, by rising address
pub record IsIndex (kind : RingKind) (segments : List Segment) (index : SegmentIndex) : Type 0 where
  pub step : AreMultiples kind segments index.step
  pub firsts : AreFirsts kind segments (length segments) index.firsts.items
  pub starts : All (IsStart segments) index.starts.items
  pub each : (j : ℕ) → j < length segments → list_any (λ start. start.segment == j) index.starts.items ≡ true
  pub sorted : IsNonDecreasingBy (λ start. start.base) index.starts.items

-- the data place is one of segment j
pub record IsSegmentOf (kind : RingKind) (segments : List Segment) (place j : ℕ) : Type 0 where
  pub number : j < length segments
  pub first : before kind segments j ≤ place
  pub end : place < before kind segments (j + 1)

-- segment j is the last one to start at or before the address
pub record IsLastOf (segments : List Segment) (address j : ℕ) : Type 0 where
  pub number : j < length segments
  pub start : (segment_at segments j).base ≤ address
  pub last : (i : ℕ) → i < length segments → (segment_at segments i).base ≤ address → (segment_at segments i).base ≤ (segment_at segments j).base

-- the last one, if one does
abbrev pub IsLastStart : List Segment → ℕ → Option ℕ → Type 0
IsLastStart segments address None = (i : ℕ) → i < length segments → address < (segment_at segments i).base
IsLastStart segments address (Some j) = IsLastOf segments address j

-- the one segment that may have a byte; none where none may
abbrev pub IsNear : List Segment → ℕ → Option ℕ → Type 0
IsNear segments address None = (i : ℕ) → i < length segments → segment_has address (segment_at segments i) ≡ false
IsNear segments address (Some j) = (j < length segments) × ((i : ℕ) → i < length segments → segment_has address (segment_at segments i) ≡ true → i ≡ j)
