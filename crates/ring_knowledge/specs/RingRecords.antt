-- What a record of one command or transfer ring holds, in terms of what is known of the ring
use Rattle.std.specs.Prelude.{◌≡◌, ℕ, ◌+◌, ◌-◌, ◌<◌, ◌≤◌, ◌==◌, ◌&&◌, Bool, true, false, List, [], ◌∷◌, drop, length, slice_index, sum, max, Option, Some, None}
use Rattle.std.specs.BTreeSet.{contains}
use Rattle.std.specs.Ordering.{nat_cmp}
use Rattle.segments.specs.Shape.{IsShape}
use Rattle.segments.specs.ShapeValue.{Shape}
use Rattle.segments.specs.Places.{place_count, place_of, links, is_crossing}
use Rattle.segments.specs.RingView.{RingView, floor_number}
use Rattle.segments.specs.Ceiling.{is_step_given}
use Rattle.segments.specs.Descriptors.{length_from}
use Rattle.segments.specs.Givings.{descriptor_length, link_of}
use Rattle.ring_knowledge.specs.Marks.{is_noted}
use Rattle.ring_knowledge.specs.declared.ring_record.RingRecord.{RingRecord}
use Rattle.ring_knowledge.specs.declared.ring_record.RingGiving.{RingGiving}
use Rattle.ring_knowledge.specs.declared.ring_record.RingGiving.TheVariants.{Position, Crossing}

-- the positions, and the crossings, that an answer names
abbrev pub positions_of : Option RingGiving → List ℕ
positions_of None = []
positions_of (Some (Position p)) = p ∷ []
positions_of (Some (Crossing q)) = []

abbrev pub crossings_of : Option RingGiving → List ℕ
crossings_of None = []
crossings_of (Some (Position p)) = []
crossings_of (Some (Crossing q)) = q ∷ []

-- a position that an answer names isn't below the floor
abbrev pub IsFromFloor : RingView → Option RingGiving → Type 0
IsFromFloor v None = Unit {0}
IsFromFloor v (Some (Position p)) = floor_number v ≤ p
IsFromFloor v (Some (Crossing q)) = Unit {0}

-- the number is the one that is named, if one is
abbrev pub is_the : Option ℕ → ℕ → Bool
is_the None n = false
is_the (Some m) n = n == m

-- each number is above 0
abbrev pub ArePositive : List ℕ → Type 0
ArePositive [] = Unit {0}
ArePositive (n ∷ ns) = (0 < n) × ArePositive ns

-- the least crossing that may be due
abbrev pub least_crossing : RingView → ℕ
least_crossing v = max (floor_number v) 1

-- each descriptor that begins below a number ends there too
abbrev pub AreWholeBelow : RingView → ℕ → Type 0
AreWholeBelow v n = (p : ℕ) → p < n → p + length_from v.lengths 0 p ≤ n

-- the floor hasn't passed whole what stands at a position: the descriptor that begins there, or a single block where none begins
abbrev pub IsNotPassed : RingView → ℕ → Type 0
IsNotPassed v p = floor_number v < p + max (descriptor_length v p) 1

-- the record holds what is declared, given and withdrawn, the floor, and where the ring is held; the descriptors that the floor has passed whole
-- may be forgotten
pub record FollowsMarks (shape : Shape) (v : RingView) (r : RingRecord) : Type 0 where
  pub allowed : IsShape shape
  pub passed : r.forgotten ≤ floor_number v
  pub forgotten_whole : AreWholeBelow v r.forgotten
  pub queue : drop r.forgotten v.queue ≡ r.blocks.items
  pub count : length v.queue ≡ r.forgotten + length r.blocks.items
  pub floor : v.floor ≡ r.floor
  pub held : v.held ≡ r.held
  -- how long the descriptor is that begins at a position
  pub begins : (p : ℕ) → r.forgotten ≤ p → length_from v.lengths 0 p ≡ slice_index r.lengths.items (p - r.forgotten)
  pub as_many : length r.lengths.items ≡ length r.blocks.items
  pub whole : sum v.lengths ≡ length v.queue
  pub positive : ArePositive v.lengths
  -- one place stays empty
  pub room : length v.queue + 1 ≤ floor_number v + place_count shape
  -- a mark for each data place, and one for each Link
  pub places : length r.given.items ≡ place_count shape
  pub given : (p : ℕ) → v.given p ≡ is_noted (floor_number v) (place_count shape) r.given.items (place_of shape p) p
  pub segments : length (links shape) ≤ length r.crossed.items
  pub crossed : (q : ℕ) → v.crossed q ≡ (is_crossing shape q && is_noted (least_crossing v) (place_count shape) r.crossed.items (link_of shape q) q)
  -- what was withdrawn, and what of it is free: it was given
  pub withdrawn : (p : ℕ) → r.forgotten ≤ p → v.withdrawn p ≡ contains nat_cmp r.withdrawn p
  pub free : (p : ℕ) → v.free p ≡ contains nat_cmp r.free p
  pub free_withdrawn : (p : ℕ) → v.free p ≡ true → v.withdrawn p ≡ true
  pub free_given : (p : ℕ) → v.free p ≡ true → v.given p ≡ true

-- the record holds what is known of the ring: also how much is given without a gap
pub record FollowsRing (shape : Shape) (v : RingView) (r : RingRecord) : Type 0 where
  pub marks : FollowsMarks shape v r
  pub steps : (q : ℕ) → q < r.count → is_step_given shape v q ≡ true
  pub stop : is_step_given shape v r.count ≡ false
