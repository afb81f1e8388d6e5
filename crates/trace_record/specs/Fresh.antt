-- What is kept before the first row
use Rattle.std.specs.Prelude.{◌≡◌, ℕ, ◌≤◌, List, length, slice_get, Option, Some, None}
use Rattle.segments.specs.RingView.{new_ring}
use Rattle.traces.specs.declared.ring.Ring.{Ring}
use Rattle.ring_knowledge.specs.declared.ring_record.RingRecord.{RingRecord}
use Rattle.ring_knowledge.specs.RingRecords.{FollowsRing}
use Rattle.event_ring.specs.EventPlaceValue.{EventState}

-- records of the first rings, of which nothing is known
pub record IsFreshSo (rings : List Ring) (records : List RingRecord) (count : ℕ) : Type 0 where
  pub as_many : length records ≡ count
  pub each : (i : ℕ) (ring : Ring) (r : RingRecord) → slice_get rings i ≡ Some ring → slice_get records i ≡ Some r → FollowsRing ring.shape new_ring r

-- one of each ring
abbrev pub AreFresh : List Ring → List RingRecord → Type 0
AreFresh rings records = IsFreshSo rings records (length rings)

-- no more events were read than so many
abbrev pub IsWithin : Option EventState → ℕ → Type 0
IsWithin None n = Unit {0}
IsWithin (Some e) n = e.counts.reads ≤ n
