-- What records, one of each ring of a header, hold in terms of what is known
use Rattle.std.specs.Prelude.{◌≡◌, ℕ, true, List, Some, length, slice_get}
use Rattle.traces.specs.declared.ring.Ring.{Ring}
use Rattle.traces.specs.declared.header.Header.{Header}
use Rattle.traces.specs.Header.{is_driver_kind}
use Rattle.ring_knowledge.specs.declared.ring_record.RingRecord.{RingRecord}
use Rattle.ring_knowledge.specs.RingRecords.{FollowsRing}
use Rattle.ring_knowledge.specs.Known.{Known}

-- those of the command and transfer rings hold what is known of them
pub record FollowsRings (h : Header) (k : Known) (records : List RingRecord) : Type 0 where
  pub as_many : length records ≡ length h.rings
  pub each : (i : ℕ) (ring : Ring) (r : RingRecord) → slice_get h.rings i ≡ Some ring → slice_get records i ≡ Some r →
      is_driver_kind ring.shape.kind ≡ true → FollowsRing ring.shape (k.ring ring.id) r
