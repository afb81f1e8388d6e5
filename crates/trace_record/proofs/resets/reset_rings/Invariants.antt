use Rattle.std.specs.Prelude.{◌≡◌, ◌<◌, ◌≤◌, ℕ, Some, length, slice_get, true}
use Rattle.traces.specs.Header.{is_driver_kind}
use Rattle.traces.specs.declared.ring.Ring.{Ring}
use Rattle.ring_knowledge.specs.Known.{Known}
use Rattle.ring_knowledge.specs.Resets.{reset}
use Rattle.ring_knowledge.specs.RingRecords.{FollowsRing}
use Rattle.ring_knowledge.specs.declared.ring_record.RingRecord.{RingRecord}
use Rattle.trace_record.specs.Premises.{CommandsDeclared}
use Rattle.trace_record.specs.RingFinder.RecordsOfRings.{FollowsRings}
use Rattle.trace_record.proofs.resets.reset_rings.Given as goal

-- the rings so far are reset, and the others as they were
abbrev pub invariant-loop-number : goal.invariant-loop-number
invariant-loop-number l = record {
  as_many : length l.records.items ≡ length l.fn.records.items;
  done : (k : Known) → FollowsRings l.header k l.fn.records.items → CommandsDeclared l.header k → (i : ℕ) (ring : Ring) (r : RingRecord) → i < l.number →
      slice_get l.header.rings i ≡ Some ring → slice_get l.records.items i ≡ Some r → is_driver_kind ring.shape.kind ≡ true → FollowsRing ring.shape ((reset l.header k).ring ring.id) r;
  rest : (i : ℕ) → l.number ≤ i → slice_get l.records.items i ≡ slice_get l.fn.records.items i;
}
