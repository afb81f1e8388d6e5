-- What the check of a ring that comes or goes answers
use Rattle.std.specs.Prelude.{◌≡◌, ℕ, Bool, true, false, ◌*◌, ◌||◌, None, Some, slice_get}
use Rattle.std.specs.List.{list_any}
use Rattle.traces.specs.declared.header.Header.{Header}
use Rattle.traces.specs.declared.ring.Ring.{Ring}
use Rattle.traces.specs.Header.{command_ring, event_ring, is_command_kind, is_event_kind, is_transfer_kind, ring_with, touches_ring}
use Rattle.ring_knowledge.specs.Known.{Known}
use Rattle.traces.specs.declared.row.Row.{Row}
use Rattle.traces.specs.declared.row.Row.TheVariants.{Free as FreeRow}
use Rattle.ownership_rules.specs.Older.{stricter}
use Rattle.ownership_rules.specs.Rings.{is_bad_free}
use Rattle.ownership_rules.specs.declared.refusal.Refusal.TheVariants.{BadFree}
use Rattle.safety.specs.RingChanges.Histories.{IsKept}
use Rattle.traces.specs.LivingRings.{header_after}
use Rattle.ring_knowledge.specs.Histories.{known_after}
use Rattle.trace_record.specs.declared.trace_record.TraceRecord.{TraceRecord}
use Rattle.trace_record.specs.FollowsTrace.{FollowsTrace}

-- the row breaks no rule, and the record and the memory hold what is known after it, of the rings that are there then
pub record IsRingStep (h : Header) (k : Known) (row : Row) (after : TraceRecord) (memory : ℕ → ℕ) : Type 0 where
  pub kept : IsKept h k row
  pub followed : FollowsTrace (header_after h row) (known_after h k row) after memory

-- no ring has the ID, none touches a segment, and it is no second command or event ring: so it may stand with those of the header
pub record IsClear (h : Header) (r : Ring) : Type 0 where
  pub unnamed : ring_with h r.id ≡ None
  pub untouched : list_any (λ s. touches_ring h s.base (16 * s.count)) r.shape.segments ≡ false
  pub commands : is_command_kind r.shape.kind ≡ true → command_ring h ≡ None
  pub events : is_event_kind r.shape.kind ≡ true → event_ring h ≡ None

-- the ring with this ID may not go, by the rule of the trace's version
abbrev pub frees_badly : Header → Known → ℕ → Bool
frees_badly h k id = stricter h k (FreeRow id) BadFree || is_bad_free h k id

-- the ring with this number has this ID
pub record IsRingAt (h : Header) (id number : ℕ) : Type 0 where
  pub ring : Ring
  pub at : slice_get h.rings number ≡ Some ring
  pub named : ring.id ≡ id

-- it is a transfer ring
pub record IsTransferAt (h : Header) (id number : ℕ) : Type 0 where
  pub ring : Ring
  pub at : slice_get h.rings number ≡ Some ring
  pub named : ring.id ≡ id
  pub kind : is_transfer_kind ring.shape.kind ≡ true
