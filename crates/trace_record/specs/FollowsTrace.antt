-- What the record of a trace's rows so far, with the words of memory, holds in terms of what is known
use Rattle.std.specs.Prelude.{Option, Some, None, is_some, ◌≡◌, ℕ, true, List}
use Rattle.std.specs.List.{filter_map}
use Rattle.contexts.specs.Contexts.{device_context_bytes, input_context_bytes}
use Rattle.commands.specs.declared.command.Command.{Command}
use Rattle.commands.specs.Command.{named_context}
use Rattle.event_ring.specs.EventPlaceValue.{EventState}
use Rattle.traces.specs.declared.header.Header.{Header}
use Rattle.traces.specs.Header.{event_ring, event_shape}
use Rattle.ring_knowledge.specs.Known.{Known}
use Rattle.ring_knowledge.specs.Rings.{unfinished}
use Rattle.ring_knowledge.specs.RegisterRecords.{FollowsRegisters}
use Rattle.trace_record.specs.RingFinder.RecordsOfRings.{FollowsRings}
use Rattle.trace_record.specs.DeviceSlots.Devices.{FollowsDevices}
use Rattle.trace_record.specs.DeviceSlots.Unfinished.{FollowsUnfinished}
use Rattle.ownership_rules.specs.Moves.{is_being_bound}
use Rattle.ownership_rules.specs.OpenLeases.{slots}
use Rattle.trace_record.specs.RangeWords.Holding.{HoldsAreas, HoldsSoiled}
use Rattle.trace_record.specs.declared.ring_set.RingSet.{RingSet}
use Rattle.trace_record.specs.declared.trace_record.TraceRecord.{TraceRecord}
use Rattle.trace_record.specs.RingSets.{has}

-- the counts of the event ring are those that are known
pub record FollowsPlace (h : Header) (k : Known) (e : EventState) : Type 0 where
  pub here : is_some (event_ring h) ≡ true
  pub shape : event_shape h ≡ e.shape
  pub reads : k.reads ≡ e.counts.reads
  pub dequeue : k.dequeue ≡ e.counts.dequeue

-- there are none without an event ring
abbrev pub FollowsEvents : Header → Known → Option EventState → Type 0
FollowsEvents h k None = event_ring h ≡ None
FollowsEvents h k (Some e) = FollowsPlace h k e

-- the addresses of the input contexts of commands
abbrev pub inputs_of : List Command → List ℕ
inputs_of commands = filter_map named_context commands

-- the addresses of the device contexts under lease
abbrev pub device_contexts : Known → List ℕ
device_contexts k = filter_map k.device slots

-- the set has the rings that unfinished commands bind, and no others
abbrev pub HoldsBound : Header → Known → RingSet → Type 0
HoldsBound h k rings = (r : ℕ) → has rings r ≡ is_being_bound h k r

-- the record and the memory hold what is known
pub record FollowsTrace (h : Header) (k : Known) (t : TraceRecord) (memory : ℕ → ℕ) : Type 0 where
  pub words : (a : ℕ) → k.memory a ≡ memory a
  pub rings : FollowsRings h k t.rings.items
  pub registers : FollowsRegisters k t.registers
  pub events : FollowsEvents h k t.events
  pub devices : FollowsDevices k t.devices
  pub commands : FollowsUnfinished (unfinished h k) t.commands
  pub bound : HoldsBound h k t.bound
  pub inputs : HoldsAreas (input_context_bytes h.context_size) (inputs_of (unfinished h k)) t.inputs
  pub contexts : HoldsAreas (device_context_bytes h.context_size) (device_contexts k) t.contexts
  pub soiled : HoldsSoiled k.soiled t.soiled
