-- When a record may note a ring that comes or goes: what else it speaks of is as before
use Rattle.std.specs.Prelude.{◌≡◌, ℕ, true, false, List, [], None}
use Rattle.traces.specs.declared.header.Header.{Header}
use Rattle.traces.specs.declared.ring.Ring.{Ring}
use Rattle.traces.specs.Header.{event_ring, is_command_kind, is_event_kind, ring_with}
use Rattle.traces.specs.LivingRings.{with_ring, without_ring}
use Rattle.ring_knowledge.specs.Known.{Known}
use Rattle.ring_knowledge.specs.Histories.{forgotten, gone}
use Rattle.ring_knowledge.specs.Rings.{unfinished}
use Rattle.ownership_rules.specs.Moves.{is_being_bound}
use Rattle.trace_record.specs.declared.trace_record.TraceRecord.{TraceRecord}
use Rattle.trace_record.specs.DeviceSlots.Unfinished.{FollowsUnfinished}
use Rattle.trace_record.specs.RangeWords.Holding.{HoldsAreas}
use Rattle.trace_record.specs.RingSets.{has}

-- there is no event ring, and no event was read since a reset
pub record HasNoEvents (h : Header) (k : Known) : Type 0 where
  pub none : event_ring h ≡ None
  pub reads : k.reads ≡ 0
  pub dequeue : k.dequeue ≡ 0

-- by other rings and other knowledge the same commands are unfinished, and bind the same rings
pub record SameCommands (h : Header) (k : Known) (g : Header) (l : Known) : Type 0 where
  pub commands : unfinished g l ≡ unfinished h k
  pub bound : (r : ℕ) → is_being_bound g l r ≡ is_being_bound h k r

-- the ring comes: no ring has its ID, and a second event ring doesn't come
pub record Comes (h : Header) (k : Known) (r : Ring) : Type 0 where
  pub unnamed : ring_with h r.id ≡ None
  pub same : SameCommands h k (with_ring h r) (forgotten k r.id)
  pub events : is_event_kind r.shape.kind ≡ true → HasNoEvents h k

-- the ring goes: with the command ring all commands do
abbrev pub Goes : Header → Known → Ring → Type 0
Goes h k r = is_command_kind r.shape.kind ≡ false → SameCommands h k (without_ring h r.id) (gone h k r.id)

-- no command is unfinished any more, and all else is as before
pub record IsWithoutCommands (old new : TraceRecord) : Type 0 where
  pub commands : FollowsUnfinished [] new.commands
  pub bound : (r : ℕ) → has new.bound r ≡ false
  pub inputs : (n : ℕ) (starts : List ℕ) → HoldsAreas n starts old.inputs → HoldsAreas n [] new.inputs
  pub rest : new ≡ record old { commands = new.commands; bound = new.bound; inputs = new.inputs }
