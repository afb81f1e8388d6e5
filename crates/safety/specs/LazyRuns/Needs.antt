-- How far the controller has to have looked at a ring, for the events that are read later: xHCI 4.6.9, 4.6.10
use Rattle.std.specs.Prelude.{ℕ, ◌+◌, ◌==◌, ◌&&◌, ◌||◌, if◌then◌else◌, Bool, false, not, List, [], ◌∷◌, max, Option, Some, None}
use Rattle.trb.specs.declared.block.Block.{Block}
use Rattle.trb.specs.Block.{kind, code, slot}
use Rattle.trb.specs.Kind.{is_command_completion}
use Rattle.segments.specs.Spots.{number}
use Rattle.commands.specs.declared.command.Command.{Command}
use Rattle.commands.specs.States.{is_off}
use Rattle.commands.specs.Changes.{Change, Places, changes}
use Rattle.traces.specs.declared.header.Header.{Header}
use Rattle.traces.specs.declared.row.Row.{Row}
use Rattle.traces.specs.declared.row.Row.TheVariants.{Bell, Read, Free as FreeRow}
use Rattle.traces.specs.Header.{ring_having, is_ring}
use Rattle.ring_knowledge.specs.Known.{Known}
use Rattle.ring_knowledge.specs.Rings.{RingSpot, event_at, command_at, next_command}
use Rattle.ring_knowledge.specs.Completions.{changed_by}
use Rattle.traces.specs.LivingRings.{header_after}
use Rattle.ring_knowledge.specs.Histories.{known_after}
use Rattle.safety.specs.LazyRuns.LateEvents.{is_report_of_success}

-- one more than the position of the block, where it is one of ring r
unfoldable pub number_behind : ℕ → Option RingSpot → ℕ
number_behind r None = 0
number_behind r (Some at) = if at.ring == r then number at.spot + 1 else 0

module _ (h : Header) where
  -- the ring whose dequeue pointer a change sets: it binds the ring, or moves it
  unfoldable pub ring_placed : Known → Change → Option ℕ
  ring_placed k (Places s i p cycle state) = if is_off (k.endpoint_state s i) then ring_having h p else k.ring_of s i
  ring_placed k _ = None

  unfoldable pub is_placed_by_all : Command → Known → ℕ → List Change → Bool
  is_placed_by_all c k r [] = false
  is_placed_by_all c k r (change ∷ rest) = is_ring r (ring_placed k change) || is_placed_by_all c (changed_by h c k change) r rest

  unfoldable pub is_placed_by : Known → ℕ → ℕ → Option Command → Bool
  is_placed_by k r n None = false
  is_placed_by k r n (Some c) = is_placed_by_all c k r (changes h.context_size k.memory n c)

  -- the event is the success of a command that binds or moves ring r
  unfoldable pub is_placed : Known → ℕ → Block → Bool
  is_placed k r b = is_command_completion (kind b) && code b == 1 && is_placed_by k r (slot b) (command_at h k (next_command h k))

  -- the row is a doorbell of ring r, or its binding or move
  unfoldable pub begins_anew : Known → ℕ → Row → Bool
  begins_anew k r (Bell s t) = not (s == 0) && is_ring r (k.ring_of s t)
  begins_anew k r (Read b) = is_placed k r b
  begins_anew k r _ = false

  -- the number behind the block whose success the row reports, where it is one of ring r
  unfoldable pub number_reported : Known → ℕ → Row → ℕ
  number_reported k r (Read b) = if is_report_of_success h k b then number_behind r (event_at h k b) else 0
  number_reported k r _ = 0

  -- ring r begins anew, or goes
  unfoldable pub ends_need : Known → ℕ → Row → Bool
  ends_need k r (FreeRow id) = id == r
  ends_need k r row = begins_anew k r row

-- the need of ring r: the greatest number behind its blocks whose success is read in these rows, before the next doorbell or move, and
-- before the ring goes
unfoldable pub need : Header → Known → ℕ → List Row → ℕ
need h k r [] = 0
need h k r (row ∷ later) = if ends_need h k r row then 0 else max (number_reported h k r row) (need (header_after h row) (known_after h k row) r later)
