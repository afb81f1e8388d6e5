-- What is known behind the rows so far, by the rings that are there: xHCI 4.2, 4.6.9, 4.6.10, 4.9
use Rattle.std.specs.Prelude.{ℕ, ◌==◌, ◌&&◌, ◌||◌, if◌then◌else◌, List, [], ◌∷◌, Option, None, Some}
use Rattle.guest_memory.specs.Memory.{put}
use Rattle.segments.specs.RingView.{Restores, Withdraws, new_ring}
use Rattle.commands.specs.declared.command.Command.{Command}
use Rattle.commands.specs.declared.command.Command.TheVariants.{SetTrDequeue}
use Rattle.traces.specs.declared.header.Header.{Header}
use Rattle.traces.specs.declared.row.Row.{Row}
use Rattle.traces.specs.declared.row.Row.TheVariants.{Write, Reg, Bell, Ring as RingRow, Free as FreeRow, Nop as NopRow}
use Rattle.segments.specs.Places.{touches}
use Rattle.traces.specs.declared.register.Register.TheVariants.{Crcr}
use Rattle.traces.specs.Header.{command_id, event_id, event_shape}
use Rattle.traces.specs.Register.{same_register}
use Rattle.traces.specs.LivingRings.{header_after}
use Rattle.ring_knowledge.specs.Known.{Known, nothing}
use Rattle.ring_knowledge.specs.Learned.{learned}
use Rattle.ring_knowledge.specs.Resets.{reset, resets}
use Rattle.ring_knowledge.specs.Rings.{on_ring}
use Rattle.ring_knowledge.specs.Writes.{command_given}

-- of a ring that comes, or isn't there any more, nothing is known
unfoldable pub forgotten : Known → ℕ → Known
forgotten k id = record k { ring = put k.ring id new_ring }

module _ (h : Header) where
  -- the ring with this ID goes: CRCR names it no more, and what it holds of events the controller may have written
  unfoldable pub gone : Known → ℕ → Known
  gone k id = record (forgotten k id) {
    register = λ q. if same_register q Crcr && id == command_id h then None else k.register q;
    soiled = λ a. k.soiled a || (id == event_id h && touches (event_shape h) a 4);
  }

-- the ring that a command moves
unfoldable pub ring_moved : Known → Option Command → Option ℕ
ring_moved k (Some (SetTrDequeue s i p cycle)) = k.ring_of s i
ring_moved k _ = None

module _ (h : Header) where
  -- the ring that a row starts or moves: of it nothing is the driver's any more
  unfoldable pub ring_restored : Known → Row → Option ℕ
  ring_restored k (Bell s t) = k.ring_of s t
  ring_restored k (Write a w) = ring_moved k (command_given h k a w)
  ring_restored k _ = None

  unfoldable pub restored_on : Known → Option ℕ → Known
  restored_on k None = k
  restored_on k (Some r) = on_ring h k r Restores

  abbrev pub restored : Known → Row → Known
  restored k row = restored_on k (ring_restored k row)

-- what is known behind a row: of a ring that comes nothing; what a row starts or moves is restored; a reset leaves what memory holds
abbrev pub known_after : Header → Known → Row → Known
known_after h k (RingRow ring) = forgotten k ring.id
known_after h k (FreeRow id) = gone h k id
known_after h k (NopRow r p) = on_ring h k r (Withdraws p)
known_after h k (Reg r v) = if resets k r v then reset h k else learned h k (Reg r v)
known_after h k row = learned h (restored h k row) row

module _ (h : Header) where
  -- behind the rows so far, the newest first
  abbrev pub header_now : List Row → Header
  header_now [] = h
  header_now (row ∷ past) = header_after (header_now past) row

  abbrev pub known_now : List Row → Known
  known_now [] = nothing
  known_now (row ∷ past) = known_after (header_now past) (known_now past) row
