-- Late events: one that is read when the controller was seen to have halted, or a success while its ring is held
use Rattle.std.specs.Prelude.{◌≡◌, ℕ, ◌&&◌, ◌||◌, Bool, false, not, List, [], ◌∷◌, Option, Some, None}
use Rattle.trb.specs.Block.{kind, slot, endpoint}
use Rattle.trb.specs.Kind.{is_transfer_event}
use Rattle.trb.specs.CompletionCode.{is_success}
use Rattle.trb.specs.declared.block.Block.{Block}
use Rattle.segments.specs.Ceiling.{is_open}
use Rattle.traces.specs.declared.header.Header.{Header}
use Rattle.traces.specs.Halts.{is_done}
use Rattle.traces.specs.declared.row.Row.{Row}
use Rattle.traces.specs.declared.row.Row.TheVariants.{Read}
use Rattle.ring_knowledge.specs.Known.{Known}
use Rattle.ring_knowledge.specs.Rings.{code_told}
use Rattle.ring_knowledge.specs.Histories.{header_now, known_now}

unfoldable pub is_held_ring : Known → Option ℕ → Bool
is_held_ring k None = false
is_held_ring k (Some r) = not (is_open (k.ring r))

module _ (h : Header) where
  -- a Transfer Event whose code counts as Success or Short Packet
  abbrev pub is_report_of_success : Known → Block → Bool
  is_report_of_success k b = is_transfer_event (kind b) && is_success (code_told h k b)

  unfoldable pub is_late : Known → Row → Bool
  is_late k (Read b) = is_done k.halt || (is_report_of_success k b && is_held_ring k (k.ring_of (slot b) (endpoint b)))
  is_late k _ = false

module _ (h : Header) where
  -- rows, the newest first, none of which is a late event
  abbrev pub IsTimely : List Row → Type 0
  IsTimely [] = Unit {0}
  IsTimely (row ∷ past) = IsTimely past × (is_late (header_now h past) (known_now h past) row ≡ false)
