-- What the completion of a command leaves behind: ranges, and the blocks and Links that a ring passes that it moves: xHCI 4.6.4, 4.6.10
use Rattle.std.specs.Prelude.{◌≡◌, ◌≢◌, ℕ, ◌+◌, ◌^◌, ◌≤◌, ◌||◌, ◌==◌, if◌then◌else◌, Bool, true, false, List, Option, Some, None}
use Rattle.segments.specs.declared.spot.Spot.{Spot}
use Rattle.segments.specs.Moves.{target}
use Rattle.segments.specs.RingView.{floor_number}
use Rattle.segments.specs.Spots.{number}
use Rattle.commands.specs.declared.command.Command.{Command}
use Rattle.commands.specs.declared.command.Command.TheVariants.{SetTrDequeue}
use Rattle.trb.specs.declared.block.Block.{Block}
use Rattle.trb.specs.Block.{code}
use Rattle.ring_knowledge.specs.Learned.{learned}
use Rattle.ring_knowledge.specs.Rings.{command_at, next_command}
use Rattle.traces.specs.declared.row.Row.TheVariants.{Read}
use Rattle.traces.specs.declared.header.Header.{Header}
use Rattle.traces.specs.Header.{command_id, shape_of}
use Rattle.traces.specs.declared.register.Register.TheVariants.{Erstba, Erstsz}
use Rattle.ring_knowledge.specs.Known.{Known}
use Rattle.ring_knowledge.specs.Writes.{entry_of}
use Rattle.ownership_rules.specs.OpenLeases.{Leased, Range, DeviceContext, InputContext, SlotEntry, is_among, range_of_command}
use Rattle.ownership_rules.proofs.Among.{IsIn}
use Rattle.leases.specs.LeaseBooks.Lents.{Lent, is_passed}
use Rattle.leases.specs.LeaseBooks.LettingGo.{slot_disabled, slot_left, slot_ranges}
use Rattle.leases.specs.LeaseBooks.Ranges.{is_lent}

-- a ring, and the number to which it is moved
abbrev pub moved_on : ℕ → Option Spot → Option (ℕ × ℕ)
moved_on r None = None
moved_on r (Some t) = Some (r, number t)

abbrev pub moved_ring : Header → Known → Option ℕ → ℕ → Bool → Option (ℕ × ℕ)
moved_ring h k None p cycle = None
moved_ring h k (Some r) p cycle = moved_on r (target (shape_of h r) (k.ring r) p cycle)

-- a Set TR Dequeue moves the ring of its endpoint
abbrev pub moved_by : Header → Known → Command → Option (ℕ × ℕ)
moved_by h k (SetTrDequeue s i p cycle) = moved_ring h k (k.ring_of s i) p cycle
moved_by h k _ = None

-- what the ring passes that is moved
abbrev pub is_moved_past : Known → Option (ℕ × ℕ) → Leased → Bool
is_moved_past k None l = false
is_moved_past k (Some e) l = is_passed e.0 (floor_number (k.ring e.0)) e.1 l

-- the ranges of the slot that a command disables
abbrev pub slot_let_go : Header → Known → Command → List Leased
slot_let_go h k c = slot_ranges h k (slot_disabled c)

-- the range is the entry or the device context of a slot
abbrev pub is_of_slot : Leased → Bool
is_of_slot (Range n a (SlotEntry s)) = true
is_of_slot (Range n a (DeviceContext s)) = true
is_of_slot _ = false

-- the range is the input context of a command
abbrev pub is_input_context : Leased → Bool
is_input_context (Range n a (InputContext p)) = true
is_input_context _ = false

-- each of these is lent
abbrev pub AreLent : List Lent → List Leased → Type 0
AreLent ts ls = (l : Leased) → IsIn l ls → is_lent ts l ≡ true

-- the entry of each slot with a device context ends within the address space
abbrev pub EntriesFit : Known → Type 0
EntriesFit k = (s d : ℕ) → k.device s ≡ Some d → entry_of k s + 8 ≤ 2 ^ 64

-- the tables that registers name: these entries fit, and ERSTBA is written behind ERSTSZ alone
pub record TablesFit (k : Known) : Type 0 where
  pub entries : EntriesFit k
  pub sized : k.register Erstsz ≡ None → k.register Erstba ≡ None

-- a ring is moved on, not back
abbrev pub MovesOn : Known → Option (ℕ × ℕ) → Type 0
MovesOn k None = Unit {0}
MovesOn k (Some e) = floor_number (k.ring e.0) ≤ e.1

-- that of a command whose completion tells success
abbrev pub moved_when : Header → Known → Bool → Option Command → Option (ℕ × ℕ)
moved_when h k success None = None
moved_when h k success (Some c) = if success then moved_by h k c else None

-- the completion of the command at a position of the command ring leaves it behind, the block and the Link of the command apart
abbrev pub is_behind : Header → Known → ℕ → Bool → Option Command → Leased → Bool
is_behind h k p success o l =
    (is_among (range_of_command h p o) l || is_among (slot_ranges h k (slot_left success o)) l) || is_moved_past k (moved_when h k success o) l

abbrev pub IsMovedTo : Header → Known → Option (ℕ × ℕ) → Type 0
IsMovedTo h k None = Unit {0}
IsMovedTo h k (Some e) = (e.0 ≢ command_id h) × (floor_number (k.ring e.0) ≡ e.1)

abbrev pub IsOtherRing : ℕ → Option (ℕ × ℕ) → Type 0
IsOtherRing q None = Unit {0}
IsOtherRing q (Some e) = q ≢ e.0

-- of the rings but the command ring the success of a Set TR Dequeue moves that of its endpoint on, and no completion moves another: the
-- ring that an endpoint is bound to stands still where it is bound, and that of a second Address Device where it is
pub record FloorsMove (h : Header) (k : Known) (event : Block) : Type 0 where
  pub on : MovesOn k (moved_when h k (code event == 1) (command_at h k (next_command h k)))
  pub there : IsMovedTo h (learned h k (Read event)) (moved_when h k (code event == 1) (command_at h k (next_command h k)))
  pub others : (q : ℕ) → q ≢ command_id h → IsOtherRing q (moved_when h k (code event == 1) (command_at h k (next_command h k))) →
      floor_number ((learned h k (Read event)).ring q) ≡ floor_number (k.ring q)
