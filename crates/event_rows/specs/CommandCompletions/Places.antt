-- What the records of rings and devices hold while a command's changes are made
use Rattle.std.specs.Prelude.{◌≡◌, ℕ, ◌<◌, ◌==◌, if◌then◌else◌, List, [], ◌∷◌, Some}
use Rattle.trb.specs.declared.block.Block.{Block}
use Rattle.trb.specs.Block.{code, slot}
use Rattle.segments.specs.RingView.{declared}
use Rattle.segments.specs.Ceiling.{given_count}
use Rattle.commands.specs.declared.command.Command.{Command}
use Rattle.commands.specs.Changes.{Change, SlotGoesOn, Disables, placed_by_context, typed_by_context}
use Rattle.contexts.specs.declared.size.ContextSize.{ContextSize}
use Rattle.contexts.specs.Contexts.{is_dropped}
use Rattle.world_state.specs.PlacingCommands.{places_from}
use Rattle.traces.specs.declared.header.Header.{Header}
use Rattle.traces.specs.Header.{shape_of, command_id}
use Rattle.ring_knowledge.specs.declared.ring_record.RingRecord.{RingRecord}
use Rattle.ring_knowledge.specs.Known.{Known}
use Rattle.ring_knowledge.specs.Rings.{next_command}
use Rattle.ring_knowledge.specs.Completions.{changed_by_all, succeeded}
use Rattle.trace_record.specs.RingFinder.RecordsOfRings.{FollowsRings}
use Rattle.trace_record.specs.declared.device_record.kept.DeviceRecord.{DeviceRecord}
use Rattle.trace_record.specs.DeviceSlots.Devices.{FollowsDevices}
use Rattle.trace_record.specs.declared.trace_record.TraceRecord.{TraceRecord}
use Rattle.safety.specs.Placings.{MayChangeAll}

-- the records of rings and of devices hold what is known
pub record FollowsPlaces (h : Header) (k : Known) (rs : List RingRecord) (d : DeviceRecord) : Type 0 where
  pub rings : FollowsRings h k rs
  pub devices : FollowsDevices k d

-- of the record of a trace the rings, slots and endpoints alone change
abbrev pub KeepsRest : TraceRecord → TraceRecord → Type 0
KeepsRest before after =
    (after.registers ≡ before.registers) × (after.events ≡ before.events) × (after.commands ≡ before.commands) × (after.bound ≡ before.bound) ×
    (after.inputs ≡ before.inputs) × (after.contexts ≡ before.contexts) × (after.soiled ≡ before.soiled)

-- some of the changes are made, and these are left, which may be made
pub record HasDone (h : Header) (c : Command) (k : Known) (all left : List Change) (rs : List RingRecord) (d : DeviceRecord) : Type 0 where
  pub known : Known
  pub follows : FollowsPlaces h known rs d
  pub may : MayChangeAll h c known left
  pub same : changed_by_all h c known left ≡ changed_by_all h c k all

-- what Address Device does where it succeeds, and what Configure Endpoint does with DC 0
unfoldable pub addressed : ContextSize → (ℕ → ℕ) → ℕ → ℕ → List Change
addressed size memory s a = SlotGoesOn s ∷ placed_by_context size memory s a 1 ∷ []

unfoldable pub configured : ContextSize → (ℕ → ℕ) → ℕ → ℕ → List Change
configured size memory s a = SlotGoesOn s ∷ typed_by_context size memory s a ∷ Disables s (is_dropped memory a) ∷ places_from size memory s a 2

-- the words of memory are those that are known
abbrev pub HasWords : Known → (ℕ → ℕ) → Type 0
HasWords k words = (a : ℕ) → k.memory a ≡ words a

-- the next command is given and declared
pub record IsNextGiven (h : Header) (k : Known) : Type 0 where
  pub given : next_command h k < given_count (shape_of h (command_id h)) (k.ring (command_id h))
  pub declared : next_command h k < declared (k.ring (command_id h))

-- what the end of a command does, but for a stop
abbrev pub succeeded_if : Header → Known → Block → Command → Known
succeeded_if h k b c = if code b == 1 then succeeded h k (slot b) c else k

-- what has a device context is the number of a slot
abbrev pub AreSlots : Known → Type 0
AreSlots k = (s d : ℕ) → k.device s ≡ Some d → (0 < s) × (s < 256)
