-- Rings as they are known: what a write gives of them, what an event names, which commands are unfinished: xHCI 4.9.2, 4.6
use Rattle.std.specs.Prelude.{ℕ, List, ◌++◌, ◌&&◌, if◌then◌else◌, map, Option, Some, None, option_and_then, option_map, slice_get, filter}
use Rattle.std.specs.List.{flat_map, filter_map}
use Rattle.guest_memory.specs.Memory.{put}
use Rattle.trb.specs.declared.block.Block.{Block}
use Rattle.trb.specs.Block.{code, slot, endpoint}
use Rattle.trb.specs.CompletionCode.{counted_code, is_of_service}
use Rattle.segments.specs.declared.spot.Spot.{Spot}
use Rattle.segments.specs.RingView.{RingChange, changed, due_positions, floor_number, positions_given, crossings_given}
use Rattle.segments.specs.Ceiling.{named_by}
use Rattle.commands.specs.declared.command.Command.{Command}
use Rattle.commands.specs.Command.{command_of}
use Rattle.traces.specs.declared.header.Header.{Header}
use Rattle.traces.specs.Header.{shape_of, command_id, driver_rings}
use Rattle.traces.specs.Versions.{has_isoch}
use Rattle.ring_knowledge.specs.Known.{Known}

-- what a write may give: a position, or a crossing, of a ring
pub data Given : Type 0 where
  Position : (ring position : ℕ) → Given
  Crossing : (ring crossing : ℕ) → Given

-- a ring and a spot on it
pub record RingSpot : Type 0 where
  pub ring : ℕ
  pub spot : Spot

module _ (h : Header) where
  -- something happens on ring r
  unfoldable pub on_ring : Known → ℕ → RingChange → Known
  on_ring k r change = record k { ring = put k.ring r (changed (shape_of h r) (k.ring r) change) }

  unfoldable pub given_of : Known → ℕ → ℕ → ℕ → List Given
  given_of k a w r =
      map (Position r) (positions_given (shape_of h r) (k.ring r) a w) ++ map (Crossing r) (crossings_given (shape_of h r) (k.ring r) a w)

  -- all that a write gives
  unfoldable pub given_by : Known → ℕ → ℕ → List Given
  given_by k a w = flat_map (λ r. given_of k a w r.id) (driver_rings h)

  -- the spot that a Transfer Event names on a ring
  unfoldable pub spot_named : Known → Block → ℕ → Option Spot
  spot_named k b r = named_by (shape_of h r) (k.ring r) b

  -- the spot that it names, on the ring of its endpoint
  unfoldable pub spot_on : Known → Block → Option ℕ → Option RingSpot
  spot_on k b None = None
  spot_on k b (Some r) = option_map (λ t. record { ring = r; spot = t }) (spot_named k b r)

  -- where it tells of the service of its endpoint it names none
  unfoldable pub event_at : Known → Block → Option RingSpot
  event_at k b = if is_of_service (code b) then None else spot_on k b (k.ring_of (slot b) (endpoint b))

  -- how the code of a Transfer Event counts
  unfoldable pub code_told : Known → Block → ℕ
  code_told k b = counted_code (has_isoch h.version && k.isochronous (slot b) (endpoint b)) (code b)

  -- the position of the command ring whose command is finished next
  unfoldable pub next_command : Known → ℕ
  next_command k = floor_number (k.ring (command_id h))

  -- the command declared at a position of the command ring
  unfoldable pub command_at : Known → ℕ → Option Command
  command_at k p = option_and_then command_of (slice_get (k.ring (command_id h)).queue p)

  -- the positions of the commands that were given and whose completion wasn't read
  unfoldable pub unfinished_positions : Known → List ℕ
  unfinished_positions k = filter (k.ring (command_id h)).given (due_positions (shape_of h (command_id h)) (k.ring (command_id h)))

  -- these commands
  unfoldable pub unfinished : Known → List Command
  unfinished k = filter_map (command_at k) (unfinished_positions k)
