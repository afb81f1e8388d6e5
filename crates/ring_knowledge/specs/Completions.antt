-- What a Command Completion Event adds to what is known: xHCI 4.5.3, 4.6, 4.8.3
use Rattle.std.specs.Prelude.{ℕ, ◌==◌, ◌&&◌, if◌then◌else◌, Bool, true, false, List, [], ◌∷◌, Option, Some, None}
use Rattle.guest_memory.specs.Memory.{put, put_pair}
use Rattle.trb.specs.declared.block.Block.{Block}
use Rattle.trb.specs.Block.{code, slot}
use Rattle.segments.specs.declared.spot.Spot.{Spot}
use Rattle.segments.specs.Spots.{number, after}
use Rattle.segments.specs.RingView.{Reaches, Holds}
use Rattle.segments.specs.Ceiling.{ceiling}
use Rattle.segments.specs.Moves.{target}
use Rattle.commands.specs.declared.command.Command.{Command}
use Rattle.commands.specs.declared.command.Command.TheVariants.{StopEndpoint}
use Rattle.commands.specs.declared.state.EndpointState.{EndpointState}
use Rattle.commands.specs.declared.state.EndpointState.TheVariants.{Disabled as Off, Stopped}
use Rattle.commands.specs.States.{is_off}
use Rattle.commands.specs.Changes.{Change, SlotGoesOn, DeviceLeft, Types, Disables, Places, Stops, Resets, changes, slot_gone_on}
use Rattle.traces.specs.declared.header.Header.{Header}
use Rattle.traces.specs.Header.{shape_of, command_id, ring_having}
use Rattle.ring_knowledge.specs.Known.{Known}
use Rattle.ring_knowledge.specs.Rings.{command_at, next_command, on_ring}

module _ (h : Header) where
  -- the pointer of ring r was set to a spot
  unfoldable pub set_to : Known → ℕ → Spot → Known
  set_to k r t = on_ring h (on_ring h k r (Reaches t)) r (Holds (number t))

  unfoldable pub moved_to : Known → ℕ → Option Spot → Known
  moved_to k r None = k
  moved_to k r (Some t) = set_to k r t

  -- the ring of an endpoint is moved to the spot that a pointer and a cycle state name
  unfoldable pub moved : Known → Option ℕ → ℕ → Bool → Known
  moved k None p cycle = k
  moved k (Some r) p cycle = moved_to k r (target (shape_of h r) (k.ring r) p cycle)

  -- an endpoint gets a ring, which is moved to the spot that a pointer and a cycle state name
  unfoldable pub bound_to : Known → ℕ → ℕ → Option ℕ → ℕ → Bool → Known
  bound_to k s i None p cycle = k
  bound_to k s i (Some r) p cycle = record (moved k (Some r) p cycle) { ring_of = put_pair k.ring_of s i (Some r); was_bound = put k.was_bound r true }

  -- a Disabled endpoint gets the ring that has the block at the pointer, any other keeps its ring; the ring is moved there
  unfoldable pub pointed : Known → ℕ → ℕ → ℕ → Bool → Known
  pointed k s i p cycle = if is_off (k.endpoint_state s i) then bound_to k s i (ring_having h p) p cycle else moved k (k.ring_of s i) p cycle

  -- the endpoints of a slot that a test names are disabled, and have no ring
  unfoldable pub disabled : Known → ℕ → (ℕ → Bool) → Known
  disabled k s which = record k {
    endpoint_state = λ t i. if t == s && which i then Off else k.endpoint_state t i;
    ring_of = λ t i. if t == s && which i then None else k.ring_of t i;
  }

  -- of the endpoints of a slot that a test names those are isochronous that another one names
  unfoldable pub typed : Known → ℕ → (ℕ → Bool) → (ℕ → Bool) → Known
  typed k s which isochronous = record k { isochronous = λ t i. if t == s && which i then isochronous i else k.isochronous t i }

  unfoldable pub in_state : Known → ℕ → ℕ → EndpointState → Known
  in_state k s i state = record k { endpoint_state = put_pair k.endpoint_state s i state }

  -- the ring of a stopped endpoint is held at its ceiling
  unfoldable pub held_at_ceiling : Known → Option ℕ → Known
  held_at_ceiling k None = k
  held_at_ceiling k (Some r) = on_ring h k r (Holds (ceiling (shape_of h r) (k.ring r)))

  unfoldable pub changed_by : Command → Known → Change → Known
  changed_by c k (SlotGoesOn s) = record k { slot_state = slot_gone_on c k.slot_state s }
  changed_by c k (DeviceLeft s) = record k { device = put k.device s None }
  changed_by c k (Types s which isochronous) = typed k s which isochronous
  changed_by c k (Disables s which) = disabled k s which
  changed_by c k (Places s i p cycle state) = record (in_state (pointed k s i p cycle) s i state) { must_move = put_pair k.must_move s i false }
  changed_by c k (Stops s i) = held_at_ceiling (in_state k s i Stopped) (k.ring_of s i)
  changed_by c k (Resets s i) = in_state k s i Stopped

  unfoldable pub changed_by_all : Command → Known → List Change → Known
  changed_by_all c k [] = k
  changed_by_all c k (change ∷ rest) = changed_by_all c (changed_by c k change) rest

  -- what the success of a command does; n is the slot of the event
  unfoldable pub succeeded : Known → ℕ → Command → Known
  succeeded k n c = changed_by_all c k (changes h.context_size k.memory n c)

  -- a Stop Endpoint has come to its end
  unfoldable pub stop_ended : Known → Command → Known
  stop_ended k (StopEndpoint s i) = record k { stop_seen = put_pair k.stop_seen s i false }
  stop_ended k _ = k

  unfoldable pub finished : Known → Block → Option Command → Known
  finished k b None = k
  finished k b (Some c) = stop_ended (if code b == 1 then succeeded k (slot b) c else k) c

  -- the next command is finished
  unfoldable pub completed : Known → Block → Known
  completed k b = on_ring h (finished k b (command_at h k (next_command h k))) (command_id h) (Reaches (after (shape_of h (command_id h)) (next_command h k)))
