-- What a Transfer Event adds to what is known: xHCI 4.8.3, 4.9.2, 4.10.2, 6.4.2.1
use Rattle.std.specs.Prelude.{ℕ, ◌+◌, if◌then◌else◌, true, Option, Some, None}
use Rattle.guest_memory.specs.Memory.{put_pair}
use Rattle.trb.specs.declared.block.Block.{Block}
use Rattle.trb.specs.Block.{slot, endpoint}
use Rattle.trb.specs.CompletionCode.{is_success, is_halting, is_trb_error, is_stopping}
use Rattle.segments.specs.declared.spot.Spot.{Spot}
use Rattle.segments.specs.Spots.{number, after}
use Rattle.segments.specs.RingView.{Reaches, Holds}
use Rattle.segments.specs.Ceiling.{stopped_number}
use Rattle.commands.specs.declared.state.EndpointState.{EndpointState}
use Rattle.commands.specs.declared.state.EndpointState.TheVariants.{Halted, Error}
use Rattle.traces.specs.declared.header.Header.{Header}
use Rattle.traces.specs.Header.{shape_of}
use Rattle.ring_knowledge.specs.Known.{Known}
use Rattle.ring_knowledge.specs.Rings.{RingSpot, code_told, event_at, on_ring}

module _ (h : Header) where
  -- the block at a spot is finished
  unfoldable pub passed : Known → ℕ → Spot → Known
  passed k r t = on_ring h k r (Reaches (after (shape_of h r) (number t)))

  -- the controller stopped behind the block at a spot, with its endpoint in this state
  unfoldable pub broken_off : Known → ℕ → ℕ → ℕ → Spot → EndpointState → Known
  broken_off k s i r t state = record (on_ring h (passed k r t) r (Holds (number t + 1))) { endpoint_state = put_pair k.endpoint_state s i state }

  -- it was stopped at a spot
  unfoldable pub stopped_at : Known → ℕ → ℕ → ℕ → Spot → Known
  stopped_at k s i r t = record (on_ring h (on_ring h k r (Holds (stopped_number (shape_of h r) (k.ring r) t))) r (Reaches t)) {
    stop_seen = put_pair k.stop_seen s i true;
  }

  unfoldable pub transferred : Known → ℕ → ℕ → ℕ → ℕ → Spot → Known
  transferred k c s i r t =
      if is_success c then passed k r t else
      if is_halting c then record (broken_off k s i r t Halted) { must_move = put_pair k.must_move s i true } else
      if is_trb_error c then broken_off k s i r t Error else
      if is_stopping c then stopped_at k s i r t else k

  unfoldable pub transferred_at : Known → Block → Option RingSpot → Known
  transferred_at k b None = k
  transferred_at k b (Some at) = transferred k (code_told h k b) (slot b) (endpoint b) at.ring at.spot

  unfoldable pub transfer_read : Known → Block → Known
  transfer_read k b = transferred_at k b (event_at h k b)
