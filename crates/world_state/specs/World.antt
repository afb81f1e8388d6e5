-- The world: memory, registers, states, rings and events, as the driver's rows and the controller's steps have left them
use Rattle.std.specs.Prelude.{ℕ, ◌+◌, ◌==◌, if◌then◌else◌, Bool, false, List, [], Option, None}
use Rattle.guest_memory.specs.Memory.{put}
use Rattle.trb.specs.declared.block.Block.{Block}
use Rattle.trb.specs.Block.{block_at, word}
use Rattle.segments.specs.Descriptors.{DeclaredBlock}
use Rattle.commands.specs.declared.state.SlotState.{SlotState}
use Rattle.commands.specs.declared.state.SlotState.TheVariants.{Disabled}
use Rattle.commands.specs.declared.state.EndpointState.{EndpointState}
use Rattle.commands.specs.declared.state.EndpointState.TheVariants.{Disabled as Off}
use Rattle.segments.specs.Places.{address_of}
use Rattle.traces.specs.declared.header.Header.{Header}
use Rattle.traces.specs.declared.register.Register.{Register}
use Rattle.traces.specs.Header.{event_shape}

-- what happened on a ring: a block was taken, with what was declared at its position then; or the dequeue pointer was set to an
-- address
pub data RingEvent : Type 0 where
  Took : (address : ℕ) (block : Block) (declared : Option DeclaredBlock) → RingEvent
  Placed : (address : ℕ) → RingEvent

-- a command that was taken and isn't finished
pub record UnderWay : Type 0 where
  -- where its block lies, and its words when it was taken
  pub address : ℕ
  pub block : Block
  -- it is a Stop Endpoint whose Stopped event was posted
  pub has_stopped : Bool

pub record World : Type 0 where
  -- how many steps were made
  pub steps : ℕ
  -- the controller was started; and, where it runs but once, after that stopped or reset
  pub started : Bool
  pub stopped : Bool
  -- R/S was cleared in a run, and the controller halted since
  pub halting : Bool
  pub halted : Bool
  pub register : Register → Option ℕ
  pub memory : ℕ → ℕ
  -- by address: at which step the word was last changed, and last written
  pub changed : ℕ → ℕ
  pub written : ℕ → ℕ
  -- by ring ID: the declared blocks, and how many blocks each declared descriptor has
  pub queue : ℕ → List Block
  pub lengths : ℕ → List ℕ
  -- by slot, and by slot and endpoint index (DCI)
  pub slot_state : ℕ → SlotState
  pub endpoint_state : ℕ → ℕ → EndpointState
  pub ring_of : ℕ → ℕ → Option ℕ
  -- the endpoint is isochronous, by the context that added it last
  pub isochronous : ℕ → ℕ → Bool
  -- by slot: the controller may write its device context
  pub scribbles : ℕ → Bool
  -- by ring ID: the dequeue pointer, the Consumer Cycle State, whether the controller may look at the ring
  pub pointer_of : ℕ → ℕ
  pub cycle_state : ℕ → ℕ
  pub is_active : ℕ → Bool
  -- by ring ID: what happened, the newest first, and how many of the takes were reported
  pub events : ℕ → List RingEvent
  pub reported : ℕ → ℕ
  -- how many events were posted and read, and the event position that ERDP names
  pub posted : ℕ
  pub reads : ℕ
  pub dequeue : ℕ
  pub under_way : Option UnderWay
  -- a look was outside a ring's segments
  pub looked_outside : Bool
  -- an event was posted while no event ring was there, where rings of that kind come and go
  pub posted_nowhere : Bool

-- before the first row: memory is 0, all slots and endpoints are Disabled, nothing is posted
unfoldable pub opening : World
opening = record {
  steps = 0;
  started = false;
  stopped = false;
  halting = false;
  halted = false;
  register = λ r. None;
  memory = λ a. 0;
  changed = λ a. 0;
  written = λ a. 0;
  queue = λ r. [];
  lengths = λ r. [];
  slot_state = λ s. Disabled;
  endpoint_state = λ s i. Off;
  ring_of = λ s i. None;
  isochronous = λ s i. false;
  scribbles = λ s. false;
  pointer_of = λ r. 0;
  cycle_state = λ r. 0;
  is_active = λ r. false;
  events = λ r. [];
  reported = λ r. 0;
  posted = 0;
  reads = 0;
  dequeue = 0;
  under_way = None;
  looked_outside = false;
  posted_nowhere = false;
}

-- a word of memory is written, in the step that is being made; only another value changes it
unfoldable pub stored : World → ℕ → ℕ → World
stored w a x = record w {
  memory = put w.memory a x;
  changed = if w.memory a == x then w.changed else put w.changed a (w.steps + 1);
  written = put w.written a (w.steps + 1);
}

unfoldable pub stored_block : World → ℕ → Block → World
stored_block w a b = stored (stored (stored (stored w a (word b 0)) (a + 4) (word b 1)) (a + 8) (word b 2)) (a + 12) (word b 3)

-- the block at event position p
unfoldable pub event_at : Header → World → ℕ → Block
event_at h w p = block_at w.memory (address_of (event_shape h) p)
