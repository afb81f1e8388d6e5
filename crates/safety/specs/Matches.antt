-- What the controller did is what is known of it when all posted events are read
use Rattle.std.specs.Prelude.{◌≡◌, ◌≢◌, ℕ, ◌+◌, ◌-◌, ◌*◌, ◌/◌, ◌<◌, ◌≤◌, ◌⊎◌, Bool, true, false, List, [], ◌∷◌, length, drop, map, Option, Some, None, slice_get}
use Rattle.std.specs.List.{range_with_len}
use Rattle.trb.specs.declared.block.Block.{Block}
use Rattle.trb.specs.Block.{with_cycle}
use Rattle.segments.specs.ShapeValue.{Shape}
use Rattle.segments.specs.declared.spot.Spot.{Spot}
use Rattle.segments.specs.declared.spot.Spot.TheVariants.{Data}
use Rattle.segments.specs.Places.{address_of, cycle_of}
use Rattle.segments.specs.Spots.{IsSpot, rank, number, spot_address, spot_cycle}
use Rattle.segments.specs.Descriptors.{is_border}
use Rattle.segments.specs.RingView.{RingView, floor_number}
use Rattle.segments.specs.Ceiling.{ceiling, data_at, is_way_given, is_step_given}
use Rattle.commands.specs.declared.command.Command.{Command}
use Rattle.commands.specs.Command.{named_context}
use Rattle.contexts.specs.Contexts.{input_context_bytes}
use Rattle.traces.specs.declared.header.Header.{Header}
use Rattle.traces.specs.Header.{shape_of, command_id}
use Rattle.world_state.specs.declared.take.Take.{Take}
use Rattle.world_state.specs.World.{World, RingEvent, Took, Placed, UnderWay}
use Rattle.world_state.specs.Takes.{takes_of, next_take}
use Rattle.world_state.specs.Harms.{is_end, is_out_of_order, has_other_words}
use Rattle.ring_knowledge.specs.Known.{Known}
use Rattle.ring_knowledge.specs.Rings.{command_at, next_command}
use Rattle.ownership_rules.specs.Events.{was_stop_seen}
use Rattle.ownership_rules.specs.Registers.{is_named, is_used}
use Rattle.safety.specs.Keeps.{IsUnfinished}
use Rattle.safety.specs.Stands.{Stands, EventsStand}

-- the newest event of a ring whose pointer has number n: where it is no take, n is a border; behind a take that doesn't end its
-- descriptor the next block is given, and the crossing to it. Nothing is said of what is declared at the position that was
-- taken: a take keeps what was declared at its time
abbrev pub Newest : Shape → RingView → ℕ → List RingEvent → Type 0
Newest shape v n [] = is_border v.lengths 0 n ≡ true
Newest shape v n (Placed a ∷ older) = is_border v.lengths 0 n ≡ true
Newest shape v n (Took a b d ∷ older) = is_end d ≡ false → is_step_given shape v n ≡ true

-- one ring as the controller has it
pub record RingState : Type 0 where
  pub pointer : ℕ
  pub cycle : ℕ
  pub active : Bool
  pub events : List RingEvent
  pub reported : ℕ

abbrev pub state_of : World → ℕ → RingState
state_of w r = record { pointer = w.pointer_of r; cycle = w.cycle_state r; active = w.is_active r; events = w.events r; reported = w.reported r }

-- a ring whose pointer stands at spot t
pub record RingMatches (shape : Shape) (v : RingView) (s : RingState) (t : Spot) : Type 0 where
  pub is_spot : IsSpot shape t
  pub pointer : s.pointer ≡ spot_address shape t
  pub cycle : s.cycle ≡ spot_cycle shape t
  pub reached : rank v.floor ≤ rank t
  pub below : number t ≤ ceiling shape v
  -- a pointer behind a Link is there because the Link was given
  pub way : (q : ℕ) → t ≡ Data q → is_way_given shape v q ≡ true
  pub opened : s.active ≡ true → v.held ≡ None
  pub next : next_take shape s.events ≡ number t
  pub newest : Newest shape v (number t) s.events
  pub in_order : is_out_of_order shape s.events ≡ false
  pub as_declared : has_other_words shape s.events ≡ false

-- a ring that can't be looked at; its takes were as they should be
pub record Rests (shape : Shape) (s : RingState) : Type 0 where
  pub inactive : s.active ≡ false
  pub in_order : is_out_of_order shape s.events ≡ false
  pub as_declared : has_other_words shape s.events ≡ false

-- the take of the block that is declared at a position
abbrev pub take_at : Shape → List Block → ℕ → Take
take_at shape queue p = record { address = address_of shape p; value = data_at queue p }

-- the takes from the floor on, and no others, are unreported
pub record Unreported (shape : Shape) (v : RingView) (s : RingState) (t : Spot) : Type 0 where
  pub takes : drop s.reported (takes_of s.events) ≡ map (take_at shape v.queue) (range_with_len (floor_number v) (number t - floor_number v))
  -- no more takes are reported than there are: else a later take would count as reported
  pub most : s.reported ≤ length (takes_of s.events)

-- an endpoint has ring r
pub record BoundRing (shape : Shape) (ring_of : ℕ → ℕ → Option ℕ) (v : RingView) (s : RingState) (r : ℕ) : Type 0 where
  pub slot : ℕ
  pub index : ℕ
  pub bound : ring_of slot index ≡ Some r
  pub spot : Spot
  pub matches : RingMatches shape v s spot
  pub takes : Unreported shape v s spot

-- no endpoint has it: the next take is between the floor and the ceiling
pub record FreeRing (shape : Shape) (ring_of : ℕ → ℕ → Option ℕ) (v : RingView) (s : RingState) (r : ℕ) : Type 0 where
  pub none : (t i : ℕ) → ring_of t i ≢ Some r
  pub rests : Rests shape s
  pub from : floor_number v ≤ next_take shape s.events
  pub to : next_take shape s.events ≤ ceiling shape v

module _ (h : Header) where
  -- which of the two it is, is part of the invariant
  abbrev pub EndpointRing : Known → World → ℕ → Type 0
  EndpointRing k w r = BoundRing (shape_of h r) k.ring_of (k.ring r) (state_of w r) r ⊎ FreeRing (shape_of h r) k.ring_of (k.ring r) (state_of w r) r

  -- the command that was taken is the one at the floor
  pub record TakenCommand (k : Known) (u : UnderWay) : Type 0 where
    pub address : u.address ≡ address_of (shape_of h (command_id h)) (next_command h k)
    pub words : (d : Block) → slice_get (k.ring (command_id h)).queue (next_command h k) ≡ Some d →
        u.block ≡ with_cycle d (cycle_of (shape_of h (command_id h)) (next_command h k))
    pub stopped : (c : Command) → command_at h k (next_command h k) ≡ Some c → u.has_stopped ≡ was_stop_seen k c

  abbrev pub UnderWayMatches : Known → Spot → Option UnderWay → Type 0
  UnderWayMatches k t None = (number t ≡ next_command h k) × ((s i : ℕ) → k.stop_seen s i ≡ false)
  UnderWayMatches k t (Some u) = (number t ≡ next_command h k + 1) × TakenCommand k u

  -- of the command ring nothing is said of reports: a command's take is never reported
  pub record CommandMatches (k : Known) (w : World) : Type 0 where
    pub spot : Spot
    pub ring : RingMatches (shape_of h (command_id h)) (k.ring (command_id h)) (state_of w (command_id h)) spot
    pub under_way : UnderWayMatches k spot w.under_way

  -- while CRCR doesn't name it, the controller has no pointer into the command ring
  pub record NotNamed (w : World) : Type 0 where
    pub rests : Rests (shape_of h (command_id h)) (state_of w (command_id h))
    pub none : w.under_way ≡ None

  -- no word of the input context was changed after the control word at address at + 12 was last written
  abbrev pub IsUnchanged : World → ℕ → Option ℕ → Type 0
  IsUnchanged w at None = Unit {0}
  IsUnchanged w at (Some c) = (i : ℕ) → i < input_context_bytes h.context_size / 4 → w.changed (c + 4 * i) ≤ w.written (at + 12)

  pub record Matches (k : Known) (w : World) : Type 0 where
    pub slots : (s : ℕ) → w.slot_state s ≡ k.slot_state s
    pub endpoints : (s i : ℕ) → w.endpoint_state s i ≡ k.endpoint_state s i
    pub ring_of : (s i : ℕ) → w.ring_of s i ≡ k.ring_of s i
    pub isochronous : (s i : ℕ) → w.isochronous s i ≡ k.isochronous s i
    -- any number but the command ring's, also one that no ring has
    pub rings : (r : ℕ) → r ≢ command_id h → EndpointRing k w r
    pub before : is_named k ≡ false → NotNamed w
    pub command : is_named k ≡ true → CommandMatches k w
    -- nothing was taken of a command ring that wasn't started
    pub new : is_used h k ≡ false → next_take (shape_of h (command_id h)) (w.events (command_id h)) ≡ 0
    pub scribbles : (s : ℕ) → w.scribbles s ≡ true → k.device s ≢ None
    -- an input context wasn't changed since its command was given
    pub contexts : (p : ℕ) (c : Command) → IsUnfinished h k p c → IsUnchanged w (address_of (shape_of h (command_id h)) p) (named_context c)
    pub inside : w.looked_outside ≡ false
    pub there : w.posted_nowhere ≡ false

  -- a world whose unread events, read beside it, lead to what is known in k
  pub record Agrees (k : Known) (unread : List Block) (w : World) : Type 0 where
    pub stands : Stands h k w
    pub events : EventsStand h w unread
    pub matches : Matches k w
    pub read : w.posted ≡ k.reads
    -- no stamp is later than now
    pub stamps : (a : ℕ) → w.changed a ≤ w.steps
