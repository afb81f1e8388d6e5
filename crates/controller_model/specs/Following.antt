-- How what the program keeps stands for the world
use Rattle.std.specs.Prelude.{◌≡◌, ℕ, ◌+◌, ◌*◌, ◌%◌, ◌<◌, ◌≤◌, ◌^◌, if◌then◌else◌, Bool, true, List, ◌∷◌, Option, Some, None, IsSome, slice_get, option_map, ◌==◌, ◌&&◌, not, length, nat_le, false, Result, Ok, Err}
use Rattle.commands.specs.declared.command.Command.{Command}
use Rattle.commands.specs.declared.command.Command.TheVariants.{AddressDevice}
use Rattle.controller_model.specs.declared.seen.Seen.{Seen}
use Rattle.controller_model.specs.declared.fault.StepFault.{StepFault}
use Rattle.controller_model.specs.declared.fault.StepFault.TheVariants.{NotPossible, Spent, Memory}
use Rattle.trb.specs.declared.block.Block.{Block}
use Rattle.segments.specs.ShapeValue.{Shape}
use Rattle.commands.specs.declared.state.SlotState.{SlotState}
use Rattle.commands.specs.declared.state.EndpointState.{EndpointState}
use Rattle.commands.specs.declared.state.EndpointState.TheVariants.{Disabled as Off}
use Rattle.traces.specs.declared.header.Header.{Header}
use Rattle.traces.specs.declared.ring.Ring.{Ring}
use Rattle.traces.specs.declared.register.Register.{Register}
use Rattle.traces.specs.declared.register.Register.TheVariants.{Usbcmd, Usbsts, Dnctrl, Crcr, Dcbaap, Config, Iman, Imod, Erstsz, Erstba, Erdp}
use Rattle.traces.specs.Register.{register_or_zero, base_address, ring_cycle_state}
use Rattle.guest_memory.specs.Memory.{put, put_pair}
use Rattle.traces.specs.declared.step.Step.{Step}
use Rattle.traces.specs.declared.step.Step.TheVariants.{NextRow, Look, Report, Finish, Other, Scribble, Halt}
use Rattle.traces.specs.Header.{shape_of, ring_with, is_command_kind, is_ring}
use Rattle.std.specs.List.{list_any}
use Rattle.traces.specs.Versions.{has_isoch}
use Rattle.world_state.specs.World.{World, RingEvent, Took, Placed, UnderWay}
use Rattle.world_state.specs.Takes.{next_take, takes_of}
use Rattle.segments.specs.Descriptors.{declared_at}
use Rattle.controller_model.specs.declared.kept.Kept.{Kept}
use Rattle.controller_model.specs.declared.kept.Progress.{Progress}
use Rattle.controller_model.specs.declared.kept.Registers.{Registers}
use Rattle.controller_model.specs.declared.kept.RingState.{RingState}
use Rattle.controller_model.specs.declared.kept.Holder.{Holder}
use Rattle.controller_model.specs.declared.disabling.Named.{Named}
use Rattle.controller_model.specs.declared.disabling.Named.TheVariants.{All, AboveControl, Dropped}
use Rattle.commands.specs.Changes.{is_above_control}
use Rattle.contexts.specs.Contexts.{has_flag}
use Rattle.controller_model.specs.declared.kept.Slot.{Slot}
use Rattle.controller_model.specs.declared.kept.Endpoint.{Endpoint}
use Rattle.controller_model.specs.declared.kept.Events.{Events}
use Rattle.controller_model.specs.declared.kept.Pending.{Pending}
use Rattle.trb.specs.Block.{code, slot, endpoint}
use Rattle.trb.specs.CompletionCode.{is_of_service}
use Rattle.world_state.specs.Posts.{code_posted, report_code}
use Rattle.world_state.specs.Bindings.{is_had_by_another}
use Rattle.controller_model.specs.Held.{held, held_by}
use Rattle.controller_model.specs.Declarations.{Declares}
use Rattle.controller_model.specs.Histories.{Keeps, ShowsHarms}

-- each ring that lives is one that was declared
abbrev pub Lists : Header → Header → Type 0
Lists h live = (r : ℕ) (q : Ring) → ring_with live r ≡ Some q → ring_with h r ≡ Some q

-- what the world has of one ring
pub record RingHeld : Type 0 where
  pub queue : List Block
  pub lengths : List ℕ
  pub pointer : ℕ
  pub cycle : ℕ
  pub is_active : Bool
  pub events : List RingEvent
  pub reported : ℕ
  -- by slot and index: the endpoint has it
  pub had_by : ℕ → ℕ → Bool

abbrev pub ring_held : World → ℕ → RingHeld
ring_held w r = record {
  queue = w.queue r;
  lengths = w.lengths r;
  pointer = w.pointer_of r;
  cycle = w.cycle_state r;
  is_active = w.is_active r;
  events = w.events r;
  reported = w.reported r;
  had_by = λ s i. is_ring r (w.ring_of s i);
}

-- the endpoints that there are: of slots 1 to 255, with the indices 1 to 31
pub record IsEndpoint (s i : ℕ) : Type 0 where
  pub some_slot : 0 < s
  pub slot_below : s < 256
  pub some_index : 0 < i
  pub index_below : i < 32

abbrev pub is_holder : Option Holder → ℕ → ℕ → Bool
is_holder None s i = false
is_holder (Some e) s i = s == e.slot && i == e.index

-- a ring of which it is noted that its block is taken, and where the pointer moves on too
abbrev pub noted_held : Shape → RingHeld → Block → RingHeld
noted_held shape held b = record held { events = Took held.pointer b (declared_at held.queue held.lengths (next_take shape held.events)) ∷ held.events }

abbrev pub taken_held : Shape → RingHeld → Block → RingHeld
taken_held shape held b = record (noted_held shape held b) { pointer = (held.pointer + 16) % 2 ^ 64 }

-- the endpoint that has a ring, if one has it
pub record FollowsHolder (had_by : ℕ → ℕ → Bool) (o : Option Holder) : Type 0 where
  pub each : (s i : ℕ) → IsEndpoint s i → had_by s i ≡ is_holder o s i
  pub is_one : (e : Holder) → o ≡ Some e → IsEndpoint e.slot e.index

pub record FollowsRing (h : Header) (r : ℕ) (held : RingHeld) (x : RingState) : Type 0 where
  pub declared : Declares x.declared held.queue held.lengths
  pub history : Keeps (shape_of h r) held.events held.reported x.history
  -- nobody asks for the harms of a ring that isn't there
  pub harms : IsSome (ring_with h r) → ShowsHarms (shape_of h r) held.events x.history
  pub pointer : held.pointer ≡ x.pointer
  pub cycle : held.cycle ≡ (if x.cycle then 1 else 0)
  pub active : held.is_active ≡ x.is_active
  pub holder : FollowsHolder held.had_by x.holder

pub record FollowsRings (h : Header) (held : ℕ → RingHeld) (rings : List RingState) : Type 0 where
  pub each : (r : ℕ) (x : RingState) → slice_get rings r ≡ Some x → FollowsRing h r (held r) x

pub record FollowsProgress (p : Progress) (count : ℕ) (start stop halts halt : Bool) : Type 0 where
  pub steps : count ≡ p.steps
  pub started : start ≡ p.started
  pub stopped : stop ≡ p.stopped
  pub halting : halts ≡ p.halting
  pub halted : halt ≡ p.halted

pub record FollowsRegisters (k : Registers) (register : Register → Option ℕ) : Type 0 where
  pub dcbaap : register_or_zero register Dcbaap ≡ k.dcbaap
  pub config : register_or_zero register Config ≡ k.config

pub record FollowsSlots (slots : List Slot) (state : ℕ → SlotState) (scribbles : ℕ → Bool) : Type 0 where
  pub each : (s : ℕ) (x : Slot) → slice_get slots s ≡ Some x → (state s ≡ x.state) × (scribbles s ≡ x.scribbles)

pub record FollowsEndpoints (endpoints : List Endpoint) (state : ℕ → ℕ → EndpointState) (ring_of : ℕ → ℕ → Option ℕ) (isochronous : ℕ → ℕ → Bool) : Type 0 where
  pub each : (s i : ℕ) (x : Endpoint) → i < 32 → slice_get endpoints (s * 32 + i) ≡ Some x →
      (state s i ≡ x.state) × (ring_of s i ≡ x.ring) × (isochronous s i ≡ x.is_isochronous)
  -- there are no other endpoints
  pub no_more : (s i : ℕ) → 32 ≤ i → ring_of s i ≡ None
  pub low : (s i r : ℕ) → ring_of s i ≡ Some r → r < 256

pub record FollowsEvents (e : Events) (post read at : ℕ) : Type 0 where
  pub posted : post ≡ e.posted
  pub reads : read ≡ e.reads
  pub dequeue : at ≡ e.dequeue

abbrev pub under_way_of : Pending → UnderWay
under_way_of p = record { address = p.address; block = p.block; has_stopped = p.has_stopped }

-- memory with these words and what is kept beside it stand for a world
pub record Follows (h : Header) (words : ℕ → ℕ) (k : Kept) (w : World) : Type 0 where
  pub progress : FollowsProgress k.progress w.steps w.started w.stopped w.halting w.halted
  pub registers : FollowsRegisters k.registers w.register
  pub held : held_by w ≡ held words k.stamps
  -- beyond the last address there is no memory
  pub beyond : (a : ℕ) → 2 ^ 64 ≤ a → words a ≡ 0
  pub rings : FollowsRings h (ring_held w) k.rings.items
  pub slots : FollowsSlots k.slots.items w.slot_state w.scribbles
  pub endpoints : FollowsEndpoints k.endpoints.items w.endpoint_state w.ring_of w.isochronous
  pub events : FollowsEvents k.events w.posted w.reads w.dequeue
  pub under_way : w.under_way ≡ option_map under_way_of k.under_way
  pub looked : w.looked_outside ≡ k.looked_outside
  pub nowhere : w.posted_nowhere ≡ k.posted_nowhere

-- an answer to a step that the definitions allow as told: it leads to a world, or a scene, of which P holds, and shows this; want of memory
-- may come at any step, and tells nothing
abbrev pub IsStep : {X : Type 0} → Result Seen StepFault → Option X → Seen → (X → Type 0) → Type 0
IsStep (Ok seen) None shown P = ⊥
IsStep (Ok seen) (Some w) shown P = (seen ≡ shown) × P w
IsStep (Err NotPossible) None shown P = Unit {0}
IsStep (Err NotPossible) (Some w) shown P = ⊥
IsStep (Err Memory) o shown P = Unit {0}
IsStep (Err Spent) o shown P = ⊥

-- a change that the definitions allow as told: what is kept then stands for a world of which P holds
abbrev pub IsChange : Bool → Option World → (World → Type 0) → Type 0
IsChange true None P = ⊥
IsChange true (Some w) P = P w
IsChange false None P = Unit {0}
IsChange false (Some w) P = ⊥

-- how far the run is and its events are as they were
pub record KeepsRun (before after : Kept) : Type 0 where
  pub progress : after.progress ≡ before.progress
  pub events : after.events ≡ before.events

-- the slot whose device context the controller may write from the take of a command on
abbrev pub addressed : Option Command → Option ℕ
addressed (Some (AddressDevice s bsr c)) = Some s
addressed _ = None

abbrev pub is_it : ℕ → Option ℕ → Bool
is_it t None = false
is_it t (Some s) = t == s

-- the registers with one more write
abbrev pub noted : Registers → Register → ℕ → Registers
noted k Crcr v = k
noted k Dcbaap v = record k { dcbaap = v }
noted k Config v = record k { config = v }
noted k Usbcmd v = k
noted k Usbsts v = k
noted k Dnctrl v = k
noted k Iman v = k
noted k Imod v = k
noted k Erstsz v = k
noted k Erstba v = k
noted k Erdp v = k

-- a ring's pointer and cycle state are those of a value of CRCR
abbrev pub pointed : World → ℕ → ℕ → World
pointed w r crcr = record w {
  pointer_of = put w.pointer_of r (base_address crcr);
  cycle_state = put w.cycle_state r (ring_cycle_state crcr);
}

-- of these rings the command rings are inactive
abbrev pub idle : World → List Ring → World
idle w rings = record w { is_active = λ r. w.is_active r && not (list_any (λ q. is_command_kind q.shape.kind && q.id == r) rings) }

-- no endpoint has the ring, and it is inactive
abbrev pub left_alone : RingHeld → RingHeld
left_alone held = record held { is_active = false; had_by = λ s i. false }

-- a ring is as it was, but that
pub record IsLeft (before after : RingState) : Type 0 where
  pub follows : (h : Header) (r : ℕ) (held : RingHeld) → FollowsRing h r held before → FollowsRing h r (left_alone held) after

pub record AreLeft (before after : List RingState) : Type 0 where
  pub each : (i : ℕ) (x y : RingState) → slice_get before i ≡ Some x → slice_get after i ≡ Some y → IsLeft x y

-- a step is a look or a post
abbrev pub acts : Step → Bool
acts NextRow = false
acts (Look r) = true
acts (Report b) = true
acts (Finish b) = true
acts (Other b) = true
acts (Scribble a x) = false
acts Halt = false

-- what a Transfer Event says of an endpoint's ring, if it has one, before it is posted
abbrev pub told : Header → World → Block → Option ℕ → Option World
told h w b None = None
told h w b (Some r) =
    if has_isoch h.version && is_of_service (code b) then Some w
    else report_code h w (code_posted h w b) (slot b) (endpoint b) r b

-- slot 0 and index 0 are no endpoint's
abbrev pub is_endpoint : ℕ → ℕ → Bool
is_endpoint s i = not (s == 0) && not (i == 0)

-- someone has a ring who is not this endpoint
abbrev pub is_other : Option Holder → ℕ → ℕ → Bool
is_other None s i = false
is_other (Some e) s i = not (e.slot == s && e.index == i)

-- an endpoint has ring r no more, and that is inactive
abbrev pub released : World → ℕ → ℕ → ℕ → World
released w s i r = record w { is_active = put w.is_active r false; ring_of = put_pair w.ring_of s i None }

abbrev pub freed : World → ℕ → ℕ → Option ℕ → World
freed w s i None = w
freed w s i (Some r) = released w s i r

-- an endpoint that has no ring gets ring r
abbrev pub bound : World → ℕ → ℕ → ℕ → ℕ → Bool → EndpointState → World
bound w s i r a c state = record w {
  is_active = put w.is_active r false;
  endpoint_state = put_pair w.endpoint_state s i state;
  ring_of = put_pair w.ring_of s i (Some r);
  pointer_of = put w.pointer_of r a;
  cycle_state = put w.cycle_state r (if c then 1 else 0);
  events = put w.events r (Placed a ∷ w.events r);
  reported = put w.reported r (length (takes_of (w.events r)));
}

-- an endpoint may get a ring that no other one has
abbrev pub may_get : World → ℕ → ℕ → Option ℕ → Bool
may_get w s i None = false
may_get w s i (Some r) = not (is_had_by_another w s i r)

-- an endpoint is disabled, and has no ring
abbrev pub turned_off : World → ℕ → ℕ → World
turned_off w s i = record w { endpoint_state = put_pair w.endpoint_state s i Off; ring_of = put_pair w.ring_of s i None }

-- the endpoints that a command disables
abbrev pub named_by : Named → ℕ → Bool
named_by All i = true
named_by AboveControl i = is_above_control i
named_by (Dropped flags) i = nat_le 2 i && has_flag flags i

-- some world of which both hold
pub record GoesOn (P Q : World → Type 0) : Type 0 where
  pub world : World
  pub first : P world
  pub second : Q world
