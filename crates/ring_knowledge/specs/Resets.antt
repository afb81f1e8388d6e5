-- What is known behind a reset (HCRST): xHCI 4.2, 5.4.1
-- The controller forgets slots, endpoints, its registers, and what it has posted; memory stays, and so do the rings of transfers: each stands
-- somewhere from its floor up to what was given. Of the command ring all that was given is over: the controller has no pointer into it
use Rattle.std.specs.Prelude.{ℕ, zero, suc, ◌+◌, ◌-◌, ◌&&◌, if◌then◌else◌, Bool, false, None}
use Rattle.segments.specs.declared.spot.Spot.{Spot}
use Rattle.segments.specs.declared.spot.Spot.TheVariants.{Data}
use Rattle.segments.specs.ShapeValue.{Shape}
use Rattle.segments.specs.Spots.{after}
use Rattle.segments.specs.RingView.{RingView, Reaches, Opens, Holds, changed}
use Rattle.segments.specs.Ceiling.{ceiling, given_count}
use Rattle.commands.specs.declared.state.SlotState.TheVariants.{Disabled}
use Rattle.commands.specs.declared.state.EndpointState.TheVariants.{Disabled as Off}
use Rattle.traces.specs.declared.header.Header.{Header}
use Rattle.traces.specs.declared.halt.Halt.TheVariants.{Not}
use Rattle.traces.specs.declared.register.Register.{Register}
use Rattle.traces.specs.declared.register.Register.TheVariants.{Usbcmd}
use Rattle.traces.specs.Header.{command_ring, id_of, is_ring, shape_of}
use Rattle.traces.specs.Halts.{is_done}
use Rattle.traces.specs.Register.{reset_bit}
use Rattle.ring_knowledge.specs.Known.{Known}

-- the spot behind the first n blocks
unfoldable pub behind_blocks : Shape → ℕ → Spot
behind_blocks shape zero = Data 0
behind_blocks shape (suc p) = after shape p

-- what was given is over
unfoldable pub given_up : Shape → RingView → RingView
given_up shape v = changed shape (changed shape v (Reaches (behind_blocks shape (given_count shape v)))) Opens

-- the least of n numbers from q on whose block is the driver's again, else the number behind them
unfoldable pub first_free : RingView → ℕ → ℕ → ℕ
first_free v zero q = q
first_free v (suc n) q = if v.free q then q else first_free v n (q + 1)

-- the controller may have come as far as what was given, but into nothing that is free
unfoldable pub held_at_given : Shape → RingView → RingView
held_at_given shape v = changed shape v (Holds (first_free v (given_count shape v - ceiling shape v) (ceiling shape v)))

-- the write resets a controller that is known to have halted
unfoldable pub resets : Known → Register → ℕ → Bool
resets k Usbcmd v = is_done k.halt && reset_bit v
resets k r v = false

module _ (h : Header) where
  unfoldable pub reset : Known → Known
  reset k = record k {
    started = false;
    halt = Not;
    register = λ r. None;
    ring = λ r. if is_ring r (id_of (command_ring h)) then given_up (shape_of h r) (k.ring r) else held_at_given (shape_of h r) (k.ring r);
    slot_state = λ s. Disabled;
    endpoint_state = λ s i. Off;
    ring_of = λ s i. None;
    isochronous = λ s i. false;
    must_move = λ s i. false;
    stop_seen = λ s i. false;
    device = λ s. None;
    reads = 0;
    dequeue = 0;
  }
