-- What a register that is written or read and a doorbell add to what is known: xHCI 4.7, 5.4.1, 5.4.2, 5.5.2.3.3, 5.6
use Rattle.std.specs.Prelude.{ℕ, ◌==◌, ◌&&◌, ◌||◌, if◌then◌else◌, true, not, Option, Some, None}
use Rattle.guest_memory.specs.Memory.{put_pair}
use Rattle.segments.specs.RingView.{Opens}
use Rattle.commands.specs.declared.state.EndpointState.TheVariants.{Running}
use Rattle.commands.specs.States.{is_stopped}
use Rattle.event_ring.specs.EventRing.{position_from, erdp_address}
use Rattle.traces.specs.declared.header.Header.{Header}
use Rattle.traces.specs.declared.halt.Halt.TheVariants.{Not}
use Rattle.traces.specs.declared.register.Register.{Register}
use Rattle.traces.specs.declared.register.Register.TheVariants.{Usbcmd, Usbsts, Erdp}
use Rattle.traces.specs.Header.{command_id, event_shape}
use Rattle.traces.specs.Register.{with_register, run_bit, reset_bit, halted_bit}
use Rattle.traces.specs.Halts.{is_asked, seen, told}
use Rattle.traces.specs.Versions.{has_runs}
use Rattle.ring_knowledge.specs.Known.{Known}
use Rattle.ring_knowledge.specs.Rings.{on_ring}

-- a controller that runs but once: the first write of USBCMD with R/S 1 and HCRST 0 starts it; after that R/S 0 or HCRST 1 stops it
unfoldable pub runs_once : Known → ℕ → Known
runs_once k v =
    if not k.started then (if run_bit v && not (reset_bit v) then record k { started = true } else k)
    else (if not (run_bit v) || reset_bit v then record k { stopped = true } else k)

-- one that runs again: R/S 0 has it halt, and then save its state and restore it; R/S 1 has it go on; HCRST 1 is told apart, where it resets the
-- controller
unfoldable pub runs_again : Known → ℕ → Known
runs_again k v =
    if reset_bit v then k
    else if run_bit v then record k { started = true; halt = Not }
    else if k.started then record k { halt = told k.halt v } else k

-- USBSTS was read: behind R/S 0 the controller is seen to have halted, and behind CRS to have restored its state
unfoldable pub status_read : Known → ℕ → Known
status_read k v = if is_asked k.halt && halted_bit v then record k { halt = seen k.halt v } else k

unfoldable pub register_read : Known → Register → ℕ → Known
register_read k Usbsts v = status_read k v
register_read k r v = k

unfoldable pub valued : Known → Register → ℕ → Known
valued k r v = record k { register = with_register k.register r v }

module _ (h : Header) where
  unfoldable pub run_or_stop : Known → ℕ → Known
  run_or_stop k v = if has_runs h.version then runs_again k v else runs_once k v

  unfoldable pub register_written : Known → Register → ℕ → Known
  register_written k Usbcmd v = run_or_stop (valued k Usbcmd v) v
  register_written k Erdp v = record (valued k Erdp v) { dequeue = position_from (event_shape h) k.dequeue (erdp_address v) }
  register_written k r v = valued k r v

  -- the doorbell of an endpoint opens its ring, and makes a Stopped endpoint Running
  unfoldable pub endpoint_rung : Known → ℕ → ℕ → Option ℕ → Known
  endpoint_rung k s t None = k
  endpoint_rung k s t (Some r) = record (on_ring h k r Opens) {
    endpoint_state = if is_stopped (k.endpoint_state s t) then put_pair k.endpoint_state s t Running else k.endpoint_state;
  }

  unfoldable pub rung : Known → ℕ → ℕ → Known
  rung k s t = if s == 0 then on_ring h k (command_id h) Opens else endpoint_rung k s t (k.ring_of s t)
