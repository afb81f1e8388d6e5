-- What a row of the trace does in the world: xHCI 4.2, 4.7, 4.9.3, 4.9.4, 4.23.2, 5.4, 5.6
use Rattle.std.specs.Prelude.{ℕ, ◌+◌, ◌==◌, ◌&&◌, ◌||◌, ◌++◌, if◌then◌else◌, Bool, true, false, not, List, [], ◌∷◌, length, nat_lt, Option, Some, None}
use Rattle.std.specs.List.{list_any}
use Rattle.guest_memory.specs.Memory.{put, put_pair}
use Rattle.trb.specs.declared.block.Block.{Block}
use Rattle.trb.specs.Block.{same_words}
use Rattle.commands.specs.declared.state.SlotState.TheVariants.{Disabled}
use Rattle.commands.specs.declared.state.EndpointState.TheVariants.{Disabled as Off, Running}
use Rattle.commands.specs.States.{is_running, is_stopped}
use Rattle.event_ring.specs.EventRing.{position_from, erdp_address, is_event_place}
use Rattle.traces.specs.declared.header.Header.{Header}
use Rattle.traces.specs.declared.row.Row.{Row}
use Rattle.traces.specs.declared.row.Row.TheVariants.{Sub, Write, Reg, Bell, Read, RegRead}
use Rattle.traces.specs.declared.register.Register.{Register}
use Rattle.traces.specs.declared.register.Register.TheVariants.{Usbcmd, Usbsts, Crcr, Erdp}
use Rattle.traces.specs.Header.{command_id, event_shape, is_command_kind}
use Rattle.traces.specs.Register.{with_register, run_bit, reset_bit, halted_bit, base_address, ring_cycle_state}
use Rattle.traces.specs.Versions.{has_runs}
use Rattle.world_state.specs.World.{World, stored, event_at}

unfoldable pub valued : World → Register → ℕ → World
valued w r v = record w { register = with_register w.register r v }

-- HCRST resets a controller that has halted; what it does to one that runs isn't said: it goes on
unfoldable pub resets : World → Register → ℕ → Bool
resets w Usbcmd v = w.started && w.halted && reset_bit v
resets w r v = false

-- the controller forgets all but what lies in memory; what was taken stays told
unfoldable pub reset : World → World
reset w = record w {
  started = false;
  halting = false;
  halted = false;
  register = λ r. None;
  slot_state = λ s. Disabled;
  endpoint_state = λ s i. Off;
  ring_of = λ s i. None;
  isochronous = λ s i. false;
  scribbles = λ s. false;
  is_active = λ r. false;
  posted = 0;
  reads = 0;
  dequeue = 0;
  under_way = None;
}

-- a register can be read with this value: USBSTS shows HCHalted where the controller has halted, or wasn't started
unfoldable pub shows : World → Register → ℕ → Bool
shows w Usbsts v = if halted_bit v then w.halted || not w.started else w.started && not w.halted
shows w r v = true

module _ (h : Header) where
  -- a controller that runs but once: the first R/S 1 with HCRST 0 starts it; after that R/S 0 or HCRST 1 stops it
  unfoldable pub runs_once : World → ℕ → World
  runs_once w v =
      if not w.started then (if run_bit v && not (reset_bit v) then record w { started = true } else w)
      else (if not (run_bit v) || reset_bit v then record w { stopped = true } else w)

  -- one that runs again: R/S 0 has it halt, and R/S 1 go on where it was
  unfoldable pub runs_again : World → ℕ → World
  runs_again w v =
      if reset_bit v then w
      else if run_bit v then record w { started = true; halting = false; halted = false }
      else if w.started then record w { halting = true } else w

  unfoldable pub run_or_stop : World → ℕ → World
  run_or_stop w v = if has_runs h.version then runs_again w v else runs_once w v

  unfoldable pub is_command_ring : ℕ → Bool
  is_command_ring r = list_any (λ q. is_command_kind q.shape.kind && q.id == r) h.rings

  -- where the controller doesn't run CRCR sets its one pointer into command rings: on the newest of them, which works once its doorbell is rung
  unfoldable pub command_placed : World → ℕ → World
  command_placed w v = record w {
    is_active = λ r. w.is_active r && not (is_command_ring r);
    pointer_of = put w.pointer_of (command_id h) (base_address v);
    cycle_state = put w.cycle_state (command_id h) (ring_cycle_state v);
  }

  unfoldable pub with_command_ring : World → ℕ → World
  with_command_ring w v = if w.started && not w.halted then w else command_placed w v

  -- ERDP sets the dequeue position, if it names an event place
  unfoldable pub with_dequeue : World → ℕ → World
  with_dequeue w a = if is_event_place (event_shape h) a then record w { dequeue = position_from (event_shape h) w.dequeue a } else w

  unfoldable pub register_row : World → Register → ℕ → World
  register_row w Usbcmd v = run_or_stop (valued w Usbcmd v) v
  register_row w Crcr v = with_command_ring (valued w Crcr v) v
  register_row w Erdp v = with_dequeue (valued w Erdp v) (erdp_address v)
  register_row w r v = valued w r v

  unfoldable pub activated : World → ℕ → World
  activated w r = record w { is_active = put w.is_active r true }

  -- the doorbell of a Running or Stopped endpoint: the endpoint is Running, and its ring active
  unfoldable pub endpoint_bell : World → ℕ → ℕ → Option ℕ → World
  endpoint_bell w s t None = w
  endpoint_bell w s t (Some r) =
      if is_running (w.endpoint_state s t) || is_stopped (w.endpoint_state s t)
      then record (activated w r) { endpoint_state = put_pair w.endpoint_state s t Running }
      else w

  unfoldable pub bell_row : World → ℕ → ℕ → World
  bell_row w s t =
      if s == 0 then (if t == 0 && w.started then activated w (command_id h) else w)
      else endpoint_bell w s t (w.ring_of s t)

  unfoldable pub declared : World → ℕ → List Block → World
  declared w r blocks = record w {
    queue = put w.queue r (w.queue r ++ blocks);
    lengths = put w.lengths r (w.lengths r ++ length blocks ∷ []);
  }

  -- the driver reads an event: only one that was posted and not yet read, with the words at the read place
  unfoldable pub event_read : World → Block → Option World
  event_read w e =
      if nat_lt w.reads w.posted && same_words (event_at h w w.reads) e then Some (record w { reads = w.reads + 1 }) else None

  unfoldable pub row_done : World → Row → Option World
  row_done w (Sub r blocks) = Some (declared w r blocks)
  row_done w (Write a x) = Some (stored w a x)
  row_done w (Reg r v) = Some (if resets w r v then reset w else register_row w r v)
  row_done w (Bell s t) = Some (bell_row w s t)
  row_done w (Read e) = event_read w e
  row_done w (RegRead r v) = if shows w r v then Some w else None
  row_done w row = Some w
