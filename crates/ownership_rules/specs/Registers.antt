-- The rules of a register that is written (`reg`) or read (`rd`): xHCI 4.2, 4.9.4, 4.23.2, 5.4.1, 5.4.2, 5.4.5, 5.4.6, 5.4.7, 5.5.2.3, 6.5
use Rattle.std.specs.Prelude.{ℕ, ◌-◌, ◌%◌, ◌^◌, ◌==◌, ◌&&◌, ◌||◌, Bool, true, false, not, List, [], ◌∷◌, length, Option, Some, None, is_some, is_none, nat_le, if◌then◌else◌}
use Rattle.std.specs.List.{list_any}
use Rattle.segments.specs.Ceiling.{given_count}
use Rattle.segments.specs.Places.{address_of}
use Rattle.segments.specs.RingView.{due_positions}
use Rattle.event_ring.specs.EventRing.{is_event_place, is_reached_within, erdp_address, lists, table_bytes}
use Rattle.traces.specs.declared.header.Header.{Header}
use Rattle.traces.specs.declared.ring.Ring.{Ring}
use Rattle.traces.specs.declared.register.Register.{Register}
use Rattle.traces.specs.declared.register.Register.TheVariants.{Usbcmd, Usbsts, Crcr, Dcbaap, Config, Erstsz, Erstba, Erdp}
use Rattle.traces.specs.Header.{command_id, command_ring, event_ring, event_shape, shape_of}
use Rattle.traces.specs.Halts.{is_asked, is_done, is_saved, is_unrestored}
use Rattle.traces.specs.Versions.{has_runs}
use Rattle.traces.specs.Register.{register_or_zero, run_bit, reset_bit, save_bit, restore_bit, halted_bit, base_address, ring_cycle_state, command_stop, command_abort}
use Rattle.ring_knowledge.specs.Known.{Known}
use Rattle.ownership_rules.specs.Refusal.{Test}
use Rattle.ownership_rules.specs.declared.refusal.Refusal.TheVariants.{BadRegister, BadErdp, ImpossibleRead}
use Rattle.ownership_rules.specs.Areas.{is_bad_area}
use Rattle.ownership_rules.specs.Events.{may_be_taken}

unfoldable pub is_written : Known → Register → Bool
is_written k r = is_some (k.register r)

unfoldable pub is_unwritten : Known → Register → Bool
is_unwritten k r = is_none (k.register r)

-- CRCR was written while the command ring was there that is there now
abbrev pub is_named : Known → Bool
is_named k = is_some (k.register Crcr)

-- a reset after registers were set up
unfoldable pub is_late_reset : Known → ℕ → Bool
is_late_reset k v = reset_bit v && list_any (is_written k) (Crcr ∷ Dcbaap ∷ Config ∷ Erstsz ∷ Erstba ∷ Erdp ∷ [])

-- R/S 1, and HCRST 0
abbrev pub is_run : ℕ → Bool
is_run v = run_bit v && not (reset_bit v)

-- the controller is known to have halted, and neither goes on nor is reset
abbrev pub is_at_rest : Known → ℕ → Bool
is_at_rest k v = is_done k.halt && not (run_bit v) && not (reset_bit v)

-- its state is restored (CRS) elsewhere, or beside a saving one, or where none was saved
unfoldable pub is_early_restore : Known → ℕ → Bool
is_early_restore k v = restore_bit v && (not (is_at_rest k v) || save_bit v || not (is_saved k.halt))

-- the start before the rings are set up
unfoldable pub is_early_start : Known → ℕ → Bool
is_early_start k v = is_run v && list_any (is_unwritten k) (Crcr ∷ Erstsz ∷ Erstba ∷ Erdp ∷ [])

-- the controller was started, and isn't known to have halted
abbrev pub is_in_run : Known → Bool
is_in_run k = k.started && not (is_done k.halt)

abbrev pub is_value : ℕ → Option ℕ → Bool
is_value v None = false
is_value v (Some x) = x == v

-- the register has this value, and the controller is known to have halted: it is restored
abbrev pub is_restored : Known → Register → ℕ → Bool
is_restored k r v = is_done k.halt && is_value v (k.register r)

unfoldable pub is_no_first_block : ℕ → Option Ring → Bool
is_no_first_block v None = true
is_no_first_block v (Some r) = not (base_address v == address_of r.shape 0)

-- how far the dequeue pointer may go: over what was read; before the start it stands at the first place
unfoldable pub may_pass : Known → ℕ
may_pass k = if k.started then k.reads - k.dequeue else 0

module _ (h : Header) where
  -- the command ring was started since it came: its doorbell was rung
  abbrev pub is_used : Known → Bool
  is_used k = not (is_value 0 (k.ring (command_id h)).held)

  -- CRCR names the first block of a command ring that wasn't started yet
  unfoldable pub is_bad_crcr : Known → ℕ → Bool
  is_bad_crcr k v = is_no_first_block v (command_ring h) || not (ring_cycle_state v == 1) || command_stop v || command_abort v || is_used k

  unfoldable pub is_bad_size : ℕ → Bool
  is_bad_size v = is_none (event_ring h) || not (v % 2 ^ 16 == length (event_shape h).segments)

  unfoldable pub is_bad_table : Known → ℕ → Bool
  is_bad_table k base = is_bad_area h k base (table_bytes (event_shape h)) || not (lists k.memory base (event_shape h).segments)

  -- ERSTSZ, as it was last written, isn't the number of the event ring's segments
  unfoldable pub is_wrong_size : Known → Bool
  is_wrong_size k = is_bad_size (register_or_zero k.register Erstsz)

  -- the start where the last ERSTSZ is wrong, or the last ERDP names another place than the first
  unfoldable pub is_wrong_start : Known → ℕ → Bool
  is_wrong_start k v =
      is_run v && (is_wrong_size k || not (erdp_address (register_or_zero k.register Erdp) == address_of (event_shape h) 0))

  -- before the start a value of ERDP that names no event place has no effect
  unfoldable pub names_no_place : Known → ℕ → Bool
  names_no_place k v = not k.started && is_some (event_ring h) && not (is_event_place (event_shape h) (erdp_address v))

  -- a controller that halts goes on before it was seen to have halted, or with a state that it saved and isn't known to have restored, or with
  -- another command ring than CRCR names, or with commands that aren't finished
  unfoldable pub is_early_resume : Known → ℕ → Bool
  is_early_resume k v = is_asked k.halt && is_run v && (not (is_done k.halt) || is_unrestored k.halt || is_unwritten k Crcr || may_be_taken h k)

  -- its state is saved (CSS) before it has halted, or with commands that aren't finished
  unfoldable pub is_early_save : Known → ℕ → Bool
  is_early_save k v = save_bit v && (not (is_at_rest k v) || may_be_taken h k)

  -- a controller that runs more than once saves or restores its state where it can't
  unfoldable pub saves_badly : Known → ℕ → Bool
  saves_badly k v = has_runs h.version && (is_early_save k v || is_early_restore k v)

  -- behind a TRB of the command ring that wasn't handed over one was
  unfoldable pub has_gap : Known → Bool
  has_gap k = list_any (λ p. (k.ring (command_id h)).given p && nat_le (given_count (shape_of h (command_id h)) (k.ring (command_id h))) p)
      (due_positions (shape_of h (command_id h)) (k.ring (command_id h)))

  -- the reset of a controller that runs more than once while it runs, or with a gap in its command ring
  unfoldable pub is_early_reset : Known → ℕ → Bool
  is_early_reset k v = has_runs h.version && reset_bit v && (not (is_done k.halt) || has_gap k)

  unfoldable pub is_bad_command_register : Known → ℕ → Bool
  is_bad_command_register k v =
      saves_badly k v || (if k.started then is_early_reset k v || is_early_resume k v else is_late_reset k v || is_early_start k v || is_wrong_start k v)

  unfoldable pub is_bad_register : Known → Register → ℕ → Bool
  is_bad_register k Usbcmd v = is_bad_command_register k v
  is_bad_register k Crcr v = is_in_run k || is_bad_crcr k v
  is_bad_register k Dcbaap v = k.started && not (is_restored k Dcbaap v)
  is_bad_register k Config v = k.started && not (is_restored k Config v)
  is_bad_register k Erstsz v = if k.started then not (is_restored k Erstsz v) else is_none (event_ring h)
  is_bad_register k Erstba v =
      if k.started then not (is_restored k Erstba v)
      else is_written k Erstba || is_unwritten k Erstsz || is_wrong_size k || is_bad_table k (base_address v)
  is_bad_register k _ v = false

  -- USBSTS shows HCHalted while the controller runs, or doesn't where it was never started, or was seen to have halted
  unfoldable pub is_impossible_status : Known → ℕ → Bool
  is_impossible_status k v = if halted_bit v then k.started && not (is_asked k.halt) else not k.started || is_done k.halt

  unfoldable pub is_impossible_read : Known → Register → ℕ → Bool
  is_impossible_read k Usbsts v = is_impossible_status k v
  is_impossible_read k _ v = false

  unfoldable pub is_bad_erdp : Known → Register → ℕ → Bool
  is_bad_erdp k Erdp v = not (names_no_place k v) && not (is_reached_within (event_shape h) k.dequeue (may_pass k) (erdp_address v))
  is_bad_erdp k _ v = false

  unfoldable pub register_tests : Known → Register → ℕ → List Test
  register_tests k r v = (BadRegister, is_bad_register k r v) ∷ (BadErdp, is_bad_erdp k r v) ∷ []

  unfoldable pub read_tests : Known → Register → ℕ → List Test
  read_tests k r v = (ImpossibleRead, is_impossible_read k r v) ∷ []
