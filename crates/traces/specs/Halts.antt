-- How far a controller is in halting, and what became of the state that it saves then: xHCI 4.23.2, 5.4.1, 5.4.2
use Rattle.std.specs.Prelude.{ℕ, Bool, true, false, if◌then◌else◌}
use Rattle.traces.specs.declared.halt.Halt.{Halt}
use Rattle.traces.specs.declared.halt.Halt.TheVariants.{Not, Asked, Done, Saved, Restoring, Restored}
use Rattle.traces.specs.Register.{save_bit, restore_bit, restore_ended}

-- R/S was cleared in a run, and not set since
abbrev pub is_asked : Halt → Bool
is_asked Not = false
is_asked _ = true

-- and it has halted
abbrev pub is_done : Halt → Bool
is_done Not = false
is_done Asked = false
is_done _ = true

-- and has saved its state
abbrev pub is_saved : Halt → Bool
is_saved Saved = true
is_saved Restoring = true
is_saved Restored = true
is_saved _ = false

-- which it isn't known to have restored
abbrev pub is_unrestored : Halt → Bool
is_unrestored Saved = true
is_unrestored Restoring = true
is_unrestored _ = false

-- behind USBCMD with R/S 0 in a run: it is to halt; where it has, CSS has it save its state, and CRS restore what it saved
abbrev pub told : Halt → ℕ → Halt
told Not v = Asked
told Asked v = Asked
told Done v = if save_bit v then Saved else Done
told Saved v = if save_bit v then Saved else if restore_bit v then Restoring else Saved
told Restoring v = if save_bit v then Saved else Restoring
told Restored v = if save_bit v then Saved else if restore_bit v then Restoring else Restored

-- behind USBSTS with HCHalted 1: it has halted; and where it restores its state, it has done so if neither RSS nor SRE is 1
abbrev pub seen : Halt → ℕ → Halt
seen Not v = Not
seen Asked v = Done
seen Restoring v = if restore_ended v then Restored else Restoring
seen halt v = halt
