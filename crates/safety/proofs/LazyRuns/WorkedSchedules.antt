-- Lazy schedules of three traces, and how they end, by evaluation; tests/schedules has more for the program
use Rattle.safety.proofs.Words.{[], ◌≡◌, ◌∷◌, ◌++◌, ℕ, suc, zero, List, refl, Cmd, Evt, Xfer, Block, Bytes32, Header, Row, Sub, Write, Reg, Bell, Read, Usbcmd, Crcr, Dcbaap, Config, Erstsz, Erstba, Erdp, Step, NextRow, Look, Report, Finish, lazy_steps, One, scene_ending, NoHarm, world_on_literals, lazy_on_literals, RegRead, Usbsts, FreeRow, RingRow, Halt, resting, Four}

abbrev block : ℕ → ℕ → ℕ → Block
block at status control = record { w = at ∷ 0 ∷ status ∷ control ∷ [] }

-- the events of the two first commands, of a third, and of a transfer
abbrev slot_enabled : Block
slot_enabled = block 65536 16777216 16811009

abbrev device_addressed : Block
device_addressed = block 65552 16777216 16811009

abbrev endpoint_stopped : Block
endpoint_stopped = block 65568 16777216 16811009

abbrev transferred : Block
transferred = block 196608 16777216 16875521

-- what both traces begin with, and its lazy steps
abbrev registers : List Row
registers = Write 262144 131072 ∷ Write 262152 16 ∷ Reg Erstsz 1 ∷ Reg Erstba 262144 ∷ Reg Erdp 131072 ∷ Reg Crcr 65537 ∷ Reg Dcbaap 327680 ∷ Reg Config 8 ∷ Reg Usbcmd 1 ∷ []

abbrev enables_slot : List Row
enables_slot = Sub 0 (block 0 0 9216 ∷ []) ∷ Write 65548 9217 ∷ Bell 0 0 ∷ Read slot_enabled ∷ []

abbrev writes_context : List Row
writes_context = Write 327688 458752 ∷ Write 393220 3 ∷ Write 393284 32 ∷ Write 393288 196609 ∷ []

abbrev addresses_device : List Row
addresses_device = Sub 0 (block 393216 0 16788480 ∷ []) ∷ Write 65552 393216 ∷ Write 65564 16788481 ∷ Bell 0 0 ∷ Read device_addressed ∷ Sub 2 (block 0 0 8224 ∷ []) ∷ Write 196620 8225 ∷ []

abbrev trace_of : List Row → List Row
trace_of rows = registers ++ enables_slot ++ writes_context ++ addresses_device ++ rows

abbrev rows : ℕ → List Step → List Step
rows zero steps = steps
rows (suc n) steps = NextRow ∷ rows n steps

abbrev first_steps : List Step → List Step
first_steps steps = rows 12 (Look 0 ∷ Finish slot_enabled ∷ rows 9 (Look 0 ∷ Finish device_addressed ∷ rows 6 steps))

abbrev pub schedule_header : Header
schedule_header = record { version = One; context_size = Bytes32; rings = record { id = 0; shape = record { kind = Cmd; segments = record { base = 65536; count = 16 } ∷ []; offset = 0 } } ∷ record { id = 1; shape = record { kind = Evt; segments = record { base = 131072; count = 16 } ∷ []; offset = 0 } } ∷ record { id = 2; shape = record { kind = Xfer; segments = record { base = 196608; count = 4 } ∷ []; offset = 0 } } ∷ [] }

abbrev pub schedule_of_a_late_event_rows : List Row
schedule_of_a_late_event_rows = trace_of (Bell 1 1 ∷ Sub 0 (block 0 0 16858112 ∷ []) ∷ Write 65580 16858113 ∷ Bell 0 0 ∷ Read endpoint_stopped ∷ Read transferred ∷ [])

pub schedule_of_a_late_event_steps : lazy_steps schedule_header schedule_of_a_late_event_rows ≡ first_steps (NextRow ∷ Look 0 ∷ Look 2 ∷ Finish endpoint_stopped ∷ NextRow ∷ Report transferred ∷ NextRow ∷ [])
unfolding lazy_on_literals
schedule_of_a_late_event_steps = refl

pub schedule_of_a_late_event_ending : scene_ending schedule_header schedule_of_a_late_event_rows (lazy_steps schedule_header schedule_of_a_late_event_rows) ≡ NoHarm
unfolding lazy_on_literals world_on_literals
schedule_of_a_late_event_ending = refl

abbrev pub schedule_with_an_event_rows : List Row
schedule_with_an_event_rows = trace_of (Sub 2 (block 0 0 8224 ∷ []) ∷ Write 196636 8225 ∷ Bell 1 1 ∷ Read transferred ∷ Sub 2 (block 0 0 8224 ∷ []) ∷ Write 196652 8225 ∷ [])

pub schedule_with_an_event_steps : lazy_steps schedule_header schedule_with_an_event_rows ≡ first_steps (Look 2 ∷ Report transferred ∷ NextRow ∷ NextRow ∷ NextRow ∷ [])
unfolding lazy_on_literals
schedule_with_an_event_steps = refl

pub schedule_with_an_event_ending : scene_ending schedule_header schedule_with_an_event_rows (lazy_steps schedule_header schedule_with_an_event_rows) ≡ NoHarm
unfolding lazy_on_literals world_on_literals
schedule_with_an_event_ending = refl

-- a second run of the controller, with another command ring and another event ring
abbrev pub schedule_of_two_runs_header : Header
schedule_of_two_runs_header = record schedule_header { version = Four }

abbrev slot_enabled_again : Block
slot_enabled_again = block 4194304 16777216 16811009

abbrev halts_and_resets : List Row
halts_and_resets = Reg Usbcmd 0 ∷ RegRead Usbsts 1 ∷ Reg Usbcmd 2 ∷ FreeRow 0 ∷ FreeRow 1 ∷ []

abbrev begins_again : List Row
begins_again =
    RingRow (record { id = 3; shape = record { kind = Cmd; segments = record { base = 4194304; count = 16 } ∷ []; offset = 0 } }) ∷ RingRow (record { id = 4; shape = record { kind = Evt; segments = record { base = 4259840; count = 16 } ∷ []; offset = 0 } })
    ∷ Write 262144 4259840 ∷ Reg Erstsz 1 ∷ Reg Erstba 262144 ∷ Reg Erdp 4259840 ∷ Reg Crcr 4194305 ∷ Reg Dcbaap 327680 ∷ Reg Config 8 ∷ Reg Usbcmd 1 ∷ Sub 3 (block 0 0 9216 ∷ []) ∷ Write 4194316 9217 ∷ Bell 0 0 ∷ Read slot_enabled_again ∷ []

abbrev pub schedule_of_two_runs_rows : List Row
schedule_of_two_runs_rows = registers ++ enables_slot ++ halts_and_resets ++ begins_again

pub schedule_of_two_runs_steps : lazy_steps schedule_of_two_runs_header schedule_of_two_runs_rows ≡ rows 12 (Look 0 ∷ Finish slot_enabled ∷ rows 2 (Halt ∷ rows 17 (Look 3 ∷ Finish slot_enabled_again ∷ NextRow ∷ [])))
unfolding lazy_on_literals
schedule_of_two_runs_steps = refl

pub schedule_of_two_runs_ending : scene_ending schedule_of_two_runs_header schedule_of_two_runs_rows (lazy_steps schedule_of_two_runs_header schedule_of_two_runs_rows) ≡ NoHarm
unfolding lazy_on_literals world_on_literals resting
schedule_of_two_runs_ending = refl
