-- The registers of a trace: xHCI 5.4, 5.5.2
use Rattle.std.specs.Prelude.{ℕ, ◌*◌, ◌/◌, ◌%◌, ◌==◌, Bool, true, false, List, codes, if◌then◌else◌, Option, Some, unwrap_or}
use Rattle.traces.specs.declared.register.Register.{Register}
use Rattle.traces.specs.declared.register.Register.TheVariants.{Usbcmd, Usbsts, Dnctrl, Crcr, Dcbaap, Config, Iman, Imod, Erstsz, Erstba, Erdp}

-- the word for it in a trace
abbrev pub register_name : Register → List ℕ
register_name Usbcmd = codes "usbcmd"
register_name Usbsts = codes "usbsts"
register_name Dnctrl = codes "dnctrl"
register_name Crcr = codes "crcr"
register_name Dcbaap = codes "dcbaap"
register_name Config = codes "config"
register_name Iman = codes "iman"
register_name Imod = codes "imod"
register_name Erstsz = codes "erstsz"
register_name Erstba = codes "erstba"
register_name Erdp = codes "erdp"

-- 64 bits; the others have 32
abbrev pub is_wide : Register → Bool
is_wide Crcr = true
is_wide Dcbaap = true
is_wide Erstba = true
is_wide Erdp = true
is_wide _ = false

-- a number of its own for each
abbrev pub ordinal : Register → ℕ
ordinal Usbcmd = 0
ordinal Usbsts = 1
ordinal Dnctrl = 2
ordinal Crcr = 3
ordinal Dcbaap = 4
ordinal Config = 5
ordinal Iman = 6
ordinal Imod = 7
ordinal Erstsz = 8
ordinal Erstba = 9
ordinal Erdp = 10

abbrev pub same_register : Register → Register → Bool
same_register a b = ordinal a == ordinal b

-- the last value written to each register, with one more write
abbrev pub with_register : (Register → Option ℕ) → Register → ℕ → Register → Option ℕ
with_register values r v q = if same_register q r then Some v else values q

-- a register that wasn't written counts as 0
abbrev pub register_or_zero : (Register → Option ℕ) → Register → ℕ
register_or_zero values r = unwrap_or (values r) 0

-- USBCMD: Run/Stop (R/S) and Host Controller Reset (HCRST)
abbrev pub run_bit : ℕ → Bool
run_bit value = value % 2 == 1

abbrev pub reset_bit : ℕ → Bool
reset_bit value = value / 2 % 2 == 1

-- and Controller Save State (CSS), Controller Restore State (CRS)
abbrev pub save_bit : ℕ → Bool
save_bit value = value / 256 % 2 == 1

abbrev pub restore_bit : ℕ → Bool
restore_bit value = value / 512 % 2 == 1

-- USBSTS: HCHalted (HCH)
abbrev pub halted_bit : ℕ → Bool
halted_bit value = value % 2 == 1

-- neither Restore State Status (RSS) nor Save/Restore Error (SRE)
abbrev pub restore_ended : ℕ → Bool
restore_ended value = value / 512 % 4 == 0

-- the Command Ring Pointer of CRCR, and the base addresses of DCBAAP and ERSTBA: bits 63:6
abbrev pub base_address : ℕ → ℕ
base_address value = value / 64 * 64

-- CRCR: Ring Cycle State (RCS), Command Stop (CS), Command Abort (CA)
abbrev pub ring_cycle_state : ℕ → ℕ
ring_cycle_state value = value % 2

abbrev pub command_stop : ℕ → Bool
command_stop value = value / 2 % 2 == 1

abbrev pub command_abort : ℕ → Bool
command_abort value = value / 4 % 2 == 1
