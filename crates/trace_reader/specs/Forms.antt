-- The words of a line, and how many fields a declaration has
use Rattle.std.specs.Prelude.{ℕ, ◌%◌, ◌==◌, Bool, true, false, List, [], ◌∷◌, length, Option, Some, None, codes, if◌then◌else◌}
use Rattle.std.specs.Str.{bytes_eq}
use Rattle.trb.specs.declared.ring_kind.RingKind.{RingKind}
use Rattle.trb.specs.declared.ring_kind.RingKind.TheVariants.{Cmd, Evt, Xfer}
use Rattle.traces.specs.Register.{register_name}
use Rattle.traces.specs.declared.register.Register.{Register}
use Rattle.traces.specs.declared.register.Register.TheVariants.{Usbcmd, Usbsts, Dnctrl, Crcr, Dcbaap, Config, Iman, Imod, Erstsz, Erstba, Erdp}

-- the kind of a ring by its word
unfoldable pub kind_named : List ℕ → Option RingKind
kind_named word =
    if bytes_eq word (codes "cmd") then Some Cmd
    else if bytes_eq word (codes "evt") then Some Evt
    else if bytes_eq word (codes "xfer") then Some Xfer
    else None

-- the kind of a ring by its word: any kind, or that of a transfer ring alone
abbrev pub kind_among : Bool → List ℕ → Option RingKind
kind_among true word = kind_named word
kind_among false word = if bytes_eq word (codes "xfer") then Some Xfer else None

abbrev pub named : List ℕ → List Register → Option Register
named word [] = None
named word (r ∷ rest) = if bytes_eq word (register_name r) then Some r else named word rest

-- the register by its word
unfoldable pub register_named : List ℕ → Option Register
register_named word =
    named word (Usbcmd ∷ Usbsts ∷ Dnctrl ∷ Crcr ∷ Dcbaap ∷ Config ∷ Iman ∷ Imod ∷ Erstsz ∷ Erstba ∷ Erdp ∷ [])

-- so many fields, four for each block, and at least one block
abbrev pub are_blocks : List (List ℕ) → Bool
are_blocks [] = false
are_blocks (word ∷ words) = length (word ∷ words) % 4 == 0
