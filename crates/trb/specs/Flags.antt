-- The control bits of word 3 that are flags of a block: xHCI 6.4.1 to 6.4.4
use Rattle.std.specs.Prelude.{ℕ, ◌==◌, ◌^◌, Bool, List, [], ◌∷◌, codes, bit_and}
use Rattle.trb.specs.declared.flags.BlockFlags.{BlockFlags}

-- the bits of a set of flags: all that it shows
abbrev pub flag_bits : BlockFlags → ℕ
flag_bits flags = flags.0

-- each flag's name with its bit
abbrev pub flag_table : List (List ℕ × ℕ)
flag_table =
    (codes "CYCLE", 0x001) ∷ (codes "TOGGLE", 0x002) ∷ (codes "SHORT", 0x004) ∷ (codes "NO_SNOOP", 0x008)
    ∷ (codes "CHAIN", 0x010) ∷ (codes "IOC", 0x020) ∷ (codes "IMMEDIATE", 0x040) ∷ (codes "OPTION", 0x200) ∷ []

-- the bits of all flags
abbrev pub all_flags : ℕ
all_flags = 0x27f

-- the places of the flags in word 3
abbrev pub flag_places : List ℕ
flag_places = 0 ∷ 1 ∷ 2 ∷ 3 ∷ 4 ∷ 5 ∷ 6 ∷ 9 ∷ []

-- a set of flags contains the flag at a place
abbrev pub has_flag : BlockFlags → ℕ → Bool
has_flag flags place = bit_and (flag_bits flags) (2 ^ place) == 2 ^ place
