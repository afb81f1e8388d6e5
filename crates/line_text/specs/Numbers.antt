-- Numbers in hex digits, the high ones first: 2 digits, 4, 8 or 16
use Rattle.std.specs.Prelude.{ℕ, List, Option, Some, None, Result, Ok, Err}
use Rattle.std.specs.Int.{Width, byte_len, to_be_bytes, from_be_bytes}
use Rattle.hex.specs.Hex.{decode_sized, encode_lower}
use Rattle.hex.specs.declared.error.FromHexError.{FromHexError}

-- the number of these bytes, the high ones first
abbrev pub number_of_bytes : Width → Result (List ℕ) FromHexError → Option ℕ
number_of_bytes w (Ok bytes) = Some (from_be_bytes w bytes)
number_of_bytes w (Err e) = None

-- the number that a field says in two digits a byte, of either case; None where it has another length or another character
unfoldable pub number_of : Width → List ℕ → Option ℕ
number_of w field = number_of_bytes w (decode_sized field (byte_len w))

-- a number in two lower case digits a byte
unfoldable pub digits_of : Width → ℕ → List ℕ
digits_of w n = encode_lower (to_be_bytes w n)
