-- The line that tells what a block says: xHCI 4.11.1, 6.4.2
use Rattle.std.specs.Prelude.{ℕ, ◌==◌, Bool, true, false, List, ◌++◌, codes, decimal}
use Rattle.std.specs.Int.{w8, w64}
use Rattle.line_text.specs.Numbers.{digits_of}
use Rattle.trb.specs.declared.block.Block.{Block}
use Rattle.trb.specs.Block.{code, cycle, endpoint, is_chained, kind, pointer, slot}
use Rattle.trb.specs.Kind.{kind_name, number_of}

abbrev pub bit_text : Bool → List ℕ
bit_text true = codes "1"
bit_text false = codes "0"

-- the type by its number and its name
abbrev pub kind_text : Block → List ℕ
kind_text block = decimal (number_of (kind block)) ++ codes " " ++ kind_name (kind block)

-- words 1 and 0, and where an event has its code, its slot and its endpoint
abbrev pub event_text : Block → List ℕ
event_text block =
    codes " pointer " ++ digits_of w64 (pointer block) ++ codes " code " ++ digits_of w8 (code block) ++ codes " slot " ++ digits_of w8 (slot block)
    ++ codes " endpoint " ++ digits_of w8 (endpoint block)

unfoldable pub decoded_text : Block → List ℕ
decoded_text block =
    kind_text block ++ codes " cycle " ++ bit_text (cycle block == 1) ++ codes " chain " ++ bit_text (is_chained block) ++ event_text block
