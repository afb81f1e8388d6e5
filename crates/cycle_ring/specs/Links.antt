-- The Link between two segments as a block: xHCI 6.4.4.1
use Rattle.std.specs.Prelude.{ℕ, ◌+◌, ◌*◌, ◌/◌, ◌%◌, ◌^◌, Bool, [], ◌∷◌, if◌then◌else◌}
use Rattle.trb.specs.declared.block.Block.{Block}
use Rattle.trb.specs.declared.kind.BlockKind.TheVariants.{Link}
use Rattle.trb.specs.Kind.{number_of}
use Rattle.segments.specs.ShapeValue.{Shape}
use Rattle.segments.specs.Places.{link_target, toggles}

-- the control word: the Cycle bit, Toggle Cycle in bit 1, Chain in bit 4, and the type in bits 15:10
abbrev pub link_control : ℕ → Bool → Bool → ℕ
link_control cycle toggle chain = cycle + (if toggle then 2 else 0) + (if chain then 2 ^ 4 else 0) + number_of Link * 2 ^ 10

-- the Link of segment i: it leads to the next segment, and on the last segment alone it toggles the cycle
abbrev pub link_block : Shape → ℕ → ℕ → Bool → Block
link_block shape i cycle chain =
    record { w = link_target shape i % 2 ^ 32 ∷ link_target shape i / 2 ^ 32 ∷ 0 ∷ link_control cycle (toggles shape i) chain ∷ [] }
