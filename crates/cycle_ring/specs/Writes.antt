-- The words that a producer writes for a descriptor, each with its address: xHCI 4.9.2, 4.11.5.1
use Rattle.std.specs.Prelude.{ℕ, ◌+◌, ◌-◌, Bool, true, false, List, [], ◌∷◌, ◌++◌}
use Rattle.std.specs.Option.{option_map_or}
use Rattle.trb.specs.declared.block.Block.{Block}
use Rattle.trb.specs.Block.{word, with_cycle}
use Rattle.segments.specs.ShapeValue.{Shape}
use Rattle.segments.specs.Places.{address_of, cycle_of, link_crossed, link_address}
use Rattle.cycle_ring.specs.Links.{link_block}

-- words 0 to 2 of a block that lies at a
abbrev pub low_writes : ℕ → Block → List (ℕ × ℕ)
low_writes a b = (a, word b 0) ∷ (a + 4, word b 1) ∷ (a + 8, word b 2) ∷ []

-- its control word
abbrev pub control_write : ℕ → Block → List (ℕ × ℕ)
control_write a b = (a + 12, word b 3) ∷ []

-- all four words
abbrev pub block_writes : ℕ → Block → List (ℕ × ℕ)
block_writes a b = low_writes a b ++ control_write a b

-- the block as it stands at position p: with the Cycle bit of p
abbrev pub block_at_position : Shape → ℕ → Block → Block
block_at_position shape p b = with_cycle b (cycle_of shape p)

-- the Link that is crossed on the way to position q, if one is: with the Cycle bit of the position before, and chained
-- where it lies inside a descriptor
abbrev pub way_writes : Shape → ℕ → Bool → List (ℕ × ℕ)
way_writes shape q chain =
    option_map_or (λ i. block_writes (link_address shape q) (link_block shape i (cycle_of shape (q - 1)) chain)) (link_crossed shape q) []

-- the blocks behind the first one of a descriptor, from position p on, each after the Link before it
abbrev pub later_writes : Shape → ℕ → List Block → List (ℕ × ℕ)
later_writes shape p [] = []
later_writes shape p (b ∷ rest) =
    way_writes shape p true ++ block_writes (address_of shape p) (block_at_position shape p b) ++ later_writes shape (p + 1) rest

-- a descriptor from position first on: the control word of its first block, which gives it to the controller, comes last
abbrev pub writes_of : Shape → ℕ → List Block → List (ℕ × ℕ)
writes_of shape first [] = []
writes_of shape first (b ∷ rest) =
    way_writes shape first false ++ low_writes (address_of shape first) (block_at_position shape first b)
    ++ later_writes shape (first + 1) rest ++ control_write (address_of shape first) (block_at_position shape first b)
