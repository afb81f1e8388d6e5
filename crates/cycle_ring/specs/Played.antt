-- What memory holds after writes
use Rattle.std.specs.Prelude.{◌≡◌, ◌≢◌, ℕ, ◌+◌, ◌*◌, ◌-◌, ◌<◌, ◌≤◌, true, Some, List, length, fold, slice_get, nat_lt, take, drop}
use Rattle.guest_memory.specs.Memory.{put}
use Rattle.trb.specs.declared.block.Block.{Block}
use Rattle.trb.specs.Block.{block_at}
use Rattle.segments.specs.ShapeValue.{Shape}
use Rattle.segments.specs.Places.{address_of, cycle_of, link_crossed, link_address, is_crossing}
use Rattle.cycle_ring.specs.Links.{link_block}
use Rattle.cycle_ring.specs.Writes.{block_at_position}

-- memory after these writes, the first one first
abbrev pub played : (ℕ → ℕ) → List (ℕ × ℕ) → ℕ → ℕ
played memory writes = fold (λ m write. put m write.0 write.1) memory writes

-- what was appended to a list
abbrev pub appended : {A : Type 0} → List A → List A → List A
appended old new = drop (length old) new

-- after the writes each block stands at its position, from first on, with that position's Cycle bit
abbrev pub BlocksStand : Shape → ℕ → List Block → List (ℕ × ℕ) → Type 0
BlocksStand shape first blocks writes =
    (memory : ℕ → ℕ) (i : ℕ) (b : Block) → slice_get blocks i ≡ Some b
    → block_at (played memory writes) (address_of shape (first + i)) ≡ block_at_position shape (first + i) b

-- and at the Link of each crossing to one of their positions stands that Link: with the Cycle bit of the position before the
-- crossing, and chained where it lies between two of the blocks
abbrev pub LinksStand : Shape → ℕ → List Block → List (ℕ × ℕ) → Type 0
LinksStand shape first blocks writes =
    (memory : ℕ → ℕ) (q i : ℕ) → first ≤ q → q < first + length blocks → link_crossed shape q ≡ Some i
    → block_at (played memory writes) (link_address shape q) ≡ link_block shape i (cycle_of shape (q - 1)) (nat_lt first q)

-- an address of none of these words: of no block at one of count positions, and of no Link crossed on the way to one
pub record IsElsewhere (shape : Shape) (first count address : ℕ) : Type 0 where
  pub no_block : (p w : ℕ) → first ≤ p → p < first + count → w < 4 → address ≢ address_of shape p + 4 * w
  pub no_link : (q w : ℕ) → first ≤ q → q < first + count → is_crossing shape q ≡ true → w < 4 → address ≢ link_address shape q + 4 * w

-- and every other word is as it was
abbrev pub OthersStay : Shape → ℕ → List Block → List (ℕ × ℕ) → Type 0
OthersStay shape first blocks writes =
    (memory : ℕ → ℕ) (address : ℕ) → IsElsewhere shape first (length blocks) address → played memory writes address ≡ memory address

-- until the last of the writes the control word of the first block is as it was, so the controller does not look past it
abbrev pub GivenLast : Shape → ℕ → List (ℕ × ℕ) → Type 0
GivenLast shape first writes =
    (memory : ℕ → ℕ) (n : ℕ) → n < length writes
    → played memory (take n writes) (address_of shape first + 12) ≡ memory (address_of shape first + 12)
