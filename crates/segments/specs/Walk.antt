-- What a controller reads of a ring from a spot on, while nothing is written: xHCI 4.9.2, 4.11.5.1
use Rattle.std.specs.Prelude.{◌≡◌, ℕ, zero, suc, ◌+◌, ◌-◌, ◌^◌, ◌%◌, ◌<◌, ◌≤◌, ◌==◌, if◌then◌else◌, Bool, true, not, List, [], ◌∷◌, All, Contains, map, take, filter, Option, slice_get}
use Rattle.std.specs.List.{range_with_len, filter_map}
use Rattle.std.specs.Option.{option_map}
use Rattle.trb.specs.declared.block.Block.{Block}
use Rattle.trb.specs.Bits.{is_set}
use Rattle.trb.specs.Block.{aligned, block_at, word, cycle, kind, pointer, with_cycle}
use Rattle.trb.specs.Kind.{is_link}
use Rattle.segments.specs.declared.spot.Spot.{Spot}
use Rattle.segments.specs.ShapeValue.{Shape}
use Rattle.segments.specs.Places.{cycle_of, link_address, is_inside}
use Rattle.segments.specs.Spots.{spot_address, spot_cycle, spots_from}
use Rattle.segments.specs.RingView.{RingView, declared, floor_number}
use Rattle.segments.specs.Descriptors.{is_border}

-- a dequeue pointer with the Consumer Cycle State
pub record Pointer : Type 0 where
  pub address : ℕ
  pub cycle_state : ℕ

abbrev pub block_under : (ℕ → ℕ) → Pointer → Block
block_under memory at = block_at memory at.address

-- the block there has the controller's cycle, so it is read
abbrev pub is_shown : (ℕ → ℕ) → Pointer → Bool
is_shown memory at = cycle (block_under memory at) == at.cycle_state

-- behind a block: where a Link leads, with the cycle state flipped by Toggle Cycle; else the block right behind
abbrev pub behind : Pointer → Block → Pointer
behind at b =
    if is_link (kind b)
    then record { address = aligned (pointer b); cycle_state = if is_set (word b 3) 1 then 1 - at.cycle_state else at.cycle_state }
    else record { address = (at.address + 16) % 2 ^ 64; cycle_state = at.cycle_state }

-- the pointers at which n looks are made: the first, and behind each block that is read the next
unfoldable pub looks : (ℕ → ℕ) → Pointer → ℕ → List Pointer
looks memory at zero = []
looks memory at (suc n) = at ∷ (if is_shown memory at then looks memory (behind at (block_under memory at)) n else [])

-- the blocks that are read in n looks
unfoldable pub walk : (ℕ → ℕ) → Pointer → ℕ → List Block
walk memory at n = map (block_under memory) (filter (is_shown memory) (looks memory at n))

-- the blocks that are no Links
abbrev pub data_of : List Block → List Block
data_of blocks = filter (λ b. not (is_link (kind b))) blocks

-- the declared block of a position, with the position's cycle
abbrev pub laid : Shape → RingView → ℕ → Option Block
laid shape v p = option_map (λ d. with_cycle d (cycle_of shape p)) (slice_get v.queue p)

abbrev pub laid_between : Shape → RingView → ℕ → ℕ → List Block
laid_between shape v from to = filter_map (laid shape v) (range_with_len from (to - from))

-- the pointer at a spot
abbrev pub standing : Shape → Spot → Pointer
standing shape t = record { address = spot_address shape t; cycle_state = spot_cycle shape t }

-- from the floor's spot the controller reads whole descriptors, as declared and in order, and then waits
pub record WalkReads (shape : Shape) (memory : ℕ → ℕ) (v : RingView) : Type 0 where
  -- the position at which it waits, and how many blocks it reads until then, Links among them
  pub border : ℕ
  pub steps : ℕ
  pub from : floor_number v ≤ border
  pub to : border ≤ declared v
  pub is_border : is_border v.lengths 0 border ≡ true
  -- it looks at one spot after the other, and no further than the one at which it waits
  pub spots : (n : ℕ) → looks memory (standing shape v.floor) n ≡ map (standing shape) (take n (spots_from shape v.floor (suc steps)))
  -- n looks read the first n of these blocks; those of them that are no Links are the declared ones
  pub reads : (n : ℕ) → walk memory (standing shape v.floor) n ≡ take n (walk memory (standing shape v.floor) steps)
  pub blocks : data_of (walk memory (standing shape v.floor) steps) ≡ laid_between shape v (floor_number v) border
  -- a Link that is read was given
  pub links : (n : ℕ) (at : Pointer) → Contains (looks memory (standing shape v.floor) n) at → is_shown memory at ≡ true → is_link (kind (block_under memory at)) ≡ true →
      (q : ℕ) × (floor_number v ≤ q) × (v.crossed q ≡ true) × (at.address ≡ link_address shape q)
  -- each of the 16 bytes at which it looks is in the ring's segments
  pub inside : (n : ℕ) → All (λ at. (k : ℕ) → k < 16 → is_inside shape (at.address + k) ≡ true) (looks memory (standing shape v.floor) n)
