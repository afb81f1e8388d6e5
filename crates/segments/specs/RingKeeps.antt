-- What a driver that keeps the rules keeps of one ring, told of what is known of it and of memory: xHCI 4.9.2, 4.11.5.1
use Rattle.std.specs.Prelude.{◌≡◌, ◌≢◌, ℕ, ◌+◌, ◌-◌, ◌%◌, ◌<◌, ◌≤◌, ◌⊎◌, true, false, List, length, All, sum, Some, None, slice_get}
use Rattle.trb.specs.declared.block.Block.{Block}
use Rattle.trb.specs.Block.{block_at, kind, with_cycle}
use Rattle.trb.specs.Kind.{is_link}
use Rattle.segments.specs.declared.spot.Spot.{Spot}
use Rattle.segments.specs.declared.spot.Spot.TheVariants.{Link}
use Rattle.segments.specs.ShapeValue.{Shape}
use Rattle.segments.specs.Places.{place_count, address_of, cycle_of, is_crossing, link_crossed, link_address, overlap}
use Rattle.segments.specs.Spots.{IsSpot, rank, number}
use Rattle.segments.specs.RingView.{RingView, declared, floor_number, is_due, is_crossing_due, positions_given, crossings_given, leased_positions, leased_crossings}
use Rattle.segments.specs.Ceiling.{given_count, ceiling}
use Rattle.segments.specs.Givings.{has_no_room, is_other_than_declared, is_not_declared, is_not_whole, is_not_restored, flips_passed, is_wrong_link, leads_wrong}

-- a number at which the ring may be held: not below the floor, not above what is given
pub record MayHold (shape : Shape) (v : RingView) (m : ℕ) : Type 0 where
  pub from : floor_number v ≤ m
  pub to : m ≤ given_count shape v

-- That the floor isn't ahead of what is given follows, so no clause says it. Of which words the controller may have changed
-- nothing is said here: that is known of memory, not of one ring
pub record RingKeeps (shape : Shape) (memory : ℕ → ℕ) (v : RingView) : Type 0 where
  pub is_spot : IsSpot shape v.floor
  -- one place stays empty
  pub room : declared v + 1 ≤ floor_number v + place_count shape
  -- everything before the floor is given
  pub passed : (p : ℕ) → p < floor_number v → v.given p ≡ true
  pub passed_links : (q : ℕ) → is_crossing shape q ≡ true → rank (Link q) < rank v.floor → v.crossed q ≡ true
  -- nothing is given a lap ahead, and nothing that isn't declared
  pub given_within : (p : ℕ) → v.given p ≡ true → p < floor_number v + place_count shape
  pub given_declared : (p : ℕ) → v.given p ≡ true → p < declared v
  pub crossed_is_crossing : (q : ℕ) → v.crossed q ≡ true → is_crossing shape q ≡ true
  pub crossed_within : (q : ℕ) → v.crossed q ≡ true → (q < floor_number v + place_count shape) ⊎ ((q ≡ place_count shape) × (floor_number v ≡ 0))
  -- what is given, not passed and not free stands in memory as declared; where what is due isn't given, the other cycle stands
  pub kept : (p : ℕ) (d : Block) → floor_number v ≤ p → v.given p ≡ true → v.free p ≡ false → slice_get v.queue p ≡ Some d →
      block_at memory (address_of shape p) ≡ with_cycle d (cycle_of shape p)
  pub not_yet : (p : ℕ) → is_due shape v.floor p ≡ true → v.given p ≡ false → memory (address_of shape p + 12) % 2 ≢ cycle_of shape p
  -- a given Link leads on, with the cycle of the position before it
  pub kept_link : (q i : ℕ) → is_crossing_due shape v.floor q ≡ true → v.crossed q ≡ true → link_crossed shape q ≡ Some i →
      (is_wrong_link shape i (block_at memory (link_address shape q)) ≡ false) × (memory (link_address shape q + 12) % 2 ≡ cycle_of shape (q - 1))
  pub not_yet_link : (q : ℕ) → is_crossing_due shape v.floor q ≡ true → v.crossed q ≡ false → memory (link_address shape q + 12) % 2 ≢ cycle_of shape (q - 1)
  -- of a descriptor whose first block is given all is given, also where the floor has passed its first block
  pub whole : (p : ℕ) → v.given p ≡ true → is_not_whole shape v p ≡ false
  -- descriptors have blocks, and together they are what is declared; no Link is among them
  pub lengths : All (λ n. 0 < n) v.lengths
  pub descriptors : sum v.lengths ≡ declared v
  pub blocks : (p : ℕ) (d : Block) → slice_get v.queue p ≡ Some d → is_link (kind d) ≡ false
  -- where the ring is held. A pointer that is set goes to its spot and the ring is held there: in between this may fail, so the law
  -- of a spot that is reached speaks of both at once
  pub held : (m : ℕ) → v.held ≡ Some m → MayHold shape v m
  -- what is free was given, and shows its cycle where the controller may have passed it
  pub free_given : (p : ℕ) → v.free p ≡ true → v.given p ≡ true
  pub free_shows : (p : ℕ) → floor_number v ≤ p → p < ceiling shape v → v.free p ≡ true → memory (address_of shape p + 12) % 2 ≡ cycle_of shape p
  -- nothing is free of a ring that is open, not even what is passed
  pub open_restored : v.held ≡ None → (p : ℕ) → v.free p ≡ false

-- ---- what each thing that happens on the ring has to satisfy

-- a descriptor that is declared
pub record MayDeclare (shape : Shape) (v : RingView) (blocks : List Block) : Type 0 where
  pub room : has_no_room shape v (length blocks) ≡ false
  pub some : 0 < length blocks
  pub no_link : All (λ b. is_link (kind b) ≡ false) blocks

-- a word that is written: in no leased block and no leased Link; what it gives is whole and as declared, or leads on. What is free and
-- may be passed keeps its cycle
pub record MayWrite (shape : Shape) (memory : ℕ → ℕ) (v : RingView) (a w : ℕ) : Type 0 where
  pub blocks : All (λ p. overlap a 4 (address_of shape p) 16 ≡ false) (leased_positions shape v)
  pub links : All (λ q. overlap a 4 (link_address shape q) 16 ≡ false) (leased_crossings shape v)
  pub as_declared : All (λ p. is_other_than_declared shape v memory a w p ≡ false) (positions_given shape v a w)
  pub declared : All (λ p. is_not_declared v p ≡ false) (positions_given shape v a w)
  pub whole : All (λ p. is_not_whole shape v p ≡ false) (positions_given shape v a w)
  pub leads : All (λ q. leads_wrong shape memory a w q ≡ false) (crossings_given shape v a w)
  pub flips : flips_passed shape v a w ≡ false

-- a spot that the pointer reaches: all before it is given, and the pointer doesn't go back
pub record MayReach (shape : Shape) (v : RingView) (t : Spot) : Type 0 where
  pub is_spot : IsSpot shape t
  pub later : floor_number v ≤ number t
  pub passed : (p : ℕ) → p < number t → v.given p ≡ true
  pub passed_links : (q : ℕ) → is_crossing shape q ≡ true → rank (Link q) < rank t → v.crossed q ≡ true

-- what is free below this number lies below the ceiling: it shows its cycle, so the pointer may pass it
abbrev pub IsShownTo : Shape → RingView → ℕ → Type 0
IsShownTo shape v n = (p : ℕ) → v.free p ≡ true → p < n → p < ceiling shape v

-- nothing is free: the ring may be opened, and held anywhere
abbrev pub IsRestored : RingView → Type 0
IsRestored v = (p : ℕ) → v.free p ≡ false

-- a descriptor is withdrawn of a ring that is held
abbrev pub MayWithdraw : RingView → Type 0
MayWithdraw v = v.held ≢ None

-- all that is free stands as it is declared now
abbrev pub MayRestore : Shape → (ℕ → ℕ) → RingView → Type 0
MayRestore shape memory v = is_not_restored shape v memory ≡ false
