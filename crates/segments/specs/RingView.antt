-- What is known of one ring, and what each thing that happens on it adds: xHCI 4.9.2
use Rattle.std.specs.Prelude.{ℕ, ◌+◌, ◌-◌, ◌%◌, ◌==◌, ◌&&◌, ◌||◌, Bool, false, not, List, [], ◌∷◌, ◌++◌, length, filter, nat_le, nat_lt, Option, Some, None}
use Rattle.std.specs.List.{range_with_len}
use Rattle.trb.specs.declared.block.Block.{Block}
use Rattle.segments.specs.declared.spot.Spot.{Spot}
use Rattle.segments.specs.declared.spot.Spot.TheVariants.{Data}
use Rattle.segments.specs.ShapeValue.{Shape}
use Rattle.segments.specs.Places.{place_count, address_of, cycle_of, is_crossing, link_address, is_in}
use Rattle.segments.specs.Spots.{number}
use Rattle.segments.specs.Descriptors.{length_from, no_ops, split_at}

pub record RingView : Type 0 where
  -- the declared blocks, and how many blocks each declared descriptor has
  pub queue : List Block
  pub lengths : List ℕ
  -- which positions, and which crossings, were given
  pub given : ℕ → Bool
  pub crossed : ℕ → Bool
  -- which positions hold a No Op in place of a block that was withdrawn
  pub withdrawn : ℕ → Bool
  -- which of them were given before, and aren't restored since: their words are the driver's
  pub free : ℕ → Bool
  -- the spot that the controller's dequeue pointer has surely reached
  pub floor : Spot
  -- the number at which the ring is held; None where it is open
  pub held : Option ℕ

-- before anything happens on the ring
abbrev pub new_ring : RingView
new_ring = record { queue = []; lengths = []; given = λ p. false; crossed = λ q. false; withdrawn = λ p. false; free = λ p. false; floor = Data 0; held = Some 0 }

-- how many blocks were declared
abbrev pub declared : RingView → ℕ
declared v = length v.queue

abbrev pub floor_number : RingView → ℕ
floor_number v = number v.floor

-- position p is due at its place: the least one there from the floor on
abbrev pub is_due : Shape → Spot → ℕ → Bool
is_due shape floor p = nat_le (number floor) p && nat_lt p (number floor + place_count shape)

-- crossing q is due at its Link; at the floor 0 that of the first lap's end is due at once
abbrev pub is_crossing_due : Shape → Spot → ℕ → Bool
is_crossing_due shape floor q =
    is_crossing shape q && nat_le (number floor) q && (nat_lt q (number floor + place_count shape) || (q == place_count shape && number floor == 0))

-- the write gives position p: p is due, and it writes the control word of p's place with p's Cycle bit
abbrev pub gives : Shape → Spot → ℕ → ℕ → ℕ → Bool
gives shape floor p address word = is_due shape floor p && address == address_of shape p + 12 && word % 2 == cycle_of shape p

-- the write gives crossing q: q is due, and it writes the control word of q's Link with the cycle of the position before
abbrev pub gives_crossing : Shape → Spot → ℕ → ℕ → ℕ → Bool
gives_crossing shape floor q address word =
    is_crossing_due shape floor q && address == link_address shape q + 12 && word % 2 == cycle_of shape (q - 1)

-- what happens on a ring: a descriptor is declared, a word of memory is written, the controller's pointer is known to have
-- reached a spot, the ring is opened, or held at a number; the descriptor that begins at a position is withdrawn, or all that was
-- withdrawn is the controller's again
pub data RingChange : Type 0 where
  Declares : (blocks : List Block) → RingChange
  Writes : (address word : ℕ) → RingChange
  Reaches : (spot : Spot) → RingChange
  Opens : RingChange
  Holds : (number : ℕ) → RingChange
  Withdraws : (position : ℕ) → RingChange
  Restores : RingChange

-- n blocks from position p on are No Ops, each a descriptor of its own
abbrev pub without : RingView → ℕ → ℕ → RingView
without v p n = record v {
  queue = no_ops v.queue p n;
  lengths = split_at v.lengths 0 p;
  withdrawn = λ q. v.withdrawn q || is_in q p n;
  free = λ q. v.free q || (is_in q p n && v.given q);
}

-- what is known after it
abbrev pub changed : Shape → RingView → RingChange → RingView
changed shape v (Declares blocks) = record v { queue = v.queue ++ blocks; lengths = v.lengths ++ length blocks ∷ [] }
changed shape v (Writes address word) = record v {
  given = λ p. v.given p || gives shape v.floor p address word;
  crossed = λ q. v.crossed q || gives_crossing shape v.floor q address word;
}
changed shape v (Reaches spot) = record v { floor = spot }
changed shape v Opens = record v { held = None }
changed shape v (Holds n) = record v { held = Some n }
changed shape v (Withdraws p) = without v p (length_from v.lengths 0 p)
changed shape v Restores = record v { free = λ q. false }

-- the positions that may be due at some place, and the crossings that may be due at some Link
unfoldable pub due_positions : Shape → RingView → List ℕ
due_positions shape v = range_with_len (floor_number v) (place_count shape)

unfoldable pub due_crossings : Shape → RingView → List ℕ
due_crossings shape v = range_with_len (floor_number v) (place_count shape + 1)

-- the positions that a write gives, and the crossings: those that are due and weren't given
unfoldable pub positions_given : Shape → RingView → ℕ → ℕ → List ℕ
positions_given shape v address word = filter (λ p. not (v.given p) && gives shape v.floor p address word) (due_positions shape v)

unfoldable pub crossings_given : Shape → RingView → ℕ → ℕ → List ℕ
crossings_given shape v address word = filter (λ q. not (v.crossed q) && gives_crossing shape v.floor q address word) (due_crossings shape v)

-- a position that is given, and whose words aren't the driver's again
abbrev pub is_handed_over : RingView → ℕ → Bool
is_handed_over v p = v.given p && not (v.free p)

-- the positions that are handed over, the crossings that are given, and that the controller may not have passed: their blocks are under lease
unfoldable pub leased_positions : Shape → RingView → List ℕ
leased_positions shape v = filter (λ p. is_handed_over v p) (due_positions shape v)

unfoldable pub leased_crossings : Shape → RingView → List ℕ
leased_crossings shape v = filter (λ q. is_crossing shape q && v.crossed q) (due_crossings shape v)
