-- The Links that stand beside a block that was withdrawn and isn't restored: xHCI 4.6.9, 4.11.5.1
use Rattle.std.specs.Prelude.{ℕ, ◌+◌, ◌-◌, ◌==◌, ◌&&◌, ◌||◌, Bool, nat_le}
use Rattle.std.specs.List.{list_any}
use Rattle.segments.specs.ShapeValue.{Shape}
use Rattle.segments.specs.Places.{link_address}
use Rattle.segments.specs.RingView.{RingView, floor_number, leased_crossings}

-- the block at a position from the floor on was given, was withdrawn, and isn't restored
abbrev pub is_unrestored : RingView → ℕ → Bool
is_unrestored v p = nat_le (floor_number v) p && v.free p

-- the block before crossing q or the one behind it is such a block
abbrev pub is_beside_free : RingView → ℕ → Bool
is_beside_free v q = is_unrestored v (q - 1) || is_unrestored v q

-- the word at this address is the control word of a Link under lease that stands beside such a block
unfoldable pub stands_beside_free : Shape → RingView → ℕ → Bool
stands_beside_free shape v a = list_any (λ q. a == link_address shape q + 12 && is_beside_free v q) (leased_crossings shape v)
