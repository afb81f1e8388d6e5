-- The rules of a descriptor that is withdrawn (`nop`), and of what was withdrawn. Of a ring whose endpoint is stopped a driver turns a descriptor
-- into No Ops; what was handed over of it is free then, its words are the driver's again. Until the ring is started or moved the driver puts the
-- No Ops there: xHCI 4.6.9, 4.6.10
use Rattle.std.specs.Prelude.{ℕ, ◌+◌, ◌==◌, ◌&&◌, ◌||◌, Bool, false, not, if◌then◌else◌, nat_le, nat_lt, is_some, Option, None, Some}
use Rattle.std.specs.List.{list_any, range_with_len}
use Rattle.segments.specs.Ceiling.{ceiling, data_at}
use Rattle.segments.specs.Givings.{descriptor_length, flips_passed, is_not_restored}
use Rattle.segments.specs.RingView.{RingView, floor_number}
use Rattle.segments.specs.ShapeValue.{Shape}
use Rattle.commands.specs.States.{is_stopped}
use Rattle.traces.specs.declared.header.Header.{Header}
use Rattle.traces.specs.declared.row.Row.{Row}
use Rattle.traces.specs.declared.row.Row.TheVariants.{Write}
use Rattle.traces.specs.Header.{driver_rings, is_ring, shape_of}
use Rattle.traces.specs.Versions.{has_runs, is_lenient}
use Rattle.ring_knowledge.specs.Known.{Known}
use Rattle.ownership_rules.specs.Doorbells.{is_touched}

-- the block at a position holds a value (Event Data), and the controller may have taken it and not told of it yet: xHCI 4.11.5.2
unfoldable pub may_be_told : Shape → RingView → ℕ → Bool
may_be_told shape v q = nat_le (floor_number v) q && nat_lt q (ceiling shape v) && is_some (data_at v.queue q)

-- so is one of the blocks of the descriptor that begins at p: the event that tells its value would name no block any more
unfoldable pub may_tell_value : Shape → RingView → ℕ → Bool
may_tell_value shape v p = list_any (may_be_told shape v) (range_with_len p (descriptor_length v p))

-- no descriptor begins at p, or one of its blocks was withdrawn before
unfoldable pub is_no_descriptor : RingView → ℕ → Bool
is_no_descriptor v p = descriptor_length v p == 0 || list_any v.withdrawn (range_with_len p (descriptor_length v p))

-- none begins at p that may be withdrawn: no descriptor does, or one of its blocks was withdrawn before, or an event may tell a value of it
unfoldable pub is_unfit : Shape → RingView → ℕ → Bool
is_unfit shape v p = is_no_descriptor v p || may_tell_value shape v p

module _ (h : Header) where
  -- the endpoint has the ring, is Stopped, and no unfinished command touches it
  unfoldable pub rests_with : Known → ℕ → ℕ → ℕ → Bool
  rests_with k r s i = is_ring r (k.ring_of s i) && (is_stopped (k.endpoint_state s i) && not (is_touched h k s i))

  unfoldable pub has_stopped : Known → ℕ → Bool
  has_stopped k r = list_any (λ s. list_any (λ i. rests_with k r s i) (range_with_len 1 31)) (range_with_len 1 255)

  -- no endpoint that has the ring has stopped, or no descriptor begins at p that may be withdrawn
  unfoldable pub is_bad_withdraw : Known → ℕ → ℕ → Bool
  is_bad_withdraw k r p = not (has_stopped k r) || is_unfit (shape_of h r) (k.ring r) p

  -- what the trace's version refuses besides: versions 1 and 2 a descriptor below the ceiling, version 3 one that the floor has come into, and
  -- version 4 one that the floor has passed whole: of one inside which the controller stopped the rest is taken back too (xHCI 4.6.9)
  unfoldable pub is_passed : Shape → RingView → ℕ → Bool
  is_passed shape v p =
      if has_runs h.version then nat_le (p + descriptor_length v p) (floor_number v) else nat_lt p (if is_lenient h.version then floor_number v else ceiling shape v)

  -- a block of it doesn't stand in memory as it is declared now
  unfoldable pub is_left : Known → Option ℕ → Bool
  is_left k None = false
  is_left k (Some r) = is_not_restored (shape_of h r) (k.ring r) k.memory

  -- a word flips the Cycle bit of a block that is free and that the controller may have passed
  unfoldable pub some_flips : Known → Row → Bool
  some_flips k (Write a w) = list_any (λ r. flips_passed r.shape (k.ring r.id) a w) (driver_rings h)
  some_flips k _ = false
