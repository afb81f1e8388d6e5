-- The rules of one ring: what is declared on it, and what a write gives of it: xHCI 4.9.2, 4.11.2, 4.11.5.1
use Rattle.std.specs.Prelude.{ℕ, filter, List, ◌+◌, ◌-◌, ◌%◌, ◌==◌, ◌&&◌, ◌||◌, Bool, true, false, not, nat_le, nat_lt, Option, Some, None, slice_get, unwrap_or}
use Rattle.std.specs.List.{list_all, list_any, range_with_len}
use Rattle.guest_memory.specs.Memory.{put}
use Rattle.trb.specs.declared.block.Block.{Block}
use Rattle.trb.specs.Bits.{is_set}
use Rattle.trb.specs.Block.{aligned, block_at, word, with_cycle, kind, same_words, pointer}
use Rattle.trb.specs.Kind.{is_link}
use Rattle.segments.specs.ShapeValue.{Shape}
use Rattle.segments.specs.Places.{place_count, address_of, cycle_of, link_crossed, link_address, link_target, toggles}
use Rattle.segments.specs.RingView.{RingView, declared, floor_number, due_positions}
use Rattle.segments.specs.Ceiling.{is_step_given, ceiling}
use Rattle.segments.specs.Descriptors.{length_from}

-- more blocks than the ring has room for: one place stays empty
unfoldable pub has_no_room : Shape → RingView → ℕ → Bool
has_no_room shape v count = nat_lt (place_count shape - 1 + floor_number v) (declared v + count)

-- ---- a block

-- it has the words of what is declared there, with this cycle; where nothing is, another rule tells so
unfoldable pub is_declared_as : Block → ℕ → Option Block → Bool
is_declared_as b cycle None = true
is_declared_as b cycle (Some d) = same_words b (with_cycle d cycle)

-- with the word written, position p has other words than the declared ones with its cycle
unfoldable pub is_other_than_declared : Shape → RingView → (ℕ → ℕ) → ℕ → ℕ → ℕ → Bool
is_other_than_declared shape v memory a w p =
    not (is_declared_as (block_at (put memory a w) (address_of shape p)) (cycle_of shape p) (slice_get v.queue p))

unfoldable pub is_not_declared : RingView → ℕ → Bool
is_not_declared v p = nat_le (declared v) p

unfoldable pub descriptor_length : RingView → ℕ → ℕ
descriptor_length v p = length_from v.lengths 0 p

-- p begins a descriptor, and another of its blocks, or a crossing between its blocks, isn't given
unfoldable pub is_not_whole : Shape → RingView → ℕ → Bool
is_not_whole shape v p = not (list_all (λ q. is_step_given shape v q) (range_with_len (p + 1) (descriptor_length v p - 1)))

-- ---- what was withdrawn and isn't restored yet

unfoldable pub unrestored : Shape → RingView → List ℕ
unrestored shape v = filter v.free (due_positions shape v)

-- a block of it doesn't stand in memory as it is declared now
unfoldable pub is_not_restored : Shape → RingView → (ℕ → ℕ) → Bool
is_not_restored shape v memory =
    list_any (λ p. not (is_declared_as (block_at memory (address_of shape p)) (cycle_of shape p) (slice_get v.queue p))) (unrestored shape v)

-- the write flips the Cycle bit of a block of it that the controller may have passed
unfoldable pub flips_passed : Shape → RingView → ℕ → ℕ → Bool
flips_passed shape v a w = list_any (λ p. nat_lt p (ceiling shape v) && a == address_of shape p + 12 && not (w % 2 == cycle_of shape p)) (unrestored shape v)

-- ---- a Link

abbrev pub same : Bool → Bool → Bool
same true b = b
same false b = not b

-- a Link that doesn't lead to the next segment, is no Link, or toggles the cycle elsewhere than at the ring's end
unfoldable pub is_wrong_link : Shape → ℕ → Block → Bool
is_wrong_link shape i b =
    not (aligned (pointer b) == link_target shape i) || not (is_link (kind b)) || not (same (is_set (word b 3) 1) (toggles shape i))

-- the segment whose Link is crossed on the way to position q
unfoldable pub link_of : Shape → ℕ → ℕ
link_of shape q = unwrap_or (link_crossed shape q) 0

-- the Link as it stands with the word written leads elsewhere
unfoldable pub leads_wrong : Shape → (ℕ → ℕ) → ℕ → ℕ → ℕ → Bool
leads_wrong shape memory a w q = is_wrong_link shape (link_of shape q) (block_at (put memory a w) (link_address shape q))

-- Interrupt On Completion (IOC) on a Link: not in the profile
unfoldable pub interrupts : Shape → (ℕ → ℕ) → ℕ → ℕ → ℕ → Bool
interrupts shape memory a w q = is_set (word (block_at (put memory a w) (link_address shape q)) 3) 5
