-- A new record follows a ring on which nothing happened
use Rattle.ring_knowledge.proofs.MiddleLaws.{drop, slice_index, ◌≡◌, ◌≤◌, ◌&&◌, ℕ, List, [], Bool, false, Some, arith, length, get_or, replicate, cases_lt, common_steps, length-map, Data, Shape, IsShape, place_count, new_ring, length_from, crossing_positive, RingRecord, is_noted, FollowsMarks, list_any, is_at, nat_cmp, false≢true, rules, noted_due, noted_past}

-- with no mark nothing is noted from the least due number on
none_noted : (least count : ℕ) (marks : List Bool) (many i n : ℕ) → marks ≡ replicate many false → least ≤ n → is_noted least count marks i n ≡ false
none_noted least count marks many i n none from = search (rules, replicate, cases_lt, noted_due, get_or, common_steps, noted_past)

and_false : (b : Bool) → (b && false) ≡ false
and_false b = grind arith

pub new_marks : (shape : Shape) → IsShape shape → 2 ≤ place_count shape → (r : RingRecord) → r.forgotten ≡ 0 → r.blocks.items ≡ [] → r.lengths.items ≡ []
    → r.given.items ≡ replicate (place_count shape) false → r.crossed.items ≡ replicate (length shape.segments) false
    → r.floor ≡ Data 0 → r.held ≡ Some 0 → r.withdrawn.keys ≡ [] → r.free.keys ≡ [] → FollowsMarks shape new_ring r
unfolding length_from
new_marks shape allowed two r none_forgotten no_blocks no_lengths none_given no_crossings floor held none_withdrawn none_free =
    search (rules, drop, length, slice_index, common_steps, none_noted, place_count, length-map, replicate, crossing_positive, and_false, list_any, is_at, nat_cmp, false≢true)
