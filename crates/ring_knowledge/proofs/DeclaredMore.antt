-- A record with one descriptor more follows what is declared with it
use Rattle.ring_knowledge.proofs.LowerLaws.{drop_append, length_from-push, drop, ◌≡◌, ◌+◌, ◌-◌, ◌<◌, ◌≤◌, ◌∷◌, ◌++◌, ℕ, suc, zero, List, [], false, refl, ap, arith, length, set, length-append, not, sum, slice_index, replicate, nat_le, take, ltb-false, lt-ltb, le-ltb, le-leb, sum_by-cons, cases_lt, lt-leb, nat_tests, common_steps, Block, Shape, place_count, place_count_pos, RingView, Declares, changed, declared, floor_number, length_from, has_no_room, RingRecord, ArePositive, FollowsMarks, contains, nat_cmp, rules, AreWholeBelow}

pub sum-cons : (d : ℕ) (ds : List ℕ) → sum (d ∷ ds) ≡ d + sum ds
sum-cons d ds = sum_by-cons (λ x. x) d ds

-- it begins behind them
at_end : (ds : List ℕ) (n start p : ℕ) → ArePositive ds → p ≡ start + sum ds → length_from (ds ++ n ∷ []) start p ≡ n
unfolding length_from
at_end [] n start p pos h = grind (arith, nat_tests)
at_end (d ∷ ds) n start p pos h = search (rules, sum-cons, nat_tests, at_end ds n (start + d) p pos.1)

-- and none begins later
past_end : (ds : List ℕ) (n start p : ℕ) → start + sum ds < p → length_from (ds ++ n ∷ []) start p ≡ 0
unfolding length_from
past_end [] n start p h = grind (arith, nat_tests)
past_end (d ∷ ds) n start p h = search (rules, sum-cons, nat_tests, past_end ds n (start + d) p)

positive_push : (ds : List ℕ) (n : ℕ) → ArePositive ds → 0 < n → ArePositive (ds ++ n ∷ [])
positive_push [] n pos h = (h, tt)
positive_push (d ∷ ds) n pos h = (pos.0, positive_push ds n pos.1 h)

sum_push : (ds : List ℕ) (n : ℕ) → sum (ds ++ n ∷ []) ≡ sum ds + n
sum_push ds n = grind (arith, common_steps)

index_before : (ls ms : List ℕ) (p : ℕ) → p < length ls → slice_index (ls ++ ms) p ≡ slice_index ls p
index_before ls ms p h = grind (arith, common_steps, h)

index_at : (ls ms : List ℕ) (n p : ℕ) → p ≡ length ls → slice_index (ls ++ n ∷ ms) p ≡ n
index_at ls ms n p h = grind (arith, common_steps, h)

zero_in : (m i : ℕ) → slice_index (replicate m 0) i ≡ 0
zero_in zero i = refl
zero_in (suc m) zero = refl
zero_in (suc m) (suc i) = zero_in m i

index_past : (ls : List ℕ) (n m p : ℕ) → length ls < p → slice_index (ls ++ n ∷ replicate m 0) p ≡ 0
index_past [] n m zero h = absurd (omega arith)
index_past [] n m (suc p) h = zero_in m p
index_past (l ∷ ls) n m zero h = absurd (omega arith)
index_past (l ∷ ls) n m (suc p) h = index_past ls n m p (omega arith)

-- so many zeros behind the lengths, and the first of them made the descriptor's length
pub lengths_more : (ls : List ℕ) (n : ℕ) → 0 < n → set (ls ++ replicate n 0) (length ls) n ≡ ls ++ (n ∷ replicate (n - 1) 0)
lengths_more [] zero h = absurd (omega arith)
lengths_more [] (suc n) h = let less : suc n - 1 ≡ n = omega arith in rw less refl
lengths_more (l ∷ ls) n h = ap (λ xs. l ∷ xs) (lengths_more ls n h)

module _ (shape : Shape) (v : RingView) (r : RingRecord) (follows : FollowsMarks shape v r) (blocks : List Block) where
  begins_now : (ls : List ℕ) → 0 < length blocks → ls ≡ r.lengths.items ++ (length blocks ∷ replicate (length blocks - 1) 0) → (p : ℕ) → r.forgotten ≤ p →
      length_from (v.lengths ++ length blocks ∷ []) 0 p ≡ slice_index ls (p - r.forgotten)
  begins_now ls some e p kept = search (rules, length, replicate, slice_index, sum, cases_lt, length_from-push, index_before, at_end, index_at, past_end, index_past)

  -- what is forgotten of the descriptors is still whole
  whole_still : AreWholeBelow (changed shape v (Declares blocks)) r.forgotten
  whole_still p low = rw (length_from-push v.lengths (length blocks) 0 p (omega (arith, follows.whole, follows.count, low))) (follows.forgotten_whole p low)

  -- the record with the blocks and their length
  pub declared_marks : has_no_room shape v (length blocks) ≡ false → 0 < length blocks → (n : RingRecord) → n.blocks.items ≡ r.blocks.items ++ blocks
      → n.lengths.items ≡ r.lengths.items ++ (length blocks ∷ replicate (length blocks - 1) 0)
      → n.given.items ≡ r.given.items → n.crossed.items ≡ r.crossed.items → n.floor ≡ r.floor → n.held ≡ r.held → n.withdrawn ≡ r.withdrawn → n.free ≡ r.free → n.forgotten ≡ r.forgotten
      → FollowsMarks shape (changed shape v (Declares blocks)) n
  unfolding has_no_room
  declared_marks fits some n more lengths given crossed floor held withdrawn free forgotten =
      search (rules, length, length-append, replicate, common_steps, floor_number, place_count, ltb-false, place_count_pos, drop, drop_append, begins_now, sum_push, positive_push, whole_still, contains, nat_cmp)

-- the lengths as the code makes them
pub lengths_grown : (ls ms : List ℕ) (start len n : ℕ) → start ≡ len → len ≡ length ls → 0 < n → ms ≡ take (start + n) ls ++ replicate (start + n - len) 0 →
    set ms start n ≡ ls ++ (n ∷ replicate (n - 1) 0)
lengths_grown ls ms start len n same all some e = search (rules, take, length, set, replicate, lengths_more, common_steps)

-- whether there is room, as the code tests it
pub room_test : (shape : Shape) (v : RingView) (r : RingRecord) → FollowsMarks shape v r → (count len most : ℕ) → len ≡ declared v →
    most ≡ place_count shape - 1 + floor_number v - len → nat_le count most ≡ not (has_no_room shape v count)
unfolding has_no_room
room_test shape v r follows count len most len_is most_is = search (rules, nat_le, place_count_pos, cases_lt, lt-leb, lt-ltb, le-leb, le-ltb)
