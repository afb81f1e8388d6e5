-- A record that follows a ring of which a descriptor is withdrawn, or what is free is restored
use Rattle.ring_knowledge.proofs.MiddleLaws.{drop_no_ops, length-no_ops, split_sum, drop, ◌-◌, ◌≡◌, ◌+◌, ◌<◌, ◌≤◌, ◌∷◌, ◌++◌, ◌∙◌, ◌&&◌, ◌||◌, ℕ, suc, zero, List, [], Bool, true, false, refl, ap, sym, arith, inl, inr, length, slice_index, replicate, not, set, nat_le, nat_lt, if◌then◌else◌, cases_eq, cases_lt, cases_Bool, eq-eqb, ne_eqb, nat_tests, common_steps, and_parts, or_cases, Block, Shape, RingView, length_from, descriptor_length, no_ops, split_at, FollowsMarks, FollowsRing, RingRecord, ArePositive, no_op, is_in, place_count, floor_number, is_step_given, is_way_given, changed, Withdraws, Restores, list_any, range_with_len, contains, nat_cmp, is_noted, false≢true, or_left, or_right, leb-true, ltb-true, rules, none_each, false_unless, place_of}
use Rattle.ring_knowledge.proofs.WholeBelow.{begins_from, ends_within}

-- a descriptor's length, as the record has it
pub length_is : (shape : Shape) (v : RingView) (r : RingRecord) → FollowsMarks shape v r → (p : ℕ) → r.forgotten ≤ p → descriptor_length v p ≡ slice_index r.lengths.items (p - r.forgotten)
unfolding descriptor_length
length_is shape v r follows p kept = follows.begins p kept

-- none yet
pub none_no_op : (xs : List Block) (p : ℕ) → no_ops xs p 0 ≡ xs
unfolding no_ops
none_no_op [] p = refl
none_no_op (b ∷ rest) zero = refl
none_no_op (b ∷ rest) (suc p) = ap (λ ys. b ∷ ys) (none_no_op rest p)

-- one block more is a No Op
pub one_no_op : (xs : List Block) (p k : ℕ) → set (no_ops xs p k) (p + k) no_op ≡ no_ops xs p (suc k)
unfolding no_ops
one_no_op [] p k = refl
one_no_op (b ∷ rest) zero zero = ap (λ ys. no_op ∷ ys) (sym (none_no_op rest zero))
one_no_op (b ∷ rest) zero (suc k) = grind (arith, set, one_no_op rest zero k)
one_no_op (b ∷ rest) (suc p) k = grind (arith, set, one_no_op rest p k)

-- what was added for want of memory is out again
pub back : (old mid new inside : Bool) → (inside ≡ false → mid ≡ old) → (inside ≡ true → old ≡ false) → new ≡ (mid && not inside) → new ≡ old
back old mid new inside same none is = grind arith

-- ---- the descriptors

-- descriptors of one block begin at each of their blocks
ones_begin : (n : ℕ) (rest : List ℕ) (start q : ℕ) → length_from (replicate n 1 ++ rest) start q ≡ (if is_in q start n then 1 else length_from rest (start + n) q)
unfolding length_from
ones_begin zero rest start q = search (rules, is_in, nat_tests)
ones_begin (suc n) rest start q = search (rules, length_from, replicate, is_in, cases_eq, eq-eqb, nat_tests, ne_eqb, ones_begin n rest (start + 1) q)

-- of the descriptor that begins at p each block is one then, and all others begin where they began
split_begins : (ls : List ℕ) (start p q : ℕ) → ArePositive ls → length_from (split_at ls start p) start q ≡ (if is_in q p (length_from ls start p) then 1 else length_from ls start q)
unfolding length_from split_at
split_begins [] start p q positive = search (rules, is_in, nat_tests)
split_begins (n ∷ rest) start p q positive = search (rules, cases_eq, eq-eqb, ones_begin, is_in, length_from, cases_Bool, nat_tests, ne_eqb, begins_from, split_begins rest (start + n) p q positive.1)

ones_positive : (n : ℕ) (rest : List ℕ) → ArePositive rest → ArePositive (replicate n 1 ++ rest)
ones_positive zero rest positive = positive
ones_positive (suc n) rest positive = (omega arith, ones_positive n rest positive)

split_positive : (ls : List ℕ) (start p : ℕ) → ArePositive ls → ArePositive (split_at ls start p)
unfolding split_at
split_positive [] start p positive = positive
split_positive (n ∷ rest) start p positive = search (rules, cases_eq, eq-eqb, ones_positive, ne_eqb, split_positive rest (start + n) p positive.1)

-- whether a number is one of some, behind so many that are forgotten
moved_in : (q p n k : ℕ) → k ≤ p → k ≤ q → is_in q p n ≡ is_in (q - k) (p - k) n
moved_in q p n k a b = grind (arith, nat_tests, a, b)

-- what is one of some isn't forgotten, where the first isn't
pub from_in : (q p n : ℕ) {k : ℕ} → k ≤ p → is_in q p n ≡ true → k ≤ q
from_in q p n kept inside = let parts = and_parts (nat_le p q) (nat_lt q (p + n)) inside in omega (arith, kept, leb-true p q parts.0)

-- ---- a descriptor is withdrawn

module _ (shape : Shape) (v : RingView) (r : RingRecord) (known : FollowsRing shape v r) where
  abbrev follows : FollowsMarks shape v r
  follows = known.marks

  module _ (p : ℕ) (kept : r.forgotten ≤ p) where
    abbrev count : ℕ
    count = slice_index r.lengths.items (p - r.forgotten)

    -- its blocks lie among the declared ones
    pub ends : 0 < count → p - r.forgotten + count ≤ length r.lengths.items
    ends some =
        let same : length_from v.lengths 0 p ≡ count = follows.begins p kept in
        omega (arith, ends_within v.lengths 0 p (omega arith), follows.whole, follows.count, follows.as_many)

    -- so their lengths are among those that are kept
    pub begins_at : (ls : List ℕ) → length ls ≡ length r.lengths.items →
        ((q : ℕ) → q < length r.lengths.items → slice_index ls q ≡ (if is_in q (p - r.forgotten) count then 1 else slice_index r.lengths.items q)) →
        (q : ℕ) → slice_index ls q ≡ (if is_in q (p - r.forgotten) count then 1 else slice_index r.lengths.items q)
    begins_at ls many here q = search (rules, cases_lt, length, is_in, count, ends, slice_index, common_steps, nat_tests)

    -- No Ops in their place, and those that were given are free
    pub withdrawn_here : (n : RingRecord) → n.forgotten ≡ r.forgotten → n.blocks.items ≡ no_ops r.blocks.items (p - r.forgotten) count → length n.lengths.items ≡ length r.lengths.items →
        ((q : ℕ) → slice_index n.lengths.items q ≡ (if is_in q (p - r.forgotten) count then 1 else slice_index r.lengths.items q)) →
        n.given.items ≡ r.given.items → n.crossed.items ≡ r.crossed.items → n.floor ≡ r.floor → n.held ≡ r.held → n.count ≡ r.count →
        ((q : ℕ) → contains nat_cmp n.withdrawn q ≡ (contains nat_cmp r.withdrawn q || is_in q p count)) →
        ((q : ℕ) → contains nat_cmp n.free q ≡ (contains nat_cmp r.free q || (is_in q p count && is_noted (floor_number v) (place_count shape) r.given.items (place_of shape q) q))) →
        FollowsRing shape (changed shape v (Withdraws p)) n
    unfolding is_step_given is_way_given
    withdrawn_here n forgotten queue many begins given crossed floor held counted withdrawn free =
        let same : length_from v.lengths 0 p ≡ count = follows.begins p kept in
        let long = length-no_ops r.blocks.items (p - r.forgotten) count in
        let all = length-no_ops v.queue p (length_from v.lengths 0 p) in
        record {
          marks = record {
            allowed = follows.allowed;
            passed = rw forgotten follows.passed;
            forgotten_whole = λ q low.
                let below : q < r.forgotten = omega (arith, forgotten, low) in
                let outside : is_in q p (length_from v.lengths 0 p) ≡ false = grind (arith, nat_tests, below, kept) in
                omega (arith, follows.forgotten_whole q below, forgotten, split_begins v.lengths 0 p q follows.positive ∙ ap (λ b. if b then 1 else length_from v.lengths 0 q) outside);
            queue = ap (λ k. drop k (no_ops v.queue p (length_from v.lengths 0 p))) forgotten ∙ ap (λ m. drop r.forgotten (no_ops v.queue p m)) same ∙ drop_no_ops v.queue r.forgotten p count kept
                ∙ ap (λ xs. no_ops xs (p - r.forgotten) count) follows.queue ∙ sym queue;
            count = omega (arith, all, follows.count, forgotten, long, ap length queue);
            floor = follows.floor ∙ sym floor;
            held = follows.held ∙ sym held;
            begins = λ q late.
                let from : r.forgotten ≤ q = omega (arith, forgotten, late) in
                split_begins v.lengths 0 p q follows.positive ∙ ap (λ m. if is_in q p m then 1 else length_from v.lengths 0 q) same
                ∙ ap (λ m. if is_in q p count then 1 else m) (follows.begins q from)
                ∙ ap (λ b. if b then 1 else slice_index r.lengths.items (q - r.forgotten)) (moved_in q p count r.forgotten kept from)
                ∙ sym (begins (q - r.forgotten)) ∙ ap (λ k. slice_index n.lengths.items (q - k)) (sym forgotten);
            as_many = many ∙ follows.as_many ∙ sym long ∙ sym (ap length queue);
            whole = split_sum v.lengths 0 p ∙ follows.whole ∙ sym all;
            positive = split_positive v.lengths 0 p follows.positive;
            room = omega (arith, follows.room, all);
            places = ap length given ∙ follows.places;
            given = rw given follows.given;
            segments = rw crossed follows.segments;
            crossed = rw crossed follows.crossed;
            withdrawn = λ q late. ap (λ b. b || is_in q p (length_from v.lengths 0 p)) (follows.withdrawn q (omega (arith, forgotten, late))) ∙ ap (λ m. contains nat_cmp r.withdrawn q || is_in q p m) same ∙ sym (withdrawn q);
            free = λ q. ap (λ b. b || (is_in q p (length_from v.lengths 0 p) && v.given q)) (follows.free q) ∙ ap (λ m. contains nat_cmp r.free q || (is_in q p m && v.given q)) same
                ∙ ap (λ b. contains nat_cmp r.free q || (is_in q p count && b)) (follows.given q) ∙ sym (free q);
            free_withdrawn = λ q now. elim (or_cases (v.free q) (is_in q p (length_from v.lengths 0 p) && v.given q) now) [
              | inl was ↦ or_left (v.withdrawn q) (is_in q p (length_from v.lengths 0 p)) (follows.free_withdrawn q was)
              | inr new ↦ or_right (v.withdrawn q) (is_in q p (length_from v.lengths 0 p)) (and_parts (is_in q p (length_from v.lengths 0 p)) (v.given q) new).0
            ];
            free_given = λ q now. elim (or_cases (v.free q) (is_in q p (length_from v.lengths 0 p) && v.given q) now) [
              | inl was ↦ follows.free_given q was
              | inr new ↦ (and_parts (is_in q p (length_from v.lengths 0 p)) (v.given q) new).1
            ];
          };
          steps = λ q below. known.steps q (omega (arith, below, counted));
          stop = ap (λ m. is_step_given shape v m) counted ∙ known.stop;
        }

    -- none of them was withdrawn before, so none is free
    pub none_before : list_any v.withdrawn (range_with_len p (descriptor_length v p)) ≡ false → (q : ℕ) → is_in q p count ≡ true → v.withdrawn q ≡ false
    unfolding descriptor_length
    none_before none q inside =
        let parts = and_parts (nat_le p q) (nat_lt q (p + count)) inside in
        none_each v.withdrawn p (length_from v.lengths 0 p) none q (leb-true p q parts.0) (omega (arith, follows.begins p kept, ltb-true q (p + count) parts.1))

    pub none_free_before : list_any v.withdrawn (range_with_len p (descriptor_length v p)) ≡ false → (q : ℕ) → is_in q p count ≡ true → v.free q ≡ false
    none_free_before none q inside = false_unless (v.free q) (λ free. false≢true (sym (none_before none q inside) ∙ follows.free_withdrawn q free))

  -- the same record with sets of the same numbers
  pub same_sets : (n : RingRecord) → n.forgotten ≡ r.forgotten → n.blocks.items ≡ r.blocks.items → n.lengths.items ≡ r.lengths.items → n.given.items ≡ r.given.items → n.crossed.items ≡ r.crossed.items →
      n.floor ≡ r.floor → n.held ≡ r.held → n.count ≡ r.count → ((q : ℕ) → contains nat_cmp n.withdrawn q ≡ contains nat_cmp r.withdrawn q) →
      ((q : ℕ) → contains nat_cmp n.free q ≡ contains nat_cmp r.free q) → FollowsRing shape v n
  same_sets n forgotten blocks lengths given crossed floor held counted withdrawn free = search (rules, follows, drop, length)

  -- all that was free is restored
  pub restored_now : (n : RingRecord) → n.forgotten ≡ r.forgotten → n.blocks.items ≡ r.blocks.items → n.lengths.items ≡ r.lengths.items → n.given.items ≡ r.given.items → n.crossed.items ≡ r.crossed.items →
      n.floor ≡ r.floor → n.held ≡ r.held → n.count ≡ r.count → n.withdrawn ≡ r.withdrawn → n.free.keys ≡ [] → FollowsRing shape (changed shape v Restores) n
  unfolding is_step_given is_way_given
  restored_now n forgotten blocks lengths given crossed floor held counted withdrawn none = search (rules, follows, drop, length, false≢true)
