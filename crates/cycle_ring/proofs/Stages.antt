-- How far the writes of a descriptor are, and what each further one gives
use Rattle.cycle_ring.proofs.Words.{rules, IsRestored, ◌≡◌, ◌+◌, ◌-◌, ◌*◌, ◌%◌, ◌<◌, ◌≤◌, ◌⊎◌, ◌||◌, ℕ, true, false, List, Some, slice_get, arith, refl, sym, inl, inr, subst, cases_lt, cases_order, or_cases, or_left, or_right, false_from_ne_true, not_from_true, Block, block_at, with_cycle, same_words, put, Shape, IsShape, place_count, address_of, cycle_of, is_crossing, link_address, overlap, RingView, Writes, changed, declared, floor_number, is_due, is_crossing_due, gives, gives_crossing, descriptor_length, is_other_than_declared, is_declared_as, is_not_declared, is_not_whole, leads_wrong, interrupts, address_aligned, same_position_near, crossing_positive, same_crossing_at, data_not_link, Gives, GivesCrossing, due_is, due_from, crossing_due_from, gives_is, gives_crossing_is, gives_from, gives_crossing_from, whole_from, step_from}
use Rattle.cycle_ring.proofs.MayWriteLemmas.{MayGive, MayPut, may_write_from, link_address_aligned, block_word_no_block, block_word_no_link, link_word_no_block, link_word_no_link}

-- a descriptor of count blocks is declared last, from position first on; given are all before it, its own blocks behind the first
-- one up to next, and the Links on the way up to way
pub record Stage (shape : Shape) (first count : ℕ) (queue : List Block) (next way : ℕ) (v : RingView) : Type 0 where
  pub low : floor_number v ≤ first
  pub room : first + count < floor_number v + place_count shape
  pub all : declared v ≡ first + count
  pub queue_is : v.queue ≡ queue
  pub begins : descriptor_length v first ≡ count
  pub inner : (p : ℕ) → first < p → descriptor_length v p ≡ 0
  pub given_only : (p : ℕ) → v.given p ≡ true → (p < first) ⊎ ((first < p) × (p < next))
  pub given : (p : ℕ) → p < first → v.given p ≡ true
  pub given_later : (p : ℕ) → first < p → p < next → v.given p ≡ true
  pub crossed_only : (q : ℕ) → v.crossed q ≡ true → (is_crossing shape q ≡ true) × (q < way)
  pub crossed : (q : ℕ) → is_crossing shape q ≡ true → q < way → v.crossed q ≡ true
  pub restored : IsRestored v

-- a block that stands with the word written as it is declared
declared_right :
    (shape : Shape) (v : RingView) (m : ℕ → ℕ) (a w p : ℕ) (d : Block) → slice_get v.queue p ≡ Some d
    → block_at (put m a w) (address_of shape p) ≡ with_cycle d (cycle_of shape p) → is_other_than_declared shape v m a w p ≡ false
unfolding is_other_than_declared is_declared_as
declared_right shape v m a w p d at stands =
    search (rules, not_from_true, is_declared_as, block_at, put, address_of, cycle_of, slice_get, same_words, with_cycle, Block)

not_declared_false : (v : RingView) (p : ℕ) → p < declared v → is_not_declared v p ≡ false
unfolding is_not_declared
not_declared_false v p below = search (rules, false_from_ne_true)

module _ (shape : Shape) (is : IsShape shape) (first count : ℕ) (queue : List Block) (next way : ℕ) (m : ℕ → ℕ) (v : RingView)
    (s : Stage shape first count queue next way v) where
  after :
      (later_next later_way a w : ℕ) → next ≤ later_next → way ≤ later_way
      → ((p : ℕ) → Gives shape v.floor p a w → (first < p) × (p < later_next))
      → ((q : ℕ) → GivesCrossing shape v.floor q a w → q < later_way)
      → ((p : ℕ) → first < p → p < later_next → (p < next) ⊎ (gives shape v.floor p a w ≡ true))
      → ((q : ℕ) → is_crossing shape q ≡ true → q < later_way → (q < way) ⊎ (gives_crossing shape v.floor q a w ≡ true))
      → Stage shape first count queue later_next later_way (changed shape v (Writes a w))
  unfolding descriptor_length
  after later_next later_way a w up up_way gives_p gives_q new_p new_q =
      record {
        low = s.low;
        room = s.room;
        all = s.all;
        queue_is = s.queue_is;
        begins = s.begins;
        inner = s.inner;
        given_only = λ p g. elim (or_cases (v.given p) (gives shape v.floor p a w) g) [
          | inl was ↦ elim (s.given_only p was) [
            | inl before ↦ inl before
            | inr within ↦ inr (within.0, omega (arith, within.1))
          ]
          | inr now ↦ inr (gives_p p (gives_is shape v.floor p a w now))
        ];
        given = λ p below. or_left (v.given p) (gives shape v.floor p a w) (s.given p below);
        given_later = λ p above below. elim (new_p p above below) [
          | inl was ↦ or_left (v.given p) (gives shape v.floor p a w) (s.given_later p above was)
          | inr now ↦ or_right (v.given p) (gives shape v.floor p a w) now
        ];
        crossed_only = λ q g. elim (or_cases (v.crossed q) (gives_crossing shape v.floor q a w) g) [
          | inl was ↦ let before = s.crossed_only q was in (before.0, omega (arith, before.1))
          | inr now ↦ let giving = gives_crossing_is shape v.floor q a w now in (giving.due.crossing, gives_q q giving)
        ];
        crossed = λ q crossing below. elim (new_q q crossing below) [
          | inl was ↦ or_left (v.crossed q) (gives_crossing shape v.floor q a w) (s.crossed q crossing was)
          | inr now ↦ or_right (v.crossed q) (gives_crossing shape v.floor q a w) now
        ];
        restored = s.restored;
      }

  -- a word that gives nothing
  quiet :
      (a w : ℕ) → ((p : ℕ) → Gives shape v.floor p a w → ⊥) → ((q : ℕ) → GivesCrossing shape v.floor q a w → ⊥)
      → Stage shape first count queue next way (changed shape v (Writes a w))
  quiet a w none none_crossed =
      after next way a w (omega arith) (omega arith) (λ p g. absurd (none p g)) (λ q g. absurd (none_crossed q g)) (λ p above below. inl below) (λ q crossing below. inl below)

  -- nor does one of words 0 to 2 of what begins at a multiple of 16
  low_quiet :
      (a x k w : ℕ) → a % 16 ≡ 0 → k < 3 → x ≡ a + 4 * k → ((p : ℕ) → Gives shape v.floor p x w → ⊥) × ((r : ℕ) → GivesCrossing shape v.floor r x w → ⊥)
  low_quiet a x k w here small at = (
    λ p g. let there = address_aligned shape is p in omega (arith, g.at),
    λ r g. let there = link_address_aligned shape is r g.due.crossing in omega (arith, g.at),
  )

  -- ---- the block of position q, which isn't given

  module _ (q : ℕ) (from : first ≤ q) (within : q < first + count) (new : (q ≡ first) ⊎ (next ≤ q)) where
    not_this : (p : ℕ) → v.given p ≡ true → p ≡ q → ⊥
    not_this p given same = search rules

    free_of_blocks :
        (x k : ℕ) → k < 4 → x ≡ address_of shape q + 4 * k
        → (p : ℕ) → is_due shape v.floor p ≡ true → v.given p ≡ true → overlap x 4 (address_of shape p) 16 ≡ false
    free_of_blocks x k small at p due given =
        let is_due = due_is shape v.floor p due in
        block_word_no_block shape is x k small q p at (omega (arith, s.low, is_due.1)) (omega (arith, s.room, is_due.0)) (not_this p given)

    -- words 0 to 2
    pub low_word :
        (x k w : ℕ) → k < 3 → x ≡ address_of shape q + 4 * k
        → MayPut shape m v x w × Stage shape first count queue next way (changed shape v (Writes x w))
    low_word x k w small at =
        let none = low_quiet (address_of shape q) x k w (address_aligned shape is q) small at in (
          may_write_from shape m v x w s.restored (free_of_blocks x k (omega arith) at) (λ r crossing crossed above. block_word_no_link shape is x k (omega arith) q r at crossing)
              (λ p g. absurd (none.0 p g)) (λ r g. absurd (none.1 r g)),
          quiet x w none.0 none.1,
        )

    -- the control word gives this position alone
    gives_this : (w p : ℕ) → Gives shape v.floor p (address_of shape q + 12) w → p ≡ q
    gives_this w p g = search (rules, same_position_near)

    gives_no_link : (w r : ℕ) → GivesCrossing shape v.floor r (address_of shape q + 12) w → ⊥
    gives_no_link w r g = data_not_link shape is q r g.due.crossing (omega (arith, g.at))

    pub control_word :
        (w : ℕ) → MayGive shape m v (address_of shape q + 12) w q → MayPut shape m v (address_of shape q + 12) w
    control_word w may =
        may_write_from shape m v (address_of shape q + 12) w s.restored (free_of_blocks (address_of shape q + 12) 3 (omega arith) (omega arith))
        (λ r crossing crossed above. block_word_no_link shape is (address_of shape q + 12) 3 (omega arith) q r (omega arith) crossing)
        (λ p g. subst (λ n. MayGive shape m v (address_of shape q + 12) w n) (sym (gives_this w p g)) may)
        (λ r g. absurd (gives_no_link w r g))

    pub may_give :
        (w : ℕ) (d : Block) → slice_get queue q ≡ Some d → block_at (put m (address_of shape q + 12) w) (address_of shape q) ≡ with_cycle d (cycle_of shape q)
        → is_not_whole shape v q ≡ false → MayGive shape m v (address_of shape q + 12) w q
    may_give w d at stands whole = search (rules, declared_right, address_of, slice_get, declared, not_declared_false)

    due_here : is_due shape v.floor q ≡ true
    due_here = due_from shape v.floor q (omega (arith, s.low)) (omega (arith, s.room))

  -- the control word of the block that is next behind the first one
  pub later_control :
      (w : ℕ) (d : Block) → first < next → next < first + count → slice_get queue next ≡ Some d → w % 2 ≡ cycle_of shape next
      → block_at (put m (address_of shape next + 12) w) (address_of shape next) ≡ with_cycle d (cycle_of shape next)
      → MayPut shape m v (address_of shape next + 12) w × Stage shape first count queue (next + 1) way (changed shape v (Writes (address_of shape next + 12) w))
  later_control w d behind within at cycle stands =
      let from : first ≤ next = omega arith in
      let new : (next ≡ first) ⊎ (next ≤ next) = inr (omega arith) in
      let none : descriptor_length v next ≡ 0 = s.inner next behind in
      let whole : is_not_whole shape v next ≡ false = whole_from shape v next (λ r low high. absurd (omega arith)) in (
        control_word next from within new w (may_give next from within new w d at stands whole),
        after (next + 1) way (address_of shape next + 12) w (omega arith) (omega arith)
            (λ p g. let same = gives_this next from within new w p g in (omega arith, omega arith))
            (λ r g. absurd (gives_no_link next from within new w r g))
            (λ p above below. elim (cases_lt p next) [
              | inl was ↦ inl was
              | inr not_below ↦
                  let same : next ≡ p = omega arith in
                  inr (subst (λ n. gives shape v.floor n (address_of shape next + 12) w ≡ true) same
                  (gives_from shape v.floor next w (due_here next from within new) cycle))
            ])
            (λ r crossing below. inl below),
      )

  -- the control word of the first block, all others being given
  pub first_control :
      (w : ℕ) (d : Block) → next ≡ first + count → way ≡ first + count → 0 < count → slice_get queue first ≡ Some d
      → block_at (put m (address_of shape first + 12) w) (address_of shape first) ≡ with_cycle d (cycle_of shape first)
      → MayPut shape m v (address_of shape first + 12) w
  first_control w d all_given all_crossed some at stands =
      let from : first ≤ first = omega arith in
      let within : first < first + count = omega arith in
      let length_is : descriptor_length v first ≡ count = s.begins in
      let whole : is_not_whole shape v first ≡ false =
      whole_from shape v first (λ r low high. step_from shape v r (s.given_later r low (omega arith)) (λ crossing. s.crossed r crossing (omega arith))) in
      control_word first from within (inl refl) w (may_give first from within (inl refl) w d at stands whole)

  pub first_given : (w p : ℕ) → 0 < count → next ≡ first + count → w % 2 ≡ cycle_of shape first → p < first + count → (v.given p || gives shape v.floor p (address_of shape first + 12) w) ≡ true
  first_given w p some all_given cycle below = search (rules, gives_from, due_here, cases_order, or_right, gives, address_of, or_left)

  pub first_given_only : (w p : ℕ) → 0 < count → next ≤ first + count → (v.given p || gives shape v.floor p (address_of shape first + 12) w) ≡ true → p < first + count
  first_given_only w p some up g = search (rules, or_cases, gives_this, gives_is)

  pub first_crossed_only : (w q : ℕ) → 0 < count → way ≤ first + count → (v.crossed q || gives_crossing shape v.floor q (address_of shape first + 12) w) ≡ true → (is_crossing shape q ≡ true) × (q < first + count)
  first_crossed_only w q some up g = search (rules, or_cases, gives_no_link, gives_crossing_is)

  -- ---- the Link that is crossed on the way to the position way

  module _ (crossing : is_crossing shape way ≡ true) (from : first ≤ way) (within : way < first + count) where
    free_of_links :
        (x k : ℕ) → k < 4 → x ≡ link_address shape way + 4 * k
        → (r : ℕ) → is_crossing shape r ≡ true → v.crossed r ≡ true → floor_number v ≤ r → overlap x 4 (link_address shape r) 16 ≡ false
    free_of_links x k small at r at_r crossed above =
        let before = s.crossed_only r crossed in
        link_word_no_link shape is x k small way r at crossing at_r before.1 (omega (arith, s.room))

    pub link_low_word :
        (x k w : ℕ) → k < 3 → x ≡ link_address shape way + 4 * k
        → MayPut shape m v x w × Stage shape first count queue next way (changed shape v (Writes x w))
    link_low_word x k w small at =
        let none = low_quiet (link_address shape way) x k w (link_address_aligned shape is way crossing) small at in (
          may_write_from shape m v x w s.restored (λ p due given. link_word_no_block shape is x k (omega arith) way p at crossing) (free_of_links x k (omega arith) at)
              (λ p g. absurd (none.0 p g)) (λ r g. absurd (none.1 r g)),
          quiet x w none.0 none.1,
        )

    -- the control word gives this crossing alone
    gives_this_crossing : (w r : ℕ) → GivesCrossing shape v.floor r (link_address shape way + 12) w → r ≡ way
    gives_this_crossing w r g = search (rules, crossing_positive, cases_lt, same_crossing_at)

    gives_no_block : (w p : ℕ) → Gives shape v.floor p (link_address shape way + 12) w → ⊥
    gives_no_block w p g = data_not_link shape is p way crossing (omega (arith, g.at))

    pub link_control_word :
        (w : ℕ) → w % 2 ≡ cycle_of shape (way - 1)
        → (leads_wrong shape m (link_address shape way + 12) w way ≡ false) × (interrupts shape m (link_address shape way + 12) w way ≡ false)
        → MayPut shape m v (link_address shape way + 12) w × Stage shape first count queue next (way + 1) (changed shape v (Writes (link_address shape way + 12) w))
    link_control_word w cycle leads =
        let due : is_crossing_due shape v.floor way ≡ true =
        crossing_due_from shape v.floor way (record { crossing = crossing; from = omega (arith, s.low); within = inl (omega (arith, s.room)) }) in (
          may_write_from shape m v (link_address shape way + 12) w s.restored
              (λ p due given. link_word_no_block shape is (link_address shape way + 12) 3 (omega arith) way p (omega arith) crossing)
              (free_of_links (link_address shape way + 12) 3 (omega arith) (omega arith))
              (λ p g. absurd (gives_no_block w p g))
              (λ r g. subst (λ n. (leads_wrong shape m (link_address shape way + 12) w n ≡ false) × (interrupts shape m (link_address shape way + 12) w n ≡ false)) (sym (gives_this_crossing w r g)) leads),
          after next (way + 1) (link_address shape way + 12) w (omega arith) (omega arith)
              (λ p g. absurd (gives_no_block w p g))
              (λ r g. let same = gives_this_crossing w r g in omega arith)
              (λ p above below. inl below)
              (λ r at_r below. elim (cases_lt r way) [
                | inl was ↦ inl was
                | inr not_below ↦ search (rules, gives_crossing, link_address, gives_crossing_from)
              ]),
        )

  -- where no Link is crossed on the way
  pub no_way : is_crossing shape way ≡ false → Stage shape first count queue next (way + 1) v
  no_way none = search (rules, cases_lt)
