-- What is said of each segment of a ring holds of each of its blocks and words
use Rattle.safety.proofs.LowerLaws.{◌≡◌, ◌+◌, ◌-◌, ◌*◌, ◌/◌, ◌%◌, ◌<◌, ◌≤◌, ◌==◌, ◌∙◌, ℕ, true, false, nat_le, nat_lt, arith, sym, ap, leb-true, ltb-true, eqb-true, rules, Segment, is_bad_segment, shows_first_lap, list_any, range_with_len, and_parts, or_parts, false_from_ne_true, false≢true, some_of, IsIn, is_inside, overlap, segment_has, Shape, IsShape, Xfer, Header, touches_ring, Known, is_in_range_lease, is_soiled, open_ranges, covers, touches, clean_word, each_passes, fails_in, in_range, ◌^◌, RingKind, Cmd, Evt, place_count, alignment, are_apart, is_in_one_page, is_segment, least_count, most_blocks, list_all}
use Rattle.safety.proofs.DevicesKeep.AreaFacts.{overlap_turned}

-- what is aligned for a ring of any kind lies on a boundary of 16 bytes, and no ring's segments are empty
aligned_to : (kind : RingKind) (base : ℕ) → base % alignment kind ≡ 0 → base % 16 ≡ 0
aligned_to Xfer base at = at
aligned_to Cmd base at = omega (arith, at)
aligned_to Evt base at = omega (arith, at)

some_blocks : (kind : RingKind) (count : ℕ) → least_count kind ≤ count → 0 < count
some_blocks Xfer count least = omega (arith, least)
some_blocks Cmd count least = omega (arith, least)
some_blocks Evt count least = omega (arith, least)

-- a segment lies on a boundary of 16 bytes, and isn't empty
segment_lies : (shape : Shape) → IsShape shape → (s : Segment) → IsIn s shape.segments → (s.base % 16 ≡ 0) × (0 < s.count)
segment_lies shape is s at =
    let all = (and_parts _ (list_all (is_segment shape.kind) shape.segments) (and_parts _ (nat_le 2 (place_count shape)) (and_parts _ (are_apart shape.segments) is).0).0).1 in
    let five = and_parts _ (is_in_one_page s) (each_passes (is_segment shape.kind) shape.segments s all at) in
    let four = and_parts _ (nat_le s.count most_blocks) five.0 in
    let three = and_parts _ (nat_le (least_count shape.kind) s.count) four.0 in
    let two = and_parts (nat_lt s.base (2 ^ 64)) (s.base % alignment shape.kind == 0) three.0 in
    (aligned_to shape.kind s.base (eqb-true (s.base % alignment shape.kind) 0 two.1), some_blocks shape.kind s.count (leb-true (least_count shape.kind) s.count three.1))

pub segment_some : (shape : Shape) → IsShape shape → (s : Segment) → IsIn s shape.segments → 0 < s.count
segment_some shape is s at = (segment_lies shape is s at).1

-- the segment that has a byte
pub record HasByte (shape : Shape) (a : ℕ) : Type 0 where
  pub segment : Segment
  pub at : IsIn segment shape.segments
  pub from : segment.base ≤ a
  pub to : a < segment.base + 16 * segment.count

pub has_byte : (shape : Shape) (a : ℕ) → is_inside shape a ≡ true → HasByte shape a
has_byte shape a inside = search (rules, some_of, segment_has, and_parts, nat_le, nat_lt, leb-true, ltb-true)

-- what a segment that is good satisfies
pub record IsGood (h : Header) (k : Known) (s : Segment) : Type 0 where
  pub rings : touches_ring h s.base (16 * s.count) ≡ false
  pub leases : list_any (covers h s.base (16 * s.count)) (open_ranges h k) ≡ false
  pub clean : is_soiled k s.base (16 * s.count) ≡ false
  pub shows : shows_first_lap k s ≡ false

module _ (h : Header) (k : Known) where
  good_parts : (s : Segment) → is_bad_segment h k s ≡ false → IsGood h k s
  unfolding is_bad_segment is_in_range_lease
  good_parts s good = search (rules, or_parts)

  module _ (shape : Shape) (is : IsShape shape) (good : list_any (is_bad_segment h k) shape.segments ≡ false) where
    pub each_good : (s : Segment) → IsIn s shape.segments → IsGood h k s
    each_good s at = good_parts s (fails_in (is_bad_segment h k) shape.segments s good at)

    -- no word of the ring is soiled
    pub words_clean : (a : ℕ) → a % 4 ≡ 0 → is_inside shape a ≡ true → k.soiled a ≡ false
    words_clean a word inside =
        let b = has_byte shape a inside in
        let aligned = (segment_lies shape is b.segment b.at).0 in
        let i : ℕ = (a - b.segment.base) / 4 in
        let from = b.from in
        let same : b.segment.base + 4 * i ≡ a = omega (arith, word, aligned, from) in
        ap k.soiled (sym same) ∙ clean_word k b.segment.base (16 * b.segment.count) i (each_good b.segment b.at).clean (omega (arith, b.to, from, aligned, word))

    -- no control word shows the cycle of the first lap
    pub block_shows : (a : ℕ) → a % 16 ≡ 0 → is_inside shape a ≡ true → (k.memory (a + 12) % 2 == 1) ≡ false
    unfolding shows_first_lap
    block_shows a block inside =
        let b = has_byte shape a inside in
        let aligned = (segment_lies shape is b.segment b.at).0 in
        let i : ℕ = (a - b.segment.base) / 16 in
        let from = b.from in
        let low : i < b.segment.count = omega (arith, b.to, from, aligned, block) in
        ap (λ x. k.memory (x + 12) % 2 == 1) (sym (omega (arith, block, aligned, from)))
        ∙ fails_in (λ i. k.memory (b.segment.base + 16 * i + 12) % 2 == 1) (range_with_len 0 b.segment.count) i (each_good b.segment b.at).shows (in_range 0 b.segment.count i (omega arith) (omega (arith, low)))

    -- it touches no range that it doesn't overlap with a segment
    pub touches_none : (from len : ℕ) → ((s : Segment) → IsIn s shape.segments → overlap s.base (16 * s.count) from len ≡ false) → touches shape from len ≡ false
    touches_none from len apart = search (rules, false_from_ne_true, touches, some_of, overlap, and_parts, nat_lt, false≢true, overlap_turned)
