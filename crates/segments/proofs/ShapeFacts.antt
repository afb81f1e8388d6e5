-- What an allowed shape keeps, fact by fact
use Rattle.segments.proofs.Words.{◌≡◌, ◌+◌, ◌-◌, ◌*◌, ◌/◌, ◌%◌, ◌^◌, ◌<◌, ◌≤◌, ◌∷◌, ℕ, suc, zero, Bool, true, List, [], length, nat_lt, nat_le, arith, get_or, leb-true, ltb-true, eqb-true, list_all, and_parts, RingKind, Segment, Shape, data_count, place_count, alignment, least_count, is_segment, are_apart, IsShape, rules}
use Rattle.segments.proofs.Blocks.{segment_at}

-- a segment that a ring of this kind may have: it lies on 16 byte boundaries and ends at or below 2^64
pub record IsSegment (kind : RingKind) (s : Segment) : Type 0 where
  pub low : s.base < 2 ^ 64
  pub aligned : s.base % 16 ≡ 0
  pub boundary : s.base % alignment kind ≡ 0
  pub least : least_count kind ≤ s.count
  pub blocks : 2 ≤ s.count
  pub most : s.count ≤ 4096
  pub some_data : 1 ≤ data_count kind s
  pub data_within : data_count kind s ≤ s.count
  pub page : s.base / 65536 ≡ (s.base + 16 * s.count - 1) / 65536
  pub end : s.base + 16 * s.count ≤ 2 ^ 64

pub segment_facts : (kind : RingKind) (s : Segment) → is_segment kind s ≡ true → IsSegment kind s
segment_facts kind s h = search (rules, and_parts, nat_lt, nat_le, ltb-true, eqb-true, leb-true)

pub all_at : {X : Type 0} (p : X → Bool) (xs : List X) (j : ℕ) (d : X) → list_all p xs ≡ true → j < length xs → p (get_or xs j d) ≡ true
all_at p [] j d all h = absurd (omega arith)
all_at p (x ∷ xs) zero d all h = (and_parts (p x) (list_all p xs) all).0
all_at p (x ∷ xs) (suc j) d all h = all_at p xs j d (and_parts (p x) (list_all p xs) all).1 (omega arith)

-- what IsShape says
pub record ShapeFacts (shape : Shape) : Type 0 where
  pub few : length shape.segments ≤ 64
  pub each : (j : ℕ) → j < length shape.segments → IsSegment shape.kind (segment_at shape.segments j)
  pub several : 2 ≤ place_count shape
  pub apart : are_apart shape.segments ≡ true

pub shape_facts : (shape : Shape) → IsShape shape → ShapeFacts shape
shape_facts shape h = search (rules, and_parts, nat_le, length, leb-true, segment_facts, all_at)
