-- Segments by their number, and the data places of a list of segments: where each lies, and that no two overlap
use Rattle.segments.proofs.Words.{rules, ◌≡◌, ◌+◌, ◌-◌, ◌*◌, ◌<◌, ◌≤◌, ◌∷◌, ◌∙◌, ℕ, suc, zero, Bool, true, false, not, List, [], length, ap, inl, inr, arith, refl, get_or, length-append, zero-add, add-one, flat_map, list_any, cases_lt, and_parts, or_parts, not-true, get_or_append_left, get_or-append_right, RingKind, Segment, blocks_from, data_count, segments_overlap, are_apart}
pub use Rattle.segments.specs.Index.{before, segment_at}

-- the data places of a list of segments
abbrev pub places_of : RingKind → List Segment → List ℕ
places_of kind ss = flat_map (λ s. blocks_from s.base (data_count kind s)) ss

pub length-blocks_from : (a n : ℕ) → length (blocks_from a n) ≡ n
length-blocks_from a zero = refl
length-blocks_from a (suc n) = ap suc (length-blocks_from (a + 16) n)

pub get_or-blocks_from : (a n k d : ℕ) → k < n → get_or (blocks_from a n) k d ≡ a + 16 * k
get_or-blocks_from a zero k d h = absurd (omega arith)
get_or-blocks_from a (suc n) zero d h = omega arith
get_or-blocks_from a (suc n) (suc k) d h = omega (arith, get_or-blocks_from (a + 16) n k d (omega arith))

-- data place i is block k of segment j
pub record LiesAt (kind : RingKind) (ss : List Segment) (i j k : ℕ) : Type 0 where
  pub segment : j < length ss
  pub block : k < data_count kind (segment_at ss j)
  pub number : i ≡ before kind ss j + k
  pub address : get_or (places_of kind ss) i 0 ≡ (segment_at ss j).base + 16 * k

pub length-places_of-cons : (kind : RingKind) (s : Segment) (rest : List Segment) →
    length (places_of kind (s ∷ rest)) ≡ data_count kind s + length (places_of kind rest)
length-places_of-cons kind s rest = search (rules, length-append, blocks_from, data_count, length, length-blocks_from)

in_first : (kind : RingKind) (s : Segment) (rest : List Segment) (k : ℕ) → k < data_count kind s →
    get_or (places_of kind (s ∷ rest)) k 0 ≡ s.base + 16 * k
in_first kind s rest k h = search (rules, length, blocks_from, data_count, length-blocks_from, get_or_append_left, get_or-blocks_from)

in_rest : (kind : RingKind) (s : Segment) (rest : List Segment) (i : ℕ) → data_count kind s ≤ i →
    get_or (places_of kind (s ∷ rest)) i 0 ≡ get_or (places_of kind rest) (i - data_count kind s) 0
in_rest kind s rest i h = search (rules, get_or-append_right, length-blocks_from)

-- every data place is a block of a segment
pub place_lies : (kind : RingKind) (ss : List Segment) (i : ℕ) → i < length (places_of kind ss) →
    (j : ℕ) × (k : ℕ) × LiesAt kind ss i j k
place_lies kind [] i h = absurd (omega arith)
place_lies kind (s ∷ rest) i h = elim (cases_lt i (data_count kind s)) [
  | inl here ↦ (0, i, record { segment = omega arith; block = here; number = omega arith; address = in_first kind s rest i here })
  | inr there ↦
      let found = place_lies kind rest (i - data_count kind s) (omega (arith, length-places_of-cons kind s rest)) in
      let lies : LiesAt kind rest (i - data_count kind s) found.0 found.1 = found.2 in (
        suc found.0,
        found.1,
        record {
          segment = omega (arith, lies.segment);
          block = lies.block;
          number = omega (arith, lies.number);
          address = in_rest kind s rest i there
              ∙ lies.address;
        },
      )
]

-- every block that holds data is a data place
pub block_lies : (kind : RingKind) (ss : List Segment) (j k : ℕ) → j < length ss → k < data_count kind (segment_at ss j) →
    (before kind ss j + k < length (places_of kind ss)) × LiesAt kind ss (before kind ss j + k) j k
block_lies kind [] j k h l = absurd (omega arith)
block_lies kind (s ∷ rest) zero k h l = search (rules, length-places_of-cons, zero-add, in_first)
block_lies kind (s ∷ rest) (suc j) k h l = search (rules, length-places_of-cons, in_rest, block_lies kind rest j k (omega arith) l)

none_at : {X : Type 0} (p : X → Bool) (xs : List X) (j : ℕ) (d : X) → list_any p xs ≡ false → j < length xs → p (get_or xs j d) ≡ false
none_at p [] j d none h = absurd (omega arith)
none_at p (x ∷ xs) zero d none h = (or_parts (p x) (list_any p xs) none).0
none_at p (x ∷ xs) (suc j) d none h = none_at p xs j d (or_parts (p x) (list_any p xs) none).1 (omega arith)

-- an address lies in one segment at most
pub same_segment : (ss : List Segment) → are_apart ss ≡ true → (i j x : ℕ) → i < length ss → j < length ss →
    (segment_at ss i).base ≤ x → x < (segment_at ss i).base + 16 * (segment_at ss i).count →
    (segment_at ss j).base ≤ x → x < (segment_at ss j).base + 16 * (segment_at ss j).count → i ≡ j
same_segment (s ∷ rest) apart (suc i) (suc j) x hi hj li ri lj rj =
    ap suc (same_segment rest (and_parts (not (list_any (segments_overlap s) rest)) (are_apart rest) apart).1 i j x (omega arith) (omega arith) li ri lj rj)
same_segment x1 apart i j x hi hj li ri lj rj = grind (arith, and_parts, not-true, none_at)

-- the segments' data places follow one another
pub before-next : (kind : RingKind) (ss : List Segment) (j : ℕ) → j < length ss → before kind ss (j + 1) ≡ before kind ss j + data_count kind (segment_at ss j)
before-next kind [] j h = absurd (omega arith)
before-next kind (s ∷ rest) zero h = first kind s rest
  where
    first : (kind : RingKind) (s : Segment) (rest : List Segment) → data_count kind s + before kind rest zero ≡ 0 + data_count kind s
    first kind s [] = omega arith
    first kind s (t ∷ rest) = omega arith
before-next kind (s ∷ rest) (suc j) h = grind (arith, add-one, before-next kind rest j (omega arith))

pub before-all : (kind : RingKind) (ss : List Segment) → before kind ss (length ss) ≡ length (places_of kind ss)
before-all kind [] = refl
before-all kind (s ∷ rest) = omega (arith, length-places_of-cons kind s rest, before-all kind rest)

pub before-zero : (kind : RingKind) (ss : List Segment) → before kind ss 0 ≡ 0
before-zero kind [] = refl
before-zero kind (s ∷ rest) = refl

-- no more data places come before a segment than there are
pub before_within : (kind : RingKind) (ss : List Segment) (j : ℕ) → before kind ss j ≤ length (places_of kind ss)
before_within kind [] j = omega arith
before_within kind (s ∷ rest) zero = omega arith
before_within kind (s ∷ rest) (suc j) = omega (arith, length-places_of-cons kind s rest, before_within kind rest j)
