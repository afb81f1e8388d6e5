-- Where data places and Links of a ring lie: on 16 byte boundaries, inside its segments, and apart
use Rattle.segments.proofs.LowerLaws.{◌≡◌, ◌+◌, ◌*◌, ◌%◌, ◌^◌, ◌<◌, ◌≤◌, ◌∷◌, ℕ, suc, true, List, [], length, slice_index, arith, get_or, add-zero, le-leb, lt-ltb, cases_lt, and_from, length-map, get_or-map, list_any_at, RingKind, Evt, Segment, Shape, data_count, data_places, place_count, links_of, links, segment_has, is_inside, IsShape, are_apart, rules, segment_at, places_of, before, LiesAt, place_lies, block_lies, same_segment, length-places_of-cons, IsSegment, shape_facts}

one_segment : (ss : List Segment) → are_apart ss ≡ true → (i j k l : ℕ) → i < length ss → j < length ss →
    k < (segment_at ss i).count → l < (segment_at ss j).count →
    (segment_at ss i).base + 16 * k < (segment_at ss j).base + 16 * l + 16 →
    (segment_at ss j).base + 16 * l < (segment_at ss i).base + 16 * k + 16 → i ≡ j
one_segment ss apart i j k l hi hj hk hl near far = search (rules, length, cases_lt, same_segment)

-- two blocks with a byte in common are one
pub same_block : (shape : Shape) → IsShape shape → (i j k l : ℕ) → i < length shape.segments → j < length shape.segments →
    k < (segment_at shape.segments i).count → l < (segment_at shape.segments j).count →
    (segment_at shape.segments i).base + 16 * k < (segment_at shape.segments j).base + 16 * l + 16 →
    (segment_at shape.segments j).base + 16 * l < (segment_at shape.segments i).base + 16 * k + 16 → (i ≡ j) × (k ≡ l)
same_block shape is i j k l hi hj hk hl near far =
    search (rules, one_segment shape.segments (shape_facts shape is).apart i j k l hi hj hk hl near far, shape_facts, segment_at, shape.segments)

-- a data place: block k of segment j
pub record IsPlace (shape : Shape) (i j k : ℕ) : Type 0 where
  pub segment : j < length shape.segments
  pub block : k < data_count shape.kind (segment_at shape.segments j)
  pub number : i ≡ before shape.kind shape.segments j + k
  pub address : slice_index (data_places shape) i ≡ (segment_at shape.segments j).base + 16 * k
  pub inside : k < (segment_at shape.segments j).count
  pub is_segment : IsSegment shape.kind (segment_at shape.segments j)

from_lies : (shape : Shape) → IsShape shape → (i j k : ℕ) → LiesAt shape.kind shape.segments i j k → IsPlace shape i j k
from_lies shape is i j k lies = search (rules, shape_facts)

-- every data place is a block of a segment
pub place_is : (shape : Shape) → IsShape shape → (i : ℕ) → i < place_count shape → (j : ℕ) × (k : ℕ) × IsPlace shape i j k
place_is shape is i h =
    let found = place_lies shape.kind shape.segments i h in
    (found.0, found.1, from_lies shape is i found.0 found.1 found.2)

-- every block that holds data is a data place
pub block_is : (shape : Shape) → IsShape shape → (j k : ℕ) → j < length shape.segments → k < data_count shape.kind (segment_at shape.segments j) →
    (before shape.kind shape.segments j + k < place_count shape) × IsPlace shape (before shape.kind shape.segments j + k) j k
block_is shape is j k hj hk = search (rules, block_lies shape.kind shape.segments j k hj hk, from_lies)

-- the first data place of a segment lies at its base
pub segment_start : (shape : Shape) → IsShape shape → (j : ℕ) → j < length shape.segments →
    (before shape.kind shape.segments j < place_count shape)
    × (slice_index (data_places shape) (before shape.kind shape.segments j) ≡ (segment_at shape.segments j).base)
segment_start shape is j h = search (rules, IsSegment, segment_at, shape_facts, block_is, add-zero, (shape_facts shape is).each j h, block_is shape is j 0 h (omega (arith, ((shape_facts shape is).each j h).some_data)))

-- data places lie on 16 byte boundaries
pub place_aligned : (shape : Shape) → IsShape shape → (i : ℕ) → i < place_count shape → slice_index (data_places shape) i % 16 ≡ 0
place_aligned shape is i h = search (rules, place_is shape is i h, (place_is shape is i h).2)

-- and end at or below 2^64
pub place_ends : (shape : Shape) → IsShape shape → (i : ℕ) → i < place_count shape → slice_index (data_places shape) i + 16 ≤ 2 ^ 64
place_ends shape is i h = search (rules, place_is shape is i h, (place_is shape is i h).2)

-- an address in a segment is inside the ring
pub byte_inside : (shape : Shape) (j x : ℕ) → j < length shape.segments → (segment_at shape.segments j).base ≤ x →
    x < (segment_at shape.segments j).base + 16 * (segment_at shape.segments j).count → is_inside shape x ≡ true
byte_inside shape j x h low high = search (rules, list_any_at, segment_has, and_from, le-leb, lt-ltb)

-- each of its bytes is inside the ring's segments
pub place_inside : (shape : Shape) → IsShape shape → (i b : ℕ) → i < place_count shape → b < 16 →
    is_inside shape (slice_index (data_places shape) i + b) ≡ true
place_inside shape is i b h l = search (rules, place_is shape is i h, (place_is shape is i h).2, byte_inside)

-- two data places with a byte in common are one
pub places_apart : (shape : Shape) → IsShape shape → (i j : ℕ) → i < place_count shape → j < place_count shape →
    slice_index (data_places shape) i < slice_index (data_places shape) j + 16 →
    slice_index (data_places shape) j < slice_index (data_places shape) i + 16 → i ≡ j
places_apart shape is i j hi hj near far =
    let a = place_is shape is i hi in
    let b = place_is shape is j hj in
    search (rules, a.2, b.2, same_block shape is a.0 b.0 a.1 b.1)

-- a Link: the block behind the data of segment j
pub record IsLink (shape : Shape) (j : ℕ) : Type 0 where
  pub segment : j < length shape.segments
  pub address : slice_index (links shape) j ≡ (segment_at shape.segments j).base + 16 * data_count shape.kind (segment_at shape.segments j)
  pub inside : data_count shape.kind (segment_at shape.segments j) < (segment_at shape.segments j).count
  pub is_segment : IsSegment shape.kind (segment_at shape.segments j)

link_lies : (kind : RingKind) (ss : List Segment) (j : ℕ) → j < length (links_of kind ss) → ((n : ℕ) → n < length ss → 2 ≤ (segment_at ss n).count) →
    (j < length ss) × (get_or (links_of kind ss) j 0 ≡ (segment_at ss j).base + 16 * data_count kind (segment_at ss j))
    × (data_count kind (segment_at ss j) < (segment_at ss j).count)
link_lies kind ss j h4 h5 = search (rules, length-map, get_or-map)

pub link_is : (shape : Shape) → IsShape shape → (j : ℕ) → j < length (links shape) → IsLink shape j
link_is shape is j h = search (rules, shape_facts, link_lies, shape_facts shape is, link_lies shape.kind shape.segments j h (λ n l. ((shape_facts shape is).each n l).blocks))

-- a command or transfer ring has a Link in each segment
pub length-links : (shape : Shape) → (shape.kind ≡ Evt → ⊥) → length (links shape) ≡ length shape.segments
length-links shape other = search (rules, length, length-map)

-- Links lie on 16 byte boundaries
pub link_aligned : (shape : Shape) → IsShape shape → (j : ℕ) → j < length (links shape) → slice_index (links shape) j % 16 ≡ 0
link_aligned shape is j h = search (rules, link_is)

-- and end at or below 2^64
pub link_ends : (shape : Shape) → IsShape shape → (j : ℕ) → j < length (links shape) → slice_index (links shape) j + 16 ≤ 2 ^ 64
link_ends shape is j h = search (rules, link_is)

-- each of their bytes is inside the ring's segments
pub link_inside : (shape : Shape) → IsShape shape → (j b : ℕ) → j < length (links shape) → b < 16 →
    is_inside shape (slice_index (links shape) j + b) ≡ true
link_inside shape is j b h l = search (rules, link_is, byte_inside)

-- two Links with a byte in common are one
pub links_apart : (shape : Shape) → IsShape shape → (i j : ℕ) → i < length (links shape) → j < length (links shape) →
    slice_index (links shape) i < slice_index (links shape) j + 16 →
    slice_index (links shape) j < slice_index (links shape) i + 16 → i ≡ j
links_apart shape is i j hi hj near far = search (rules, length, slice_index, link_is, same_block)

-- two Links at one address are one
pub same_link : (shape : Shape) → IsShape shape → (i j : ℕ) → i < length (links shape) → j < length (links shape) →
    slice_index (links shape) i ≡ slice_index (links shape) j → i ≡ j
same_link shape is i j hi hj e = links_apart shape is i j hi hj (omega arith) (omega arith)

-- a data place and a Link have no byte in common
pub place_not_link : (shape : Shape) → IsShape shape → (i j : ℕ) → i < place_count shape → j < length (links shape) →
    slice_index (data_places shape) i < slice_index (links shape) j + 16 →
    slice_index (links shape) j < slice_index (data_places shape) i + 16 → ⊥
place_not_link shape is i j hi hj near far =
    let a = place_is shape is i hi in
    let here : IsPlace shape i a.0 a.1 = a.2 in
    let there = link_is shape is j hj in
    let one = same_block shape is a.0 j a.1 _ here.segment there.segment here.inside there.inside (omega (arith, here.address, there.address)) (omega (arith, here.address, there.address)) in
    search (rules, here.block, one, data_count, segment_at)

-- there are at most 64 times 4,096 of them
pub place_count_most : (shape : Shape) → IsShape shape → place_count shape ≤ 64 * 4096
place_count_most shape is =
    let each : (j : ℕ) → j < length shape.segments → data_count shape.kind (segment_at shape.segments j) ≤ 4096 = search (rules, shape_facts shape is) in
    omega (arith, at_most shape.kind shape.segments each, (shape_facts shape is).few)
  where
    at_most : (kind : RingKind) (ss : List Segment) → ((j : ℕ) → j < length ss → data_count kind (segment_at ss j) ≤ 4096) → length (places_of kind ss) ≤ length ss * 4096
    at_most kind [] each = omega arith
    at_most kind (s ∷ rest) each = omega (arith, length-places_of-cons kind s rest, each 0 (omega arith), at_most kind rest (λ j h. each (suc j) (omega arith)))
