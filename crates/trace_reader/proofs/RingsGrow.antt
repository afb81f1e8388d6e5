-- One ring more in a header
use Rattle.trace_reader.proofs.MiddleLaws.{rules, ◌≡◌, ◌<◌, ◌∷◌, ◌++◌, true, false, List, [], nat_lt, arith, refl, lt-ltb, list_all-append, segment_facts, are_apart, IsHeader, Header, list_any, list_all, and_parts, and_from, or_parts, is_segment, is_shape, RingKind, Segment, Ring, clash, is_misplaced, SaysRing, together_with, eq-eqb}
use Rattle.segments.specs.ShapeValue.{Shape}
use Rattle.traces.specs.AllowedHeaders.{AreUnmoved}

-- a ring that isn't misplaced may stand behind the others
pub one_ring_more : (h : Header) (rings : List Ring) (ring : Ring) → ring.id < 256 → is_misplaced h.rings [] (SaysRing ring) ≡ false → IsHeader h → rings ≡ h.rings ++ ring ∷ [] →
    IsHeader (record h { rings = rings })
one_ring_more h rings ring small placed headed is = search (rules, or_parts, and_parts, and_from, list_all-append, together_with)

pub one_more_unmoved : (rings : List Ring) (ring : Ring) → AreUnmoved rings → ring.shape.offset ≡ 0 → AreUnmoved (rings ++ ring ∷ [])
one_more_unmoved rings ring unmoved new = search (rules, list_all-append, and_from, eq-eqb)

-- ---- what is asked of a ring before it is added

pub placed_well : (rings : List Ring) (ring : Ring) → is_shape ring.shape ≡ true → list_any (clash ring) rings ≡ false → is_misplaced rings [] (SaysRing ring) ≡ false
placed_well rings ring is none = rw (is, none) refl

all_some : (kind : RingKind) (ss : List Segment) → list_all (is_segment kind) ss ≡ true → list_all (λ s. nat_lt 0 s.count) ss ≡ true
all_some kind [] all = refl
all_some kind (s ∷ ss) all =
    let parts = and_parts (is_segment kind s) (list_all (is_segment kind) ss) all in
    grind (arith, segment_facts, and_from, nat_lt, lt-ltb, all_some kind ss parts.1)

-- each of its segments has a block, and no two of them overlap
pub its_segments : (shape : Shape) → is_shape shape ≡ true → (list_all (λ s. nat_lt 0 s.count) shape.segments ≡ true) × (are_apart shape.segments ≡ true)
its_segments shape is = search (rules, and_parts, all_some)
