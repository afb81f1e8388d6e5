-- Steps of the loops over the segments that are given as pairs
use Rattle.segments.proofs.Words.{◌≡◌, ◌+◌, ◌-◌, ◌<◌, ◌&&◌, ◌||◌, ◌∷◌, ◌++◌, ◌∙◌, ℕ, Bool, not, List, [], length, map, take, drop, nat_le, ap, refl, get_or, length-append, append-nil, list_any, list_all, take_more, drop_more, take_rest, map_push, length-map, list_all-map, flat_map-append, RingKind, Segment, segment_of, shape_of, blocks_from, data_count, place_count, segments_overlap, are_apart, is_segment, is_shape, rules}
use Rattle.segments.proofs.Blocks.{places_of, length-blocks_from}

length-places_of-push : (kind : RingKind) (ss : List Segment) (s : Segment) →
    length (places_of kind (ss ++ s ∷ [])) ≡ length (places_of kind ss) + data_count kind s
length-places_of-push kind ss s = search (rules, length, flat_map-append, blocks_from, data_count, length-append, places_of, append-nil, length-blocks_from)

-- the data places of one segment more
pub place_count_more : (kind : RingKind) (pairs : List (ℕ × ℕ)) (i : ℕ) (d : ℕ × ℕ) → i < length pairs →
    place_count (shape_of kind (take (i + 1) pairs)) ≡ place_count (shape_of kind (take i pairs)) + data_count kind (segment_of (get_or pairs i d))
place_count_more kind pairs i d h =
    ap (λ ps. length (places_of kind (map segment_of ps))) (take_more pairs i d h)
    ∙ ap (λ ss. length (places_of kind ss)) (map_push segment_of (take i pairs) (get_or pairs i d))
    ∙ length-places_of-push kind (map segment_of (take i pairs)) (segment_of (get_or pairs i d))

pub list_any-map : {X Y : Type 0} (p : Y → Bool) (f : X → Y) (xs : List X) → list_any p (map f xs) ≡ list_any (λ x. p (f x)) xs
list_any-map p f [] = refl
list_any-map p f (x ∷ xs) = ap (λ b. p (f x) || b) (list_any-map p f xs)

-- whether the segments from i on are apart: segment i is apart from the later ones, and these are apart
pub are_apart_more : (pairs : List (ℕ × ℕ)) (i : ℕ) (d : ℕ × ℕ) → i < length pairs →
    are_apart (map segment_of (drop i pairs))
    ≡ (not (list_any (λ t. segments_overlap (segment_of (get_or pairs i d)) (segment_of t)) (drop (i + 1) pairs)) && are_apart (map segment_of (drop (i + 1) pairs)))
are_apart_more pairs i d h =
    ap (λ ps. are_apart (map segment_of ps)) (drop_more pairs i d h)
    ∙ ap (λ b. not b && are_apart (map segment_of (drop (i + 1) pairs))) (list_any-map (segments_overlap (segment_of (get_or pairs i d))) segment_of (drop (i + 1) pairs))

-- the rules of shapes over the pairs themselves
pub is_shape_pairs : (kind : RingKind) (pairs : List (ℕ × ℕ)) →
    is_shape (shape_of kind pairs)
    ≡ (nat_le (length pairs) 64 && list_all (λ p. is_segment kind (segment_of p)) pairs && nat_le 2 (place_count (shape_of kind pairs)) && are_apart (map segment_of pairs))
is_shape_pairs kind pairs = search (rules, nat_le, length, map, length-map, list_all-map)

-- one step of the loop, where b says whether segment i overlaps a later one
pub are_apart_step : (pairs : List (ℕ × ℕ)) (i : ℕ) (d : ℕ × ℕ) (b : Bool) → i < length pairs →
    b ≡ list_any (λ t. segments_overlap (segment_of (get_or pairs i d)) (segment_of t)) (take (length pairs - (i + 1)) (drop (i + 1) pairs)) →
    are_apart (map segment_of (drop i pairs)) ≡ (not b && are_apart (map segment_of (drop (i + 1) pairs)))
are_apart_step pairs i d b h is = search (rules, are_apart_more, not, are_apart, map, segment_of, drop, list_any, segments_overlap, get_or, take_rest)
