-- Segments that are put into a ring: what they and the ring's own make is allowed exactly where they are, and share no byte with them
use Rattle.segments.proofs.Words.{◌≡◌, ◌+◌, ◌-◌, ◌*◌, ◌<◌, ◌≤◌, ◌∷◌, ◌++◌, ◌∙◌, ◌&&◌, ◌||◌, ℕ, suc, zero, Bool, true, false, not, List, [], length, nat_lt, nat_le, take, drop, arith, rules, refl, sym, ap, inl, inr, list_any, list_all, cases_Bool, le-leb, and_parts, length-append, length-map, list_all-map, map, segment_of, nat_tests, Segment, Shape, place_count, overlap, touches, segments_overlap, is_segment, are_apart, is_shape, IsShape}
use Rattle.std.proofs.lemmas.List.{take-append-drop}
use Rattle.std.proofs.lemmas.List.Folds.{list_any-append, list_all-append}
use Rattle.segments.specs.Growth.{grown, with_segments}
use Rattle.segments.proofs.Blocks.{segment_at}
use Rattle.segments.proofs.ShapeFacts.{all_at, segment_facts, shape_facts}
use Rattle.segments.proofs.Grown.{places_of-joined}
use Rattle.segments.proofs.Pairs.{list_any-map}
use Rattle.segments.proofs.Touching.{each_touches}

-- a segment of one list shares a byte with one of the other
abbrev lists_overlap : List Segment → List Segment → Bool
lists_overlap xs ys = list_any (λ x. list_any (segments_overlap x) ys) xs

are_apart-append : (xs ys : List Segment) → are_apart (xs ++ ys) ≡ (are_apart xs && are_apart ys && not (lists_overlap xs ys))
are_apart-append [] ys = grind arith
are_apart-append (x ∷ xs) ys = rw (list_any-append (segments_overlap x) xs ys, are_apart-append xs ys)
    (regrouped (list_any (segments_overlap x) xs) (list_any (segments_overlap x) ys) (are_apart xs) (are_apart ys) (lists_overlap xs ys))
  where
    regrouped : (p q s t r : Bool) → (not (p || q) && (s && t && not r)) ≡ ((not p && s) && t && not (q || r))
    regrouped p q s t r = grind arith

lists_overlap-append_right : (xs ys zs : List Segment) → lists_overlap xs (ys ++ zs) ≡ (lists_overlap xs ys || lists_overlap xs zs)
lists_overlap-append_right [] ys zs = refl
lists_overlap-append_right (x ∷ xs) ys zs = rw (list_any-append (segments_overlap x) ys zs, lists_overlap-append_right xs ys zs)
    (regrouped (list_any (segments_overlap x) ys) (list_any (segments_overlap x) zs) (lists_overlap xs ys) (lists_overlap xs zs))
  where
    regrouped : (p q s t : Bool) → ((p || q) || (s || t)) ≡ ((p || s) || (q || t))
    regrouped p q s t = grind arith

lists_overlap-turned : (xs ys : List Segment) → lists_overlap xs ys ≡ lists_overlap ys xs
lists_overlap-turned [] ys = none ys
  where
    none : (ys : List Segment) → false ≡ lists_overlap ys []
    none [] = refl
    none (y ∷ ys) = none ys
lists_overlap-turned (x ∷ xs) ys = rw (lists_overlap-append_right ys (x ∷ []) xs, ← lists_overlap-turned xs ys, ← one x ys) refl
  where
    swapped : (a b t : Bool) → ((a && b) || t) ≡ (((b && a) || false) || t)
    swapped a b t = grind arith

    one : (x : Segment) (ys : List Segment) → list_any (segments_overlap x) ys ≡ lists_overlap ys (x ∷ [])
    one x [] = refl
    one x (y ∷ ys) = rw (← one x ys) (swapped (nat_lt x.base (y.base + 16 * y.count)) (nat_lt y.base (x.base + 16 * x.count)) (list_any (segments_overlap x) ys))

-- lists put between two that are apart
apart_between : (xs ys zs : List Segment) → are_apart (xs ++ zs) ≡ true → are_apart (xs ++ ys ++ zs) ≡ (are_apart ys && not (lists_overlap ys (xs ++ zs)))
apart_between xs ys zs apart =
    let were = rw (are_apart-append xs zs) at apart in
    rw (are_apart-append (xs ++ ys) zs, are_apart-append xs ys, list_any-append (λ x. list_any (segments_overlap x) zs) xs ys, lists_overlap-append_right ys xs zs, lists_overlap-turned ys xs)
    (regrouped (are_apart xs) (are_apart ys) (are_apart zs) (lists_overlap xs ys) (lists_overlap xs zs) (lists_overlap ys zs) were)
  where
    regrouped : (x y z p q r : Bool) → (x && z && not q) ≡ true → ((x && y && not p) && z && not (q || r)) ≡ (y && not (p || r))
    regrouped x y z p q r h = grind arith

-- ---- the shape with them

-- what is asked of the new segments
abbrev pub may_join : Shape → List Segment → Bool
may_join shape new =
    nat_le (length new) (64 - length shape.segments) && list_all (is_segment shape.kind) new && are_apart new && not (list_any (λ t. touches shape t.base (16 * t.count)) new)

-- the segments that a ring has are allowed
allowed_between : (shape : Shape) → IsShape shape → (up new others : List Segment) → up ++ others ≡ shape.segments →
    list_all (is_segment shape.kind) (up ++ new ++ others) ≡ list_all (is_segment shape.kind) new
allowed_between shape is up new others whole =
    let all : list_all (is_segment shape.kind) shape.segments ≡ true = search (rules, and_parts) in
    let parts = rw (← whole, list_all-append (is_segment shape.kind) up others) at all in
    rw (list_all-append (is_segment shape.kind) (up ++ new) others, list_all-append (is_segment shape.kind) up new) (between _ _ _ parts)
  where
    between : (x y z : Bool) → (x && z) ≡ true → (x && y && z) ≡ y
    between x y z h = grind arith

pub is_shape-with : (shape : Shape) → IsShape shape → (j : ℕ) (new : List Segment) → is_shape (with_segments shape j new) ≡ may_join shape new
is_shape-with shape is j new =
    let facts = shape_facts shape is in
    let up = take (j + 1) shape.segments in
    let others = drop (j + 1) shape.segments in
    let whole : up ++ others ≡ shape.segments = take-append-drop (j + 1) shape.segments in
    joined (are_apart new) _ (few (length new) (length shape.segments) _ (omega (arith, length-append {A = Segment}, ap (λ ss. length ss) whole)) facts.few)
    (allowed_between shape is up new others whole)
    (le-leb 2 _ (omega (arith, places_of-joined shape j new, facts.several)))
    (λ all. apart_between up new others (rw whole facts.apart)
    ∙ ap (λ b. are_apart new && not b) (ap (λ ss. lists_overlap new ss) whole ∙ sym (each_touches shape new (λ k h. (segment_facts shape.kind _ (all_at (is_segment shape.kind) new k _ all h)).blocks))))
  where
    joined : {a b c d f g : Bool} (u v : Bool) → a ≡ f → b ≡ g → c ≡ true → (g ≡ true → d ≡ (u && v)) → (a && b && c && d) ≡ (f && g && u && v)
    joined {g = true} u v p q r s = grind (arith, s refl)
    joined {g = false} u v p q r s = grind arith

    few : (n m l : ℕ) → l ≡ m + n → m ≤ 64 → nat_le l 64 ≡ nat_le n (64 - m)
    few n m l e h = grind (arith, nat_tests)

-- the same of pairs, at a ring that grows
pub is_shape_grown : (shape : Shape) → IsShape shape → (j : ℕ) (pairs : List (ℕ × ℕ)) (q : ℕ) →
    is_shape (grown shape j (map segment_of pairs) q)
    ≡ (nat_le (length pairs) (64 - length shape.segments) && list_all (λ p. is_segment shape.kind (segment_of p)) pairs
    && are_apart (map segment_of pairs) && not (list_any (λ p. touches shape p.0 (16 * p.1)) pairs))
unfolding grown
is_shape_grown shape is j pairs q = is_shape-with shape is j (map segment_of pairs) ∙ rw (length-map pairs segment_of, list_all-map (is_segment shape.kind) segment_of pairs, list_any-map (λ t. touches shape t.base (16 * t.count)) segment_of pairs) refl
