-- A ring that has grown: what it has of places and Links, and where the Links lead: xHCI 4.9.2.3
use Rattle.segments.proofs.Words.{◌≡◌, ◌≢◌, ◌+◌, ◌-◌, ◌*◌, ◌%◌, ◌<◌, ◌≤◌, ◌==◌, ◌∷◌, ◌++◌, ◌∙◌, ℕ, suc, zero, false, List, [], length, slice_index, Some, map, take, drop, arith, rules, refl, sym, ap, inl, inr, get_or, add-zero, zero-add, length-append, cases_lt, none-some, position-Some, flat_map-append, get_or-map, length-map, mod-eq_of_lt, mod_self, nat_tests, eqb-true, ne_eqb, eq-eqb, add-one, RingKind, Cmd, Evt, Xfer, Segment, Shape, data_count, data_places, place_count, links_of, links, ends_from, ends_of, ends, link_crossed, link_target, toggles, IsShape}
use Rattle.std.proofs.lemmas.List.{length-take-le, map-append, take-append-drop, take-append-le}
use Rattle.std.proofs.Math.Seq.{take-append-add}
use Rattle.segments.specs.Growth.{grown, places_more, with_segments}
use Rattle.segments.proofs.Blocks.{before, length-places_of-cons, places_of, segment_at}
use Rattle.segments.proofs.Crossings.{end_is, length-ends, same_end}
use Rattle.segments.proofs.DataPlaces.{length-links, link_is}
use Rattle.segments.proofs.Search.{position_only}
use Rattle.segments.specs.Places.{place_of}
use Rattle.segments.proofs.PutIn.{get_or-in_between, get_or-put_in, map-put_in, moved_next, moved, moved_other, moved_high, moved_low}

-- the ring grows by new segments behind segment j, whose Link is crossed on the way to position q
pub record Grows (shape : Shape) (j : ℕ) (new : List Segment) (q : ℕ) : Type 0 where
  pub is_shape : IsShape shape
  pub stays_shape : IsShape (grown shape j new q)
  pub crossed : link_crossed shape q ≡ Some j

-- ---- the data places and Links of lists of segments that are joined

places_of-append : (kind : RingKind) (xs ys : List Segment) → length (places_of kind (xs ++ ys)) ≡ length (places_of kind xs) + length (places_of kind ys)
places_of-append kind xs ys = search (rules, flat_map-append, length-append)

links_of-append : (kind : RingKind) (xs ys : List Segment) → links_of kind (xs ++ ys) ≡ links_of kind xs ++ links_of kind ys
links_of-append Evt xs ys = refl
links_of-append Cmd xs ys = search (rules, map-append)
links_of-append Xfer xs ys = search (rules, map-append)

ends_from-add : (ss : List Segment) (b c : ℕ) → ends_from (b + c) ss ≡ map (λ n. b + n) (ends_from c ss)
ends_from-add [] b c = refl
ends_from-add (s ∷ rest) b c =
    let e : b + c + (s.count - 1) ≡ b + (c + (s.count - 1)) = omega arith in
    rw (e, ends_from-add rest b (c + (s.count - 1))) refl

ends_from-append : (kind : RingKind) (xs ys : List Segment) (b : ℕ) → ((s : Segment) → data_count kind s ≡ s.count - 1) →
    ends_from b (xs ++ ys) ≡ ends_from b xs ++ ends_from (b + length (places_of kind xs)) ys
ends_from-append kind [] ys b one = rw add-zero refl
ends_from-append kind (s ∷ rest) ys b one =
    let e : b + length (places_of kind (s ∷ rest)) ≡ b + (s.count - 1) + length (places_of kind rest) = omega (arith, length-places_of-cons kind s rest, one s) in
    rw (e, ends_from-append kind rest ys (b + (s.count - 1)) one) refl

ends_from-joined : (kind : RingKind) (xs ys : List Segment) → ((s : Segment) → data_count kind s ≡ s.count - 1) →
    ends_from 0 (xs ++ ys) ≡ ends_from 0 xs ++ map (λ n. length (places_of kind xs) + n) (ends_from 0 ys)
ends_from-joined kind xs ys one = ends_from-append kind xs ys 0 one ∙ ap (λ es. ends_from 0 xs ++ es) (rw (zero-add, ← ends_from-add ys (length (places_of kind xs)) 0, add-zero) refl)

ends_of-append : (kind : RingKind) (xs ys : List Segment) → ends_of kind (xs ++ ys) ≡ ends_of kind xs ++ map (λ n. length (places_of kind xs) + n) (ends_of kind ys)
ends_of-append Evt xs ys = refl
ends_of-append Cmd xs ys = ends_from-joined Cmd xs ys (λ s. refl)
ends_of-append Xfer xs ys = ends_from-joined Xfer xs ys (λ s. refl)

-- the data places before a segment are those of the segments up to it
pub before-take : (kind : RingKind) (ss : List Segment) (n : ℕ) → before kind ss n ≡ length (places_of kind (take n ss))
before-take kind [] zero = refl
before-take kind [] (suc n) = refl
before-take kind (s ∷ rest) zero = refl
before-take kind (s ∷ rest) (suc n) = omega (arith, length-places_of-cons kind s (take n rest), before-take kind rest n)

-- and where lists are joined
pub before-append_low : (kind : RingKind) (xs ys : List Segment) (n : ℕ) → n ≤ length xs → before kind (xs ++ ys) n ≡ before kind xs n
before-append_low kind xs ys n h = rw (before-take kind (xs ++ ys) n, before-take kind xs n, take-append-le n xs ys h) refl

pub before-append_high : (kind : RingKind) (xs ys : List Segment) (n : ℕ) → before kind (xs ++ ys) (length xs + n) ≡ length (places_of kind xs) + before kind ys n
before-append_high kind xs ys n = rw (before-take kind (xs ++ ys) (length xs + n), before-take kind ys n, take-append-add xs ys n) (places_of-append kind xs (take n ys))

-- how many data places are new
abbrev pub new_places : Shape → ℕ → List Segment → ℕ
new_places shape j new = places_more shape (with_segments shape j new)

pub places_of-joined : (shape : Shape) (j : ℕ) (new : List Segment) → place_count (with_segments shape j new) ≡ place_count shape + length (places_of shape.kind new)
places_of-joined shape j new =
    let up = take (j + 1) shape.segments in
    let others = drop (j + 1) shape.segments in
    let all : place_count shape ≡ length (places_of shape.kind (up ++ others)) = ap (λ ss. length (places_of shape.kind ss)) (sym (take-append-drop (j + 1) shape.segments)) in
    omega (arith, places_of-append shape.kind (up ++ new) others, places_of-append shape.kind up new, places_of-append shape.kind up others)

pub new_places-is : (shape : Shape) (j : ℕ) (new : List Segment) → new_places shape j new ≡ length (places_of shape.kind new)
new_places-is shape j new = omega (arith, places_of-joined shape j new)

-- ---- what it has

pub kind-grown : (shape : Shape) (j : ℕ) (new : List Segment) (q : ℕ) → (grown shape j new q).kind ≡ shape.kind
unfolding grown
kind-grown shape j new q = refl

pub segments-grown : (shape : Shape) (j : ℕ) (new : List Segment) (q : ℕ) → (grown shape j new q).segments ≡ take (j + 1) shape.segments ++ new ++ drop (j + 1) shape.segments
unfolding grown
segments-grown shape j new q = refl

pub place_count-grown : (shape : Shape) (j : ℕ) (new : List Segment) (q : ℕ) → place_count (grown shape j new q) ≡ place_count shape + new_places shape j new
unfolding grown
place_count-grown shape j new q = omega (arith, new_places-is shape j new, places_of-joined shape j new)

pub data_places-grown : (shape : Shape) (j : ℕ) (new : List Segment) (q : ℕ) →
    data_places (grown shape j new q) ≡ places_of shape.kind (take (j + 1) shape.segments) ++ places_of shape.kind new ++ places_of shape.kind (drop (j + 1) shape.segments)
unfolding grown
data_places-grown shape j new q = search (rules, flat_map-append)

pub links-grown : (shape : Shape) (j : ℕ) (new : List Segment) (q : ℕ) →
    links (grown shape j new q) ≡ links_of shape.kind (take (j + 1) shape.segments) ++ links_of shape.kind new ++ links_of shape.kind (drop (j + 1) shape.segments)
unfolding grown
links-grown shape j new q =
    links_of-append shape.kind (take (j + 1) shape.segments ++ new) (drop (j + 1) shape.segments)
    ∙ ap (λ ls. ls ++ links_of shape.kind (drop (j + 1) shape.segments)) (links_of-append shape.kind (take (j + 1) shape.segments) new)

-- each Link is crossed after the data places of the parts before its own
pub ends-grown : (shape : Shape) (j : ℕ) (new : List Segment) (q : ℕ) →
    ends (grown shape j new q) ≡ ends_of shape.kind (take (j + 1) shape.segments)
    ++ map (λ n. before shape.kind shape.segments (j + 1) + n) (ends_of shape.kind new)
    ++ map (λ n. before shape.kind shape.segments (j + 1) + new_places shape j new + n) (ends_of shape.kind (drop (j + 1) shape.segments))
unfolding grown
ends-grown shape j new q =
    let kind = shape.kind in
    let up = take (j + 1) shape.segments in
    let others = drop (j + 1) shape.segments in
    let first : length (places_of kind up) ≡ before kind shape.segments (j + 1) = sym (before-take kind shape.segments (j + 1)) in
    let second : length (places_of kind (up ++ new)) ≡ before kind shape.segments (j + 1) + new_places shape j new = omega (arith, places_of-append kind up new, new_places-is shape j new, first) in
    rw (ends_of-append kind (up ++ new) others, ends_of-append kind up new, second, first) refl

-- ---- crossings and ends

-- where the Link of segment i is crossed, the position before is the segment's last one
pub crossed_end : (shape : Shape) (q i : ℕ) → link_crossed shape q ≡ Some i →
    (0 < q) × (i < length (links shape)) × (before shape.kind shape.segments (i + 1) ≡ place_of shape (q - 1) + 1)
crossed_end shape zero i crossed = absurd (none-some i crossed)
crossed_end shape (suc q) i crossed =
    let found = position-Some (λ n. n == place_of shape q + 1) (ends shape) i 0 crossed in
    let link : i < length (links shape) = omega (arith, found.0, length-ends shape) in
    let e : suc q - 1 ≡ q = omega arith in
    (omega arith, link, rw e (sym (end_is shape i link) ∙ eqb-true _ _ found.1))

pub crossed_next : (shape : Shape) (p i : ℕ) → link_crossed shape (p + 1) ≡ Some i →
    (i < length (links shape)) × (before shape.kind shape.segments (i + 1) ≡ place_of shape p + 1)
crossed_next shape p i crossed =
    let end = crossed_end shape (p + 1) i crossed in
    let e : p + 1 - 1 ≡ p = omega arith in
    (end.1, end.2 ∙ ap (λ k. place_of shape k + 1) e)

-- and it is crossed behind each such position
pub crossed_behind : (shape : Shape) → IsShape shape → (p i : ℕ) → i < length (links shape) → before shape.kind shape.segments (i + 1) ≡ place_of shape p + 1 →
    link_crossed shape (p + 1) ≡ Some i
crossed_behind shape is p i h end =
    rw (add-one) (position_only (λ n. n == place_of shape p + 1) (ends shape) i 0 (omega (arith, length-ends shape)) (eq-eqb _ _ (end_is shape i h ∙ end))
    (λ k l same. same_end shape is k i (omega (arith, length-ends shape)) h (eqb-true _ _ same ∙ sym end ∙ sym (end_is shape i h))))

-- ---- what becomes of segment i and its Link

-- segment j is one of the ring's, and it has a Link
pub grows_behind : (shape : Shape) (j : ℕ) (new : List Segment) (q : ℕ) → Grows shape j new q → (j < length (links shape)) × (j < length shape.segments)
grows_behind shape j new q grows =
    let link = (crossed_end shape q j grows.crossed).1 in
    (link, (link_is shape grows.is_shape j link).segment)

-- so many segments are up to it
up_to : (shape : Shape) (j : ℕ) (new : List Segment) (q : ℕ) → Grows shape j new q → length (take (j + 1) shape.segments) ≡ j + 1
up_to shape j new q grows = length-take-le (j + 1) shape.segments (omega (arith, grows_behind shape j new q grows))

pub many-grown : (shape : Shape) (j : ℕ) (new : List Segment) (q : ℕ) → length (grown shape j new q).segments ≡ length shape.segments + length new
unfolding grown
many-grown shape j new q =
    let whole : length (take (j + 1) shape.segments ++ drop (j + 1) shape.segments) ≡ length shape.segments = ap (λ ss. length ss) (take-append-drop (j + 1) shape.segments) in
    omega (arith, length-append {A = Segment}, whole)

-- the number that segment i has then
abbrev pub moved_segment : ℕ → List Segment → ℕ → ℕ
moved_segment j new i = moved (j + 1) (length new) i

pub segment-grown : (shape : Shape) (j : ℕ) (new : List Segment) (q : ℕ) → Grows shape j new q → (i : ℕ) →
    segment_at (grown shape j new q).segments (moved_segment j new i) ≡ segment_at shape.segments i
unfolding grown
segment-grown shape j new q grows i =
    ap (λ a. segment_at (grown shape j new q).segments (moved a (length new) i)) (sym (up_to shape j new q grows))
    ∙ get_or-put_in (take (j + 1) shape.segments) new (drop (j + 1) shape.segments) i (record { base = 0; count = 0 })
    ∙ ap (λ ss. segment_at ss i) (take-append-drop (j + 1) shape.segments)

-- the new ones follow on segment j
pub segment-new : (shape : Shape) (j : ℕ) (new : List Segment) (q : ℕ) → Grows shape j new q → (k : ℕ) → k < length new →
    segment_at (grown shape j new q).segments (j + 1 + k) ≡ segment_at new k
unfolding grown
segment-new shape j new q grows k h =
    ap (λ a. segment_at (grown shape j new q).segments (a + k)) (sym (up_to shape j new q grows))
    ∙ get_or-in_between (take (j + 1) shape.segments) new (drop (j + 1) shape.segments) k (record { base = 0; count = 0 }) h

pub link-grown : (shape : Shape) (j : ℕ) (new : List Segment) (q : ℕ) → Grows shape j new q → (i : ℕ) →
    slice_index (links (grown shape j new q)) (moved_segment j new i) ≡ slice_index (links shape) i
unfolding grown
link-grown shape j new q grows i =
    ap (λ a. slice_index (links (grown shape j new q)) (moved a (length new) i)) (sym (up_to shape j new q grows))
    ∙ in_links shape.kind (take (j + 1) shape.segments) new (drop (j + 1) shape.segments) i
    ∙ ap (λ ss. slice_index (links_of shape.kind ss) i) (take-append-drop (j + 1) shape.segments)
  where
    in_links : (kind : RingKind) (xs ys zs : List Segment) (i : ℕ) → slice_index (links_of kind (xs ++ ys ++ zs)) (moved (length xs) (length ys) i) ≡ slice_index (links_of kind (xs ++ zs)) i
    in_links Evt xs ys zs i = refl
    in_links Cmd xs ys zs i = map-put_in (λ s. s.base + 16 * (s.count - 1)) xs ys zs i 0
    in_links Xfer xs ys zs i = map-put_in (λ s. s.base + 16 * (s.count - 1)) xs ys zs i 0

-- it is no event ring, so a Link stands in each of its segments
pub grows_links : (shape : Shape) (j : ℕ) (new : List Segment) (q : ℕ) → Grows shape j new q → shape.kind ≡ Evt → ⊥
grows_links shape j new q grows event =
    let none : length (links shape) ≡ 0 = ap (λ kind. length (links_of kind shape.segments)) event in
    omega (arith, (grows_behind shape j new q grows).0)

pub links_many-grown : (shape : Shape) (j : ℕ) (new : List Segment) (q : ℕ) → Grows shape j new q →
    (length (links shape) ≡ length shape.segments) × (length (links (grown shape j new q)) ≡ length shape.segments + length new)
unfolding grown
links_many-grown shape j new q grows =
    (length-links shape (grows_links shape j new q grows), length-links (grown shape j new q) (grows_links shape j new q grows) ∙ many-grown shape j new q)

-- how many data places lie before the segments up to segment j, the new ones, and the others
pub before-grown_low : (shape : Shape) (j : ℕ) (new : List Segment) (q : ℕ) → Grows shape j new q → (n : ℕ) → n ≤ j + 1 →
    before shape.kind (grown shape j new q).segments n ≡ before shape.kind shape.segments n
unfolding grown
before-grown_low shape j new q grows n h =
    let up = take (j + 1) shape.segments in
    let others = drop (j + 1) shape.segments in
    let within : n ≤ length up = omega (arith, up_to shape j new q grows) in
    rw (before-append_low shape.kind (up ++ new) others n (omega (arith, length-append up new)), before-append_low shape.kind up new n within)
    (sym (before-append_low shape.kind up others n within) ∙ ap (λ ss. before shape.kind ss n) (take-append-drop (j + 1) shape.segments))

pub before-grown_new : (shape : Shape) (j : ℕ) (new : List Segment) (q : ℕ) → Grows shape j new q → (n : ℕ) → n ≤ length new →
    before shape.kind (grown shape j new q).segments (j + 1 + n) ≡ before shape.kind shape.segments (j + 1) + before shape.kind new n
unfolding grown
before-grown_new shape j new q grows n h =
    let up = take (j + 1) shape.segments in
    let others = drop (j + 1) shape.segments in
    let many = up_to shape j new q grows in
    let inside : length up + n ≤ length (up ++ new) = omega (arith, length-append up new) in
    ap (λ k. before shape.kind (up ++ new ++ others) (k + n)) (sym many)
    ∙ before-append_low shape.kind (up ++ new) others (length up + n) inside
    ∙ before-append_high shape.kind up new n
    ∙ ap (λ k. k + before shape.kind new n) (sym (before-take shape.kind shape.segments (j + 1)))

pub before-grown_high : (shape : Shape) (j : ℕ) (new : List Segment) (q : ℕ) → Grows shape j new q → (n : ℕ) → j + 1 ≤ n →
    before shape.kind (grown shape j new q).segments (n + length new) ≡ before shape.kind shape.segments n + new_places shape j new
unfolding grown
before-grown_high shape j new q grows n h =
    let up = take (j + 1) shape.segments in
    let others = drop (j + 1) shape.segments in
    let m = n - (j + 1) in
    let many = up_to shape j new q grows in
    let here : n + length new ≡ length (up ++ new) + m = omega (arith, length-append up new) in
    let there : n ≡ length up + m = omega arith in
    let was : before shape.kind shape.segments n ≡ length (places_of shape.kind up) + before shape.kind others m =
    ap (λ ss. before shape.kind ss n) (sym (take-append-drop (j + 1) shape.segments)) ∙ ap (λ k. before shape.kind (up ++ others) k) there ∙ before-append_high shape.kind up others m in
    ap (λ k. before shape.kind (up ++ new ++ others) k) here
    ∙ before-append_high shape.kind (up ++ new) others m
    ∙ omega (arith, was, places_of-append shape.kind up new, new_places-is shape j new)

-- ---- where the Links lead

target_next : (shape : Shape) (i : ℕ) → i + 1 < length shape.segments → link_target shape i ≡ (segment_at shape.segments (i + 1)).base
target_next shape i h = rw (mod-eq_of_lt h) (get_or-map (λ s. s.base) shape.segments (i + 1) (record { base = 0; count = 0 }) 0 h)

target_last : (shape : Shape) (i : ℕ) → i + 1 ≡ length shape.segments → link_target shape i ≡ (segment_at shape.segments 0).base
target_last shape i h = rw (h, mod_self (length shape.segments)) (get_or-map (λ s. s.base) shape.segments 0 (record { base = 0; count = 0 }) 0 (omega arith))

-- the Link in front of segment i + 1, or of the first one, leads there, and toggles the cycle as it did
link_target-through : (shape : Shape) (j : ℕ) (new : List Segment) (q : ℕ) → Grows shape j new q → (i : ℕ) → i < length shape.segments →
    link_target (grown shape j new q) (moved j (length new) i) ≡ link_target shape i
link_target-through shape j new q grows i h =
    let many = many-grown shape j new q in
    let inside = (grows_behind shape j new q grows).1 in
    elim (cases_lt (i + 1) (length shape.segments)) [
      | inl next ↦
          target_next (grown shape j new q) (moved j (length new) i) (grind (arith, nat_tests))
          ∙ ap (λ k. (segment_at (grown shape j new q).segments k).base) (moved_next j (length new) i)
          ∙ ap (λ s. s.base) (segment-grown shape j new q grows (i + 1))
          ∙ sym (target_next shape i next)
      | inr last ↦
          target_last (grown shape j new q) (moved j (length new) i) (grind (arith, nat_tests))
          ∙ ap (λ k. (segment_at (grown shape j new q).segments k).base) (sym (moved_low (j + 1) (length new) 0 (omega arith)))
          ∙ ap (λ s. s.base) (segment-grown shape j new q grows 0)
          ∙ sym (target_last shape i (omega arith))
    ]

toggles-through : (shape : Shape) (j : ℕ) (new : List Segment) (q : ℕ) → Grows shape j new q → (i : ℕ) → i < length shape.segments →
    toggles (grown shape j new q) (moved j (length new) i) ≡ toggles shape i
toggles-through shape j new q grows i h = grind (arith, nat_tests, many-grown shape j new q, grows_behind shape j new q grows)

-- but for segment j's, each Link leads where it led, and toggles the cycle as it did
pub link_target-grown : (shape : Shape) (j : ℕ) (new : List Segment) (q : ℕ) → Grows shape j new q → (i : ℕ) → i < length (links shape) → i ≢ j →
    link_target (grown shape j new q) (moved_segment j new i) ≡ link_target shape i
link_target-grown shape j new q grows i h other =
    ap (λ k. link_target (grown shape j new q) k) (moved_other j (length new) i other) ∙ link_target-through shape j new q grows i (link_is shape grows.is_shape i h).segment

pub toggles-grown : (shape : Shape) (j : ℕ) (new : List Segment) (q : ℕ) → Grows shape j new q → (i : ℕ) → i < length (links shape) → i ≢ j →
    toggles (grown shape j new q) (moved_segment j new i) ≡ toggles shape i
toggles-grown shape j new q grows i h other =
    ap (λ k. toggles (grown shape j new q) k) (moved_other j (length new) i other) ∙ toggles-through shape j new q grows i (link_is shape grows.is_shape i h).segment

-- the Link of segment j leads to the first new segment, each of these to the next
pub link_target-to_new : (shape : Shape) (j : ℕ) (new : List Segment) (q : ℕ) → Grows shape j new q → (k : ℕ) → k < length new →
    link_target (grown shape j new q) (j + k) ≡ (segment_at new k).base
link_target-to_new shape j new q grows k h = search (rules, target_next, segment-new, many-grown, grows_behind)

pub toggles-to_new : (shape : Shape) (j : ℕ) (new : List Segment) (q : ℕ) → Grows shape j new q → (k : ℕ) → k < length new →
    toggles (grown shape j new q) (j + k) ≡ false
toggles-to_new shape j new q grows k h = grind (arith, nat_tests, many-grown shape j new q, grows_behind shape j new q grows)

-- and that of the last new one where segment j's led
pub link_target-of_last : (shape : Shape) (j : ℕ) (new : List Segment) (q : ℕ) → Grows shape j new q → link_target (grown shape j new q) (j + length new) ≡ link_target shape j
link_target-of_last shape j new q grows =
    ap (λ k. link_target (grown shape j new q) k) (sym (moved_high j (length new) j (omega arith))) ∙ link_target-through shape j new q grows j (grows_behind shape j new q grows).1

pub toggles-of_last : (shape : Shape) (j : ℕ) (new : List Segment) (q : ℕ) → Grows shape j new q → toggles (grown shape j new q) (j + length new) ≡ toggles shape j
toggles-of_last shape j new q grows =
    ap (λ k. toggles (grown shape j new q) k) (sym (moved_high j (length new) j (omega arith))) ∙ toggles-through shape j new q grows j (grows_behind shape j new q grows).1
