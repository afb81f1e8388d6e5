-- Positions of a ring that has grown: what lies less than a lap before the growth stays, the new places come, and what lay behind it comes behind these: xHCI 4.9.2.3
use Rattle.segments.proofs.Words.{◌≡◌, ◌+◌, ◌-◌, ◌*◌, ◌<◌, ◌≤◌, ℕ, suc, zero, inl, inr, cases_lt, List, slice_index, arith, rules, refl, flat_map-append, blocks_from, data_count, sym, ap, take, drop, ◌%◌, ◌∙◌, mod-lt, mod-mul-add, div-mul-add, div-add-mod', Segment, Shape, place_count, address_of, cycle_of, IsShape}
use Rattle.segments.proofs.Blocks.{before, places_of}
use Rattle.segments.proofs.ShapeFacts.{shape_facts}
use Rattle.std.proofs.lemmas.List.{take-append-drop}
use Rattle.segments.specs.Growth.{grown}
use Rattle.segments.specs.Places.{place_of, lap_of}
use Rattle.segments.proofs.PutIn.{get_or-in_between, get_or-put_in, moved, moved_low, moved_high, moved_within}
use Rattle.segments.proofs.Grown.{Grows, before-take, crossed_end, data_places-grown, new_places-is, place_count-grown, new_places}

-- the place that place i is then
abbrev pub moved_place : Shape → ℕ → List Segment → ℕ → ℕ
moved_place shape j new i = moved (before shape.kind shape.segments (j + 1)) (new_places shape j new) i

-- position r of the ring that has grown is position p of the ring as it was: its place in its lap
pub record IsKept (shape : Shape) (j : ℕ) (new : List Segment) (q p r : ℕ) : Type 0 where
  pub place : place_of (grown shape j new q) r ≡ moved_place shape j new (place_of shape p)
  pub lap : lap_of (grown shape j new q) r ≡ lap_of shape p

-- a position by its lap and its place
laid : (shape : Shape) (p l i : ℕ) → i < place_count shape → p + shape.offset ≡ l * place_count shape + i → (place_of shape p ≡ i) × (lap_of shape p ≡ l)
unfolding place_of lap_of
laid shape p l i h e = (rw e (mod-mul-add l (place_count shape) i h), rw e (div-mul-add l (place_count shape) i h))

lies : (shape : Shape) → IsShape shape → (p : ℕ) → (place_of shape p < place_count shape) × (p + shape.offset ≡ lap_of shape p * place_count shape + place_of shape p)
unfolding place_of lap_of
lies shape is p = search (rules, mod-lt, div-add-mod', shape_facts)

offset-grown : (shape : Shape) (j : ℕ) (new : List Segment) (q : ℕ) → (grown shape j new q).offset ≡ shape.offset + new_places shape j new * lap_of shape (q - 1)
unfolding grown
offset-grown shape j new q = refl

-- the position before the growth is the last one of segment j
last_of : (shape : Shape) (j : ℕ) (new : List Segment) (q : ℕ) → Grows shape j new q → (0 < q) × (place_of shape (q - 1) + 1 ≡ before shape.kind shape.segments (j + 1))
last_of shape j new q grows = let end = crossed_end shape q j grows.crossed in (end.0, sym end.2)

-- n places and m more behind b of them, l laps and b places before position q: the lap and the place of a position up to a lap before q
before_numbers : (n m b l offset p q : ℕ) → q + offset ≡ l * n + b → b ≤ n → p < q → q ≤ p + n →
    (k : ℕ) × (i : ℕ) × (i < n) × (p + offset ≡ k * n + i) × (p + (offset + m * l) ≡ k * (n + m) + moved b m i)
before_numbers n m b l offset p q here le before near = elim (cases_lt (p + b) q) [
  | inl far ↦ lap_before n m b l offset p q here le before near far
  | inr close ↦ (l, b - (q - p), omega arith, omega arith, rw (moved_low b m (b - (q - p)) (omega arith)) (omega arith))
]
  where
    lap_before : (n m b l offset p q : ℕ) → q + offset ≡ l * n + b → b ≤ n → p < q → q ≤ p + n → p + b < q →
        (k : ℕ) × (i : ℕ) × (i < n) × (p + offset ≡ k * n + i) × (p + (offset + m * l) ≡ k * (n + m) + moved b m i)
    lap_before n m b zero offset p q here le before near far = absurd (omega arith)
    lap_before n m b (suc l) offset p q here le before near far =
        (l, n + b - (q - p), omega arith, omega arith, rw (moved_high b m (n + b - (q - p)) (omega arith)) (omega arith))

-- and of a position up to a lap behind q, as it was and m positions further on
behind_numbers : (n m b l offset p q : ℕ) → q + offset ≡ l * n + b → b ≤ n → q ≤ p → p < q + n →
    (k : ℕ) × (i : ℕ) × (i < n) × (p + offset ≡ k * n + i) × (p + m + (offset + m * l) ≡ k * (n + m) + moved b m i)
behind_numbers n m b l offset p q here le behind near = elim (cases_lt (b + (p - q)) n) [
  | inl close ↦ (l, b + (p - q), close, omega arith, rw (moved_high b m (b + (p - q)) (omega arith)) (omega arith))
  | inr far ↦ (l + 1, b + (p - q) - n, omega arith, omega arith, rw (moved_low b m (b + (p - q) - n) (omega arith)) (omega arith))
]

-- the growth stands behind the places of segment j, in the lap of the position before
stands : (shape : Shape) (j : ℕ) (new : List Segment) (q : ℕ) → Grows shape j new q →
    (q + shape.offset ≡ lap_of shape (q - 1) * place_count shape + before shape.kind shape.segments (j + 1)) × (before shape.kind shape.segments (j + 1) ≤ place_count shape)
stands shape j new q grows =
    let last = last_of shape j new q grows in
    let at = lies shape grows.is_shape (q - 1) in
    (omega arith, omega arith)

kept_from : (shape : Shape) (j : ℕ) (new : List Segment) (q : ℕ) → Grows shape j new q → (p r l i : ℕ) → i < place_count shape → p + shape.offset ≡ l * place_count shape + i →
    r + (shape.offset + new_places shape j new * lap_of shape (q - 1)) ≡ l * (place_count shape + new_places shape j new) + moved_place shape j new i → IsKept shape j new q p r
kept_from shape j new q grows p r l i h was is =
    let many = place_count-grown shape j new q in
    let at = laid shape p l i h was in
    let inside : moved_place shape j new i < place_count (grown shape j new q) = rw many (moved_within (before shape.kind shape.segments (j + 1)) (new_places shape j new) i (place_count shape) h) in
    let then = laid (grown shape j new q) r l (moved_place shape j new i) inside (rw (offset-grown shape j new q, many) is) in
    record { place = then.0 ∙ ap (λ k. moved_place shape j new k) (sym at.0); lap = then.1 ∙ sym at.1 }

pub kept_before : (shape : Shape) (j : ℕ) (new : List Segment) (q : ℕ) → Grows shape j new q → (p : ℕ) → p < q → q ≤ p + place_count shape →
    IsKept shape j new q p p
kept_before shape j new q grows p before near =
    let at = stands shape j new q grows in
    let found = before_numbers (place_count shape) (new_places shape j new) _ (lap_of shape (q - 1)) shape.offset p q at.0 at.1 before near in
    kept_from shape j new q grows p p found.0 found.1 found.2 found.3 found.4

pub kept_behind : (shape : Shape) (j : ℕ) (new : List Segment) (q : ℕ) → Grows shape j new q → (p : ℕ) → q ≤ p → p < q + place_count shape →
    IsKept shape j new q p (p + new_places shape j new)
kept_behind shape j new q grows p behind near =
    let at = stands shape j new q grows in
    let found = behind_numbers (place_count shape) (new_places shape j new) _ (lap_of shape (q - 1)) shape.offset p q at.0 at.1 behind near in
    kept_from shape j new q grows p (p + new_places shape j new) found.0 found.1 found.2 found.3 found.4

pub address_of-kept : (shape : Shape) (j : ℕ) (new : List Segment) (q p r : ℕ) → IsKept shape j new q p r → address_of (grown shape j new q) r ≡ address_of shape p
address_of-kept shape j new q p r kept =
    let up = take (j + 1) shape.segments in
    let others = drop (j + 1) shape.segments in
    rw (data_places-grown shape j new q, kept.place, before-take shape.kind shape.segments (j + 1), new_places-is shape j new)
    (get_or-put_in (places_of shape.kind up) (places_of shape.kind new) (places_of shape.kind others) (place_of shape p) 0
    ∙ ap (λ places. slice_index places (place_of shape p)) (sym (flat_map-append (λ s. blocks_from s.base (data_count shape.kind s)) up others) ∙ ap (λ ss. places_of shape.kind ss) (take-append-drop (j + 1) shape.segments)))

pub cycle_of-kept : (shape : Shape) (j : ℕ) (new : List Segment) (q p r : ℕ) → IsKept shape j new q p r → cycle_of (grown shape j new q) r ≡ cycle_of shape p
cycle_of-kept shape j new q p r kept = ap (λ lap. 1 - lap % 2) kept.lap

-- position p is one of the new places, in the lap of the position before the growth
pub record IsNew (shape : Shape) (j : ℕ) (new : List Segment) (q p : ℕ) : Type 0 where
  pub place : place_of (grown shape j new q) p ≡ before shape.kind shape.segments (j + 1) + (p - q)
  pub lap : lap_of (grown shape j new q) p ≡ lap_of shape (q - 1)

pub new_here : (shape : Shape) (j : ℕ) (new : List Segment) (q : ℕ) → Grows shape j new q → (p : ℕ) → q ≤ p → p < q + new_places shape j new →
    IsNew shape j new q p
new_here shape j new q grows p behind near =
    let at = stands shape j new q grows in
    let many = place_count-grown shape j new q in
    let start = before shape.kind shape.segments (j + 1) in
    let then = laid (grown shape j new q) p (lap_of shape (q - 1)) (start + (p - q)) (omega arith) (rw (offset-grown shape j new q, many) (omega arith)) in
    record { place = then.0; lap = then.1 }

-- ---- the laws of addresses and Cycle bits

-- before the growth, up to a lap back
pub address_of-before_growth : (shape : Shape) (j : ℕ) (new : List Segment) (q : ℕ) → Grows shape j new q → (p : ℕ) → p < q → q ≤ p + place_count shape →
    address_of (grown shape j new q) p ≡ address_of shape p
address_of-before_growth shape j new q grows p before near = address_of-kept shape j new q p p (kept_before shape j new q grows p before near)

pub cycle_of-before_growth : (shape : Shape) (j : ℕ) (new : List Segment) (q : ℕ) → Grows shape j new q → (p : ℕ) → p < q → q ≤ p + place_count shape →
    cycle_of (grown shape j new q) p ≡ cycle_of shape p
cycle_of-before_growth shape j new q grows p before near = cycle_of-kept shape j new q p p (kept_before shape j new q grows p before near)

-- in the new segments
pub address_of-in_growth : (shape : Shape) (j : ℕ) (new : List Segment) (q : ℕ) → Grows shape j new q → (p : ℕ) → q ≤ p → p < q + new_places shape j new →
    address_of (grown shape j new q) p ≡ slice_index (places_of shape.kind new) (p - q)
address_of-in_growth shape j new q grows p behind near =
    let up = take (j + 1) shape.segments in
    let others = drop (j + 1) shape.segments in
    rw (data_places-grown shape j new q, (new_here shape j new q grows p behind near).place, before-take shape.kind shape.segments (j + 1))
    (get_or-in_between (places_of shape.kind up) (places_of shape.kind new) (places_of shape.kind others) (p - q) 0 (omega (arith, new_places-is shape j new)))

pub cycle_of-in_growth : (shape : Shape) (j : ℕ) (new : List Segment) (q : ℕ) → Grows shape j new q → (p : ℕ) → q ≤ p → p < q + new_places shape j new →
    cycle_of (grown shape j new q) p ≡ cycle_of shape (q - 1)
cycle_of-in_growth shape j new q grows p behind near = ap (λ lap. 1 - lap % 2) (new_here shape j new q grows p behind near).lap

-- behind them, up to a lap
pub address_of-behind_growth : (shape : Shape) (j : ℕ) (new : List Segment) (q : ℕ) → Grows shape j new q → (p : ℕ) → q ≤ p → p < q + place_count shape →
    address_of (grown shape j new q) (p + new_places shape j new) ≡ address_of shape p
address_of-behind_growth shape j new q grows p behind near = address_of-kept shape j new q p _ (kept_behind shape j new q grows p behind near)

pub cycle_of-behind_growth : (shape : Shape) (j : ℕ) (new : List Segment) (q : ℕ) → Grows shape j new q → (p : ℕ) → q ≤ p → p < q + place_count shape →
    cycle_of (grown shape j new q) (p + new_places shape j new) ≡ cycle_of shape p
cycle_of-behind_growth shape j new q grows p behind near = cycle_of-kept shape j new q p _ (kept_behind shape j new q grows p behind near)
