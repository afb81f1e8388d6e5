-- Crossings of a ring that has grown: before the growth, through the new segments, and behind them: xHCI 4.9.2.3, 4.11.5.1
use Rattle.segments.proofs.Words.{◌≡◌, ◌+◌, ◌-◌, ◌*◌, ◌<◌, ◌≤◌, ◌∙◌, subst, RingKind, Evt, ℕ, suc, zero, Bool, true, List, length, slice_index, Option, Some, None, option_map, is_some, unwrap_or, arith, rules, refl, sym, ap, inl, inr, none-some, same_Some, cases_lt, add-one, Segment, Shape, data_count, place_count, cycle_of, links, link_crossed, is_crossing, link_address}
use Rattle.segments.specs.Growth.{grown}
use Rattle.segments.specs.Places.{place_of}
use Rattle.segments.proofs.Blocks.{before, before_within, places_of, segment_at}
use Rattle.segments.proofs.IndexSearch.{before_rises}
use Rattle.segments.proofs.ShapeFacts.{shape_facts}
use Rattle.segments.proofs.Search.{cases_option}
use Rattle.segments.proofs.DataPlaces.{link_is}
use Rattle.segments.proofs.Crossings.{before_below, crossed_link, link_address_is}
use Rattle.segments.proofs.PutIn.{moved, moved_apart, moved_below, moved_high, moved_low, moved_or_new, moved_same, moved_within}
use Rattle.segments.proofs.Grown.{Grows, before-grown_high, before-grown_low, before-grown_new, crossed_behind, crossed_end, crossed_next, grows_behind, grows_links, kind-grown, link-grown, links_many-grown, many-grown, moved_segment, new_places, new_places-is, segment-new}
use Rattle.segments.proofs.GrownPositions.{IsKept, kept_before, kept_behind, moved_place, new_here, cycle_of-before_growth, cycle_of-in_growth, cycle_of-behind_growth}

-- the last data place of segment i goes with it
end-grown : (shape : Shape) (j : ℕ) (new : List Segment) (q : ℕ) → Grows shape j new q → (i e : ℕ) → i < length shape.segments → before shape.kind shape.segments (i + 1) ≡ e + 1 →
    before shape.kind (grown shape j new q).segments (moved_segment j new i + 1) ≡ moved_place shape j new e + 1
unfolding grown
end-grown shape j new q grows i e h end = elim (cases_lt i (j + 1)) [
  | inl low ↦
      let upto = before_rises shape.kind shape.segments (i + 1) (j + 1) (omega arith) in
      rw (moved_low (j + 1) (length new) i low, moved_low (before shape.kind shape.segments (j + 1)) (new_places shape j new) e (omega arith)) (before-grown_low shape j new q grows (i + 1) (omega arith) ∙ end)
  | inr high ↦
      let beyond = before_below shape grows.is_shape (j + 1) (i + 1) (omega arith) (omega arith) in
      let next : i + length new + 1 ≡ i + 1 + length new = omega arith in
      rw (moved_high (j + 1) (length new) i high, moved_high (before shape.kind shape.segments (j + 1)) (new_places shape j new) e (omega arith), next)
      (omega (arith, before-grown_high shape j new q grows (i + 1) (omega arith), end))
]

-- and each data place that ends a segment then, but for the new ones, is such a place
ended : (shape : Shape) (j : ℕ) (new : List Segment) (q : ℕ) → Grows shape j new q → (k e : ℕ) → k < length (links (grown shape j new q)) →
    before shape.kind (grown shape j new q).segments (k + 1) ≡ moved_place shape j new e + 1 → (i : ℕ) × (i < length (links shape)) × (before shape.kind shape.segments (i + 1) ≡ e + 1)
unfolding grown
ended shape j new q grows k e h end =
    let many = links_many-grown shape j new q grows in
    let inside = (grows_behind shape j new q grows).1 in
    elim (moved_or_new (j + 1) (length new) k) [
      | inl was ↦
          let within : was.0 < length shape.segments = moved_below (j + 1) (length new) was.0 (length shape.segments) (omega arith) (omega arith) in
          let some = before_below shape grows.is_shape was.0 (was.0 + 1) (omega arith) (omega arith) in
          let last = before shape.kind shape.segments (was.0 + 1) - 1 in
          let goes = end-grown shape j new q grows was.0 last within (omega arith) in
          let same : last ≡ e = moved_same (before shape.kind shape.segments (j + 1)) (new_places shape j new) last e (omega (arith, ap (λ n. before shape.kind (grown shape j new q).segments (n + 1)) was.1)) in
          (was.0, omega arith, omega arith)
      | inr fresh ↦
          let m = k - (j + 1) in
          let here : k + 1 ≡ j + 1 + (m + 1) = omega arith in
          let at : before shape.kind (grown shape j new q).segments (k + 1) ≡ before shape.kind shape.segments (j + 1) + before shape.kind new (m + 1) =
          ap (λ n. before shape.kind (grown shape j new q).segments n) here ∙ before-grown_new shape j new q grows (m + 1) (omega arith) in
          let above = before_below (grown shape j new q) grows.stays_shape (j + 1) (k + 1) (omega arith) (omega (arith, many-grown shape j new q)) in
          absurd (moved_apart (before shape.kind shape.segments (j + 1)) (new_places shape j new) e
          (omega (arith, before-grown_low shape j new q grows (j + 1) (omega arith)))
          (omega (arith, before_within shape.kind new (m + 1), new_places-is shape j new)))
    ]

-- behind a position of the ring as it was the same Link is crossed
pub link_crossed-kept : (shape : Shape) (j : ℕ) (new : List Segment) (q : ℕ) → Grows shape j new q → (p r : ℕ) → IsKept shape j new q p r →
    link_crossed (grown shape j new q) (r + 1) ≡ option_map (moved_segment j new) (link_crossed shape (p + 1))
unfolding grown
link_crossed-kept shape j new q grows p r kept = elim (cases_option (link_crossed shape (p + 1))) [
  | inl none ↦ elim (cases_option (link_crossed (grown shape j new q) (r + 1))) [
    | inl none_then ↦ none_then ∙ sym (ap (λ o. option_map (moved_segment j new) o) none)
    | inr found ↦
        let next = crossed_next (grown shape j new q) r found.0 found.1 in
        let was = ended shape j new q grows found.0 (place_of shape p) next.0 (next.1 ∙ ap (λ k. k + 1) kept.place) in
        absurd (none-some was.0 (sym none ∙ crossed_behind shape grows.is_shape p was.0 was.1 was.2))
  ]
  | inr found ↦
      let next = crossed_next shape p found.0 found.1 in
      let many = links_many-grown shape j new q grows in
      let end = end-grown shape j new q grows found.0 (place_of shape p) (omega arith) next.1 in
      crossed_behind (grown shape j new q) grows.stays_shape r (moved_segment j new found.0) (omega (arith, moved_within (j + 1) (length new) found.0 (length shape.segments) (omega arith)))
      (end ∙ ap (λ k. k + 1) (sym kept.place))
      ∙ sym (ap (λ o. option_map (moved_segment j new) o) found.1)
]

-- what that says of the crossing and its Link's address
abbrev IsMoved : Shape → ℕ → List Segment → ℕ → ℕ → ℕ → Type 0
IsMoved shape j new q p r = link_crossed (grown shape j new q) r ≡ option_map (moved_segment j new) (link_crossed shape p)

is_crossing-moved : (shape : Shape) (j : ℕ) (new : List Segment) (q p r : ℕ) → IsMoved shape j new q p r → is_crossing (grown shape j new q) r ≡ is_crossing shape p
is_crossing-moved shape j new q p r is = ap (λ o. is_some o) is ∙ some (moved_segment j new) (link_crossed shape p)
  where
    some : (f : ℕ → ℕ) (o : Option ℕ) → is_some (option_map f o) ≡ is_some o
    some f None = refl
    some f (Some i) = refl

link_address-moved : (shape : Shape) (j : ℕ) (new : List Segment) (q : ℕ) → Grows shape j new q → (p r : ℕ) → IsMoved shape j new q p r →
    link_address (grown shape j new q) r ≡ link_address shape p
link_address-moved shape j new q grows p r is =
    ap (λ o. slice_index (links (grown shape j new q)) (unwrap_or o 0)) is
    ∙ ap (λ k. slice_index (links (grown shape j new q)) k) (number (moved_segment j new) (moved_low (j + 1) (length new) 0 (omega arith)) (link_crossed shape p))
    ∙ link-grown shape j new q grows (unwrap_or (link_crossed shape p) 0)
  where
    number : (f : ℕ → ℕ) → f 0 ≡ 0 → (o : Option ℕ) → unwrap_or (option_map f o) 0 ≡ f (unwrap_or o 0)
    number f first None = sym first
    number f first (Some i) = refl

-- ---- before the growth, less than a lap back, and at it

pub link_crossed-before_growth : (shape : Shape) (j : ℕ) (new : List Segment) (q : ℕ) → Grows shape j new q → (p : ℕ) → p ≤ q → q < p + place_count shape →
    link_crossed (grown shape j new q) p ≡ option_map (moved_segment j new) (link_crossed shape p)
link_crossed-before_growth shape j new q grows zero before near = refl
link_crossed-before_growth shape j new q grows (suc p) before near =
    subst (λ r. IsMoved shape j new q r r) (add-one p) (link_crossed-kept shape j new q grows p p (kept_before shape j new q grows p (omega arith) (omega arith)))

pub is_crossing-before_growth : (shape : Shape) (j : ℕ) (new : List Segment) (q : ℕ) → Grows shape j new q → (p : ℕ) → p ≤ q → q < p + place_count shape →
    is_crossing (grown shape j new q) p ≡ is_crossing shape p
is_crossing-before_growth shape j new q grows p before near = is_crossing-moved shape j new q p p (link_crossed-before_growth shape j new q grows p before near)

pub link_address-before_growth : (shape : Shape) (j : ℕ) (new : List Segment) (q : ℕ) → Grows shape j new q → (p : ℕ) → p ≤ q → q < p + place_count shape →
    link_address (grown shape j new q) p ≡ link_address shape p
link_address-before_growth shape j new q grows p before near = link_address-moved shape j new q grows p p (link_crossed-before_growth shape j new q grows p before near)

pub cycle_of-crossing_before_growth : (shape : Shape) (j : ℕ) (new : List Segment) (q : ℕ) → Grows shape j new q → (p : ℕ) → p ≤ q → q < p + place_count shape →
    cycle_of (grown shape j new q) (p - 1) ≡ cycle_of shape (p - 1)
cycle_of-crossing_before_growth shape j new q grows p before near =
    let some = (crossed_end shape q j grows.crossed).0 in
    cycle_of-before_growth shape j new q grows (p - 1) (omega arith) (omega arith)

pub link_crossed-at_growth : (shape : Shape) (j : ℕ) (new : List Segment) (q : ℕ) → Grows shape j new q → link_crossed (grown shape j new q) q ≡ Some j
link_crossed-at_growth shape j new q grows =
    let several = (shape_facts shape grows.is_shape).several in
    link_crossed-before_growth shape j new q grows q (omega arith) (omega arith)
    ∙ ap (λ o. option_map (moved_segment j new) o) grows.crossed
    ∙ ap (λ i. Some i) (moved_low (j + 1) (length new) j (omega arith))

-- ---- through the new segments

-- crossing p goes over the Link of new segment k
pub record CrossesNew (shape : Shape) (j : ℕ) (new : List Segment) (q p k : ℕ) : Type 0 where
  pub segment : k < length new
  pub end : before shape.kind new (k + 1) ≡ p - q
  pub crossed : link_crossed (grown shape j new q) p ≡ Some (j + 1 + k)
  pub address : link_address (grown shape j new q) p ≡ (segment_at new k).base + 16 * ((segment_at new k).count - 1)

crosses_new : (shape : Shape) (j : ℕ) (new : List Segment) (q : ℕ) → Grows shape j new q → (p k : ℕ) → k < length new → before shape.kind new (k + 1) ≡ p - q →
    link_crossed (grown shape j new q) p ≡ Some (j + 1 + k) → CrossesNew shape j new q p k
unfolding grown
crosses_new shape j new q grows p k h end crossed =
    let in_ring = links_many-grown shape j new q grows in
    let link = link_is (grown shape j new q) grows.stays_shape (j + 1 + k) (omega (arith, grows_behind shape j new q grows)) in
    record {
      segment = h;
      end = end;
      crossed = crossed;
      address = link_address_is (grown shape j new q) p (j + 1 + k) crossed
          ∙ link.address
          ∙ ap (λ s. s.base + 16 * data_count shape.kind s) (segment-new shape j new q grows k h)
          ∙ ap (λ n. (segment_at new k).base + 16 * n) (in_link shape.kind (segment_at new k) (grows_links shape j new q grows));
    }
  where
    in_link : (kind : RingKind) (s : Segment) → (kind ≡ Evt → ⊥) → data_count kind s ≡ s.count - 1
    in_link kind s other = search rules

-- a data place among the new ones that ends a segment ends a new one
ends_new : (shape : Shape) (j : ℕ) (new : List Segment) (q : ℕ) → Grows shape j new q → (i e : ℕ) → i < length shape.segments + length new → e < new_places shape j new →
    before shape.kind (grown shape j new q).segments (i + 1) ≡ before shape.kind shape.segments (j + 1) + e + 1 →
    (j + 1 ≤ i) × (i < j + 1 + length new) × (before shape.kind new (i - (j + 1) + 1) ≡ e + 1)
unfolding grown
ends_new shape j new q grows i e h new_one end =
    let inside = grows_behind shape j new q grows in
    let many = many-grown shape j new q in
    let low : j + 1 ≤ i = elim (cases_lt i (j + 1)) [
      | inl low ↦ absurd (omega (arith, before-grown_low shape j new q grows (i + 1) (omega arith), before_rises shape.kind shape.segments (i + 1) (j + 1) (omega arith)))
      | inr high ↦ high
    ] in
    let high : i < j + 1 + length new = elim (cases_lt i (j + 1 + length new)) [
      | inl high ↦ high
      | inr far ↦ absurd (omega (arith, before-grown_high shape j new q grows (j + 1) (omega arith), before_below (grown shape j new q) grows.stays_shape (j + 1 + length new) (i + 1) (omega arith) (omega arith)))
    ] in
    let here : i + 1 ≡ j + 1 + (i - (j + 1) + 1) = omega arith in
    (low, high, omega (arith, ap (λ n. before shape.kind (grown shape j new q).segments n) here, before-grown_new shape j new q grows (i - (j + 1) + 1) (omega arith)))

pub crosses_in_growth : (shape : Shape) (j : ℕ) (new : List Segment) (q : ℕ) → Grows shape j new q → (p : ℕ) → q < p → p ≤ q + new_places shape j new →
    is_crossing (grown shape j new q) p ≡ true → (k : ℕ) × CrossesNew shape j new q p k
unfolding grown
crosses_in_growth shape j new q grows p behind near crossing =
    let found = crossed_link (grown shape j new q) p crossing in
    let end = crossed_end (grown shape j new q) p found.0 found.1 in
    let in_ring = links_many-grown shape j new q grows in
    let place = (new_here shape j new q grows (p - 1) (omega arith) (omega arith)).place in
    let is = ends_new shape j new q grows found.0 (p - 1 - q) (omega arith) (omega arith) (omega arith) in
    let number : found.0 ≡ j + 1 + (found.0 - (j + 1)) = omega arith in
    (found.0 - (j + 1), crosses_new shape j new q grows p (found.0 - (j + 1)) (omega arith) (omega arith) (found.1 ∙ ap (λ i. Some i) number))

-- behind the data places of each new segment its Link is crossed
pub new_crossing : (shape : Shape) (j : ℕ) (new : List Segment) (q : ℕ) → Grows shape j new q → (k : ℕ) → k < length new →
    CrossesNew shape j new q (q + before shape.kind new (k + 1)) k
unfolding grown
new_crossing shape j new q grows k h =
    let p = q + before shape.kind new (k + 1) in
    let here : j + 1 + k + 1 ≡ j + 1 + (k + 1) = omega arith in
    let many = many-grown shape j new q in
    let inside = grows_behind shape j new q grows in
    let low = before-grown_low shape j new q grows (j + 1) (omega arith) in
    let end = before-grown_new shape j new q grows (k + 1) (omega arith) in
    let more = before_below (grown shape j new q) grows.stays_shape (j + 1) (j + 1 + (k + 1)) (omega arith) (omega arith) in
    let within = before_within shape.kind new (k + 1) in
    let new_ones = new_places-is shape j new in
    let place = (new_here shape j new q grows (p - 1) (omega arith) (omega arith)).place in
    let links_are = links_many-grown shape j new q grows in
    let crossed = crossed_behind (grown shape j new q) grows.stays_shape (p - 1) (j + 1 + k) (omega arith) (ap (λ n. before shape.kind (grown shape j new q).segments n) here ∙ omega arith) in
    let last : p - 1 + 1 ≡ p = omega arith in
    crosses_new shape j new q grows p k h (omega arith) (ap (λ r. link_crossed (grown shape j new q) r) (sym last) ∙ crossed)

-- each shows the Cycle bit of the lap that goes on
pub cycle_of-crossing_in_growth : (shape : Shape) (j : ℕ) (new : List Segment) (q : ℕ) → Grows shape j new q → (p : ℕ) → q < p → p ≤ q + new_places shape j new →
    cycle_of (grown shape j new q) (p - 1) ≡ cycle_of shape (q - 1)
cycle_of-crossing_in_growth shape j new q grows p behind near = cycle_of-in_growth shape j new q grows (p - 1) (omega arith) (omega arith)

-- ---- behind them, up to a lap

pub link_crossed-behind_growth : (shape : Shape) (j : ℕ) (new : List Segment) (q : ℕ) → Grows shape j new q → (p : ℕ) → q < p → p ≤ q + place_count shape →
    link_crossed (grown shape j new q) (p + new_places shape j new) ≡ option_map (moved_segment j new) (link_crossed shape p)
link_crossed-behind_growth shape j new q grows p behind near =
    let last : p - 1 + 1 ≡ p = omega arith in
    let moves : p - 1 + new_places shape j new + 1 ≡ p + new_places shape j new = omega arith in
    sym (ap (λ r. link_crossed (grown shape j new q) r) moves)
    ∙ link_crossed-kept shape j new q grows (p - 1) (p - 1 + new_places shape j new) (kept_behind shape j new q grows (p - 1) (omega arith) (omega arith))
    ∙ ap (λ r. option_map (moved_segment j new) (link_crossed shape r)) last

pub is_crossing-behind_growth : (shape : Shape) (j : ℕ) (new : List Segment) (q : ℕ) → Grows shape j new q → (p : ℕ) → q < p → p ≤ q + place_count shape →
    is_crossing (grown shape j new q) (p + new_places shape j new) ≡ is_crossing shape p
is_crossing-behind_growth shape j new q grows p behind near = is_crossing-moved shape j new q p _ (link_crossed-behind_growth shape j new q grows p behind near)

pub link_address-behind_growth : (shape : Shape) (j : ℕ) (new : List Segment) (q : ℕ) → Grows shape j new q → (p : ℕ) → q < p → p ≤ q + place_count shape →
    link_address (grown shape j new q) (p + new_places shape j new) ≡ link_address shape p
link_address-behind_growth shape j new q grows p behind near = link_address-moved shape j new q grows p _ (link_crossed-behind_growth shape j new q grows p behind near)

pub cycle_of-crossing_behind_growth : (shape : Shape) (j : ℕ) (new : List Segment) (q : ℕ) → Grows shape j new q → (p : ℕ) → q < p → p ≤ q + place_count shape →
    cycle_of (grown shape j new q) (p + new_places shape j new - 1) ≡ cycle_of shape (p - 1)
cycle_of-crossing_behind_growth shape j new q grows p behind near =
    let moves : p + new_places shape j new - 1 ≡ p - 1 + new_places shape j new = omega arith in
    ap (λ r. cycle_of (grown shape j new q) r) moves ∙ cycle_of-behind_growth shape j new q grows (p - 1) (omega arith) (omega arith)
