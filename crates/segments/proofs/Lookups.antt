-- What is looked up on a ring once the segment is found. The look-ups see the segments as a list of their own
use Rattle.segments.proofs.MiddleLaws.{IsIndex, SegmentIndex, get_or, get_or_read, add-mod-mod, add-mul-mod_self_left, mod-add-div, mul_assoc, AreMultiples, IsLastStart, IsNear, IsSegmentOf, ◌≡◌, ◌≢◌, ◌+◌, ◌-◌, ◌*◌, ◌/◌, ◌%◌, ◌<◌, ◌≤◌, if◌then◌else◌, ◌∙◌, ℕ, suc, zero, nat_lt, true, false, List, length, Option, Some, None, arith, mod-eq_of_lt, refl, sym, ap, inl, inr, false≢true, false_from_ne_true, cases_lt, RingKind, Evt, Segment, Shape, data_count, place_count, place_of, place_of-unmoved, address_of, links, link_crossed, is_in, place_at, IsShape, rules, segment_at, places_of, before, before-next, before-all, before-zero, before_within, block_lies, same_segment, link_is, length-links, end_is, crosses, crosses-from, cases_option, before_rises, shape_facts}
use Rattle.segments.specs.declared.place.Place.TheVariants.{Data, Link}
use Rattle.segments.proofs.PlaceAtLemmas.{is_in-true, is_in-parts, place_at-block, place_at-outside}

-- the shape that a slice of segments stands for
pub record Sees (shape : Shape) (kind : RingKind) (segments : List Segment) (places : ℕ) : Type 0 where
  pub kind_is : shape.kind ≡ kind
  pub segments_are : shape.segments ≡ segments
  pub places_are : places ≡ place_count shape

pub sees_from : (shape : Shape) (kind : RingKind) (segments : List Segment) (offset places : ℕ) →
    ◌≡◌ {A = Shape} (record { kind = kind; segments = segments; offset = offset }) shape →
    places ≡ place_count (record { kind = kind; segments = segments; offset = offset }) → Sees shape kind segments places
sees_from shape kind segments offset places view_is count = search rules

-- block k behind the data places before segment j is data place i
abbrev pub IsAhead : RingKind → List Segment → ℕ → ℕ → ℕ → Type 0
IsAhead kind segments j k i = before kind segments j + k ≡ i

pub ahead_here : (shape : Shape) (kind : RingKind) (segments : List Segment) (places j k n p : ℕ) → Sees shape kind segments places →
    j < length segments → IsAhead kind segments j k (place_of shape p) → n ≡ data_count kind (segment_at segments j) → k < n →
    (segment_at segments j).base + 16 * k ≡ address_of shape p
ahead_here shape kind segments places j k n p sees h ahead e l =
    sym (rw (← ahead, sees.kind_is, sees.segments_are) (block_lies kind segments j k h (omega arith)).1.address)

-- ---- the Link on the way to a position

-- the data places before segment j are counted, and no Link of a segment before it is the wanted one
pub record IsPast (kind : RingKind) (segments : List Segment) (j end passed : ℕ) : Type 0 where
  pub counted : end ≡ before kind segments j
  pub missed : (k : ℕ) → k < j → before kind segments (k + 1) ≢ passed

-- the count stays below that of all data places
pub count_within : (shape : Shape) (kind : RingKind) (segments : List Segment) (places j count n : ℕ) → Sees shape kind segments places →
    j < length segments → count ≡ before kind segments j → n ≡ data_count kind (segment_at segments j) → count + n ≤ places
count_within shape kind segments places j count n sees h counted e =
    let total : places ≡ length (places_of kind segments) = rw (← sees.kind_is, ← sees.segments_are) sees.places_are in
    omega (arith, before-next kind segments j h, before_within kind segments (j + 1))

pub crossed_here : (shape : Shape) → IsShape shape → (kind : RingKind) (segments : List Segment) (places j end n q : ℕ) → Sees shape kind segments places →
    (kind ≡ Evt → ⊥) → q ≢ 0 → j < length segments → IsPast kind segments j end (place_of shape (q - 1) + 1) → n ≡ data_count kind (segment_at segments j) →
    end + n ≡ place_of shape (q - 1) + 1 → link_crossed shape q ≡ Some j
crossed_here shape is kind segments places j end n q sees other some h past e here =
    let link : j < length (links shape) = omega (arith, length-links shape (λ event. other (sym sees.kind_is ∙ event)), ap length sees.segments_are) in
    search (rules, end_is shape j link, link, before, before-next, crosses-from)

pub crossed_nowhere : (shape : Shape) → IsShape shape → (kind : RingKind) (segments : List Segment) (places j end q : ℕ) → Sees shape kind segments places →
    q ≢ 0 → length segments ≤ j → IsPast kind segments j end (place_of shape (q - 1) + 1) → link_crossed shape q ≡ None
crossed_nowhere shape is kind segments places j end q sees some all past = elim (cases_option (link_crossed shape q)) [
  | inl none ↦ none
  | inr found ↦
      let c = crosses shape q found.0 found.1 in
      search (rules, past.missed found.0, c.end, end_is shape found.0 c.link, (link_is shape is found.0 c.link).segment, ap length sees.segments_are)
]

-- ---- the word with an address

-- the data places before segment j are counted, and no segment before it has the byte
pub record IsOutside (segments : List Segment) (kind : RingKind) (j count address : ℕ) : Type 0 where
  pub counted : count ≡ before kind segments j
  pub missed : (k : ℕ) → k < j → is_in address (segment_at segments k).base (16 * (segment_at segments k).count) ≡ false

-- a word of block `block` of segment j, where the first n blocks of it hold data
pub place_here : (shape : Shape) → IsShape shape → (kind : RingKind) (segments : List Segment) (places j count block n address : ℕ) → Sees shape kind segments places →
    j < length segments → count ≡ before kind segments j → n ≡ data_count kind (segment_at segments j) → address % 4 ≡ 0 →
    is_in address (segment_at segments j).base (16 * (segment_at segments j).count) ≡ true → block ≡ (address - (segment_at segments j).base) / 16 →
    place_at shape address ≡ Some (if nat_lt block n then Data (count + block) (address % 16 / 4) else Link j (address % 16 / 4))
place_here shape is kind segments places j count block n address sees h counted e word has at = search (rules, length, nat_lt, is_in-parts, place_at-block)

pub place_nowhere : (shape : Shape) → IsShape shape → (kind : RingKind) (segments : List Segment) (places j count address : ℕ) → Sees shape kind segments places →
    length segments ≤ j → IsOutside segments kind j count address → place_at shape address ≡ None
place_nowhere shape is kind segments places j count address sees all outside = search (rules, length, place_at-outside, is_in-true, false≢true)

-- ---- what a search finds

-- a data place comes before the end of the segments
pub place_within : (shape : Shape) (kind : RingKind) (segments : List Segment) (places i : ℕ) → Sees shape kind segments places → i < place_count shape →
    i < before kind segments (length segments)
place_within shape kind segments places i sees h = rw (before-all kind segments, ← sees.kind_is, ← sees.segments_are) h

-- what the index has of segment j: how many data places lie before it
pub first_is : (kind : RingKind) (segments : List Segment) (index : SegmentIndex) → IsIndex kind segments index → (j n : ℕ) → j < length segments →
    n ≡ get_or index.firsts.items j n → n ≡ before kind segments j
first_is kind segments index is j n h read = get_or_read index.firsts.items j n (omega (arith, is.firsts.many)) read 0 ∙ is.firsts.each j h

pub segment_is : (segments : List Segment) (j : ℕ) (s : Segment) → j < length segments → s ≡ get_or segments j s → s ≡ segment_at segments j
segment_is segments j s h read = get_or_read segments j s h read (record { base = 0; count = 0 })

-- no Link before the segment of a data place comes right behind that place
pub past_before : (kind : RingKind) (segments : List Segment) (last j : ℕ) → IsSegmentOf kind segments last j → IsPast kind segments j (before kind segments j) (last + 1)
past_before kind segments last j of = grind (arith, before_rises)

-- and if its own doesn't, none does
pub past_all : (kind : RingKind) (segments : List Segment) (last j : ℕ) → IsSegmentOf kind segments last j → before kind segments (j + 1) ≢ last + 1 →
    IsPast kind segments (length segments) (before kind segments (length segments)) (last + 1)
past_all kind segments last j of other = search (rules, length, cases_lt, before_rises)

-- the last segment to start at or before an address is the one that may have it
pub near_from_last : (kind : RingKind) (segments : List Segment) → IsShape (record { kind = kind; segments = segments; offset = 0 }) → (address : ℕ) (o : Option ℕ) →
    IsLastStart segments address o → IsNear segments address o
near_from_last kind segments is address None above = search (rules, false_from_ne_true, is_in-parts, segment_at)
near_from_last kind segments is address (Some j) of =
    let facts = shape_facts (record { kind = kind; segments = segments; offset = 0 }) is in (
      of.number,
      λ k l has. search (rules, is_in-parts address (segment_at segments k).base (16 * (segment_at segments k).count) has, of.last k l, (facts.each j of.number).blocks, of.start, segment_at, same_segment, facts),
    )

-- no segment may have the address
pub outside_none : (kind : RingKind) (segments : List Segment) (address : ℕ) → IsNear segments address None →
    IsOutside segments kind (length segments) (before kind segments (length segments)) address
outside_none kind segments address near = record { counted = refl; missed = near }

-- the one that may have it doesn't
pub outside_near : (kind : RingKind) (segments : List Segment) (address j : ℕ) → IsNear segments address (Some j) →
    (is_in address (segment_at segments j).base (16 * (segment_at segments j).count) ≡ true → ⊥) →
    IsOutside segments kind (length segments) (before kind segments (length segments)) address
outside_near kind segments address j near misses = search (rules, length, false_from_ne_true)

-- where each segment has a multiple of so many places, so have the first ones together
before_multiple : (kind : RingKind) (ss : List Segment) (step : ℕ) → AreMultiples kind ss step → (j : ℕ) → j ≤ length ss → before kind ss j % step ≡ 0
before_multiple kind ss step are zero h = search (rules, before-zero, mod-eq_of_lt)
before_multiple kind ss step are (suc j) h =
    search (rules, before-next kind ss j (omega arith), add-mod-mod (before kind ss j) (data_count kind (segment_at ss j)) step, are.each j (omega arith), before_multiple kind ss step are j (omega arith))

-- and with no offset no Link is crossed where the position isn't such a multiple
pub crossed_between : (shape : Shape) → IsShape shape → shape.offset ≡ 0 → (step q : ℕ) → AreMultiples shape.kind shape.segments step → q % step ≢ 0 → link_crossed shape q ≡ None
crossed_between shape is unmoved step q are between = elim (cases_option (link_crossed shape q)) [
  | inl none ↦ none
  | inr found ↦
      let c = crosses shape q found.0 found.1 in
      let link = link_is shape is found.0 c.link in
      let end : (q - 1) % place_count shape + 1 ≡ before shape.kind shape.segments (found.0 + 1) = ap (λ n. n + 1) (sym (place_of-unmoved shape unmoved (q - 1))) ∙ sym c.end ∙ end_is shape found.0 c.link in
      let lap : place_count shape % step ≡ 0 = rw (← before-all shape.kind shape.segments) (before_multiple shape.kind shape.segments step are (length shape.segments) (omega arith)) in
      absurd (between (multiple_behind (place_count shape) q step c.positive lap (rw end (before_multiple shape.kind shape.segments step are (found.0 + 1) (omega (arith, link.segment))))))
]
  where
    multiple_behind : (p q s : ℕ) → 0 < q → p % s ≡ 0 → ((q - 1) % p + 1) % s ≡ 0 → q % s ≡ 0
    multiple_behind p q s some hp he =
        let whole : s * (p / s) ≡ p = omega (arith, mod-add-div p s, hp) in
        let product : s * (p / s * ((q - 1) / p)) ≡ p * ((q - 1) / p) = sym (mul_assoc s (p / s) ((q - 1) / p)) ∙ ap (λ n. n * ((q - 1) / p)) whole in
        let all : q ≡ (q - 1) % p + 1 + s * (p / s * ((q - 1) / p)) = omega (arith, mod-add-div (q - 1) p, product, some) in
        ap (λ n. n % s) all ∙ add-mul-mod_self_left ((q - 1) % p + 1) s (p / s * ((q - 1) / p)) ∙ he
