-- Which word of a ring's blocks has an address: each word has one answer, and each answer is of such a word
use Rattle.segments.proofs.MiddleLaws.{◌≡◌, ◌≢◌, ◌+◌, ◌-◌, ◌*◌, ◌/◌, ◌%◌, ◌<◌, ◌≤◌, ◌==◌, if◌then◌else◌, ◌∙◌, ℕ, true, length, slice_index, nat_le, nat_lt, Some, None, is_some, arith, ap, inl, inr, ne_eqb, le-leb, lt-ltb, le-ltb, leb-true, ltb-true, option_map, option_or, none-some, same_Some, cases_lt, and_parts, and_from, cond-false, false_from_ne_true, get_or_default, Any-from_list_any, position-Some, Place, RingKind, Evt, Segment, Shape, data_count, segment_has, data_places, place_count, place_of, address_of, links, link_crossed, link_address, is_in, is_inside, data_place_at, link_at, place_at, IsShape, rules, IsPlace, place_is, block_is, link_is, length-links, byte_inside, places_apart, place_aligned, place_not_link, links_apart, link_aligned, place_below, crosses, link_address_is, segment_at, before, position_only, position_nowhere, cases_option}
use Rattle.segments.specs.declared.place.Place.TheVariants.{Data, Link}

pub is_in-true : (x a n : ℕ) → a ≤ x → x < a + n → is_in x a n ≡ true
is_in-true x a n low high = and_from (nat_le a x) (nat_lt x (a + n)) (le-leb a x low) (lt-ltb x (a + n) high)

pub is_in-parts : (x a n : ℕ) → is_in x a n ≡ true → (a ≤ x) × (x < a + n)
is_in-parts x a n h = let parts = and_parts (nat_le a x) (nat_lt x (a + n)) h in (leb-true a x parts.0, ltb-true x (a + n) parts.1)

-- the data place that has a byte
pub data_place_at-byte : (shape : Shape) → IsShape shape → (i x : ℕ) → i < place_count shape →
    slice_index (data_places shape) i ≤ x → x < slice_index (data_places shape) i + 16 → data_place_at shape x ≡ Some i
data_place_at-byte shape is i x h low high = search (rules, position_only, is_in, data_places, is_in-true, is_in-parts, slice_index, places_apart)

-- no data place has a byte of a Link
data_place_at-link : (shape : Shape) → IsShape shape → (j x : ℕ) → j < length (links shape) →
    slice_index (links shape) j ≤ x → x < slice_index (links shape) j + 16 → data_place_at shape x ≡ None
data_place_at-link shape is j x h low high =
    position_nowhere (λ a. is_in x a 16) (data_places shape) 0 (λ k l. false_from_ne_true _ (λ t.
    search (rules, is_in-parts x (slice_index (data_places shape) k) 16 t, is_in-parts, slice_index, data_places, place_not_link)))

-- the Link that has a byte
link_at-byte : (shape : Shape) → IsShape shape → (j x : ℕ) → j < length (links shape) →
    slice_index (links shape) j ≤ x → x < slice_index (links shape) j + 16 → link_at shape x ≡ Some j
link_at-byte shape is j x h low high = search (rules, position_only, is_in, links, is_in-true, is_in-parts, slice_index, links_apart)

-- a word of a data place
pub place_at-data : (shape : Shape) → IsShape shape → (i x : ℕ) → i < place_count shape → x % 4 ≡ 0 →
    slice_index (data_places shape) i ≤ x → x < slice_index (data_places shape) i + 16 → place_at shape x ≡ Some (Data i (x % 16 / 4))
place_at-data shape is i x h word low high = search (rules, option_or, option_map, Data, Link, link_at, data_place_at-byte)

-- a word of a Link
pub place_at-link : (shape : Shape) → IsShape shape → (j x : ℕ) → j < length (links shape) → x % 4 ≡ 0 →
    slice_index (links shape) j ≤ x → x < slice_index (links shape) j + 16 → place_at shape x ≡ Some (Link j (x % 16 / 4))
place_at-link shape is j x h word low high = search (rules, option_or, option_map, Data, Link, link_at, data_place_at-link, link_at-byte)

-- an address that is no multiple of 4 is none of a word
pub place_at-odd : (shape : Shape) (x : ℕ) → x % 4 ≢ 0 → place_at shape x ≡ None
place_at-odd shape x h = cond-false (x % 4 == 0) _ None (ne_eqb (x % 4) 0 h)

word_of : (a w : ℕ) → a % 16 ≡ 0 → w < 4 → ((a + 4 * w) % 4 ≡ 0) × ((a + 4 * w) % 16 / 4 ≡ w)
word_of a w h l = (omega arith, omega arith)

-- word w of the place of position p
pub place_at-address_of : (shape : Shape) → IsShape shape → (p w : ℕ) → w < 4 →
    place_at shape (address_of shape p + 4 * w) ≡ Some (Data (place_of shape p) w)
place_at-address_of shape is p w l = search (rules, place_below, word_of, place_aligned, place_at-data)

-- word w of the Link of segment j
pub place_at-link_word : (shape : Shape) → IsShape shape → (j w : ℕ) → j < length (links shape) → w < 4 →
    place_at shape (slice_index (links shape) j + 4 * w) ≡ Some (Link j w)
place_at-link_word shape is j w inside l = search (rules, word_of, slice_index, links, link_aligned, place_at-link, Some, Link)

-- word w of the Link that crossing q goes over
pub place_at-link_address : (shape : Shape) → IsShape shape → (q i w : ℕ) → link_crossed shape q ≡ Some i → w < 4 →
    place_at shape (link_address shape q + 4 * w) ≡ Some (Link i w)
place_at-link_address shape is q i w h l = cc (ap (λ a. place_at shape (a + 4 * w)) (link_address_is shape q i h), (place_at-link_word shape is i w (crosses shape q i h).link l))

-- what an answer says of the address
abbrev pub IsAnswer : Shape → ℕ → Place → Type 0
IsAnswer shape x (Data i w) = (i < place_count shape) × (w < 4) × (x ≡ slice_index (data_places shape) i + 4 * w)
IsAnswer shape x (Link j w) = (j < length (links shape)) × (w < 4) × (x ≡ slice_index (links shape) j + 4 * w)

word_back : (a x : ℕ) → a % 16 ≡ 0 → x % 4 ≡ 0 → a ≤ x → x < a + 16 → (x % 16 / 4 < 4) × (x ≡ a + 4 * (x % 16 / 4))
word_back a x h word low high = (omega arith, omega arith)

data_answer : (shape : Shape) → IsShape shape → (x i : ℕ) → x % 4 ≡ 0 → data_place_at shape x ≡ Some i → IsAnswer shape x (Data i (x % 16 / 4))
data_answer shape is x i word h =
    let found = position-Some (λ a. is_in x a 16) (data_places shape) i 0 h in
    let bytes = is_in-parts x (slice_index (data_places shape) i) 16 found.1 in
    search (rules, found, word_back (slice_index (data_places shape) i) x (place_aligned shape is i found.0) word bytes.0 bytes.1)

link_answer : (shape : Shape) → IsShape shape → (x j : ℕ) → x % 4 ≡ 0 → link_at shape x ≡ Some j → IsAnswer shape x (Link j (x % 16 / 4))
link_answer shape is x j word h =
    let found = position-Some (λ a. is_in x a 16) (links shape) j 0 h in
    let bytes = is_in-parts x (slice_index (links shape) j) 16 found.1 in
    search (rules, found, word_back (slice_index (links shape) j) x (link_aligned shape is j found.0) word bytes.0 bytes.1)

-- every answer is of a word with this address
pub place_at-Some : (shape : Shape) → IsShape shape → (x : ℕ) (place : Place) → place_at shape x ≡ Some place → IsAnswer shape x place
place_at-Some shape is x place h = search (rules, none-some, place_at-odd, cases_option, same_Some, data_answer, link_answer)

pub place_at-Data : (shape : Shape) → IsShape shape → (x i w : ℕ) → place_at shape x ≡ Some (Data i w) →
    (i < place_count shape) × (w < 4) × (x ≡ slice_index (data_places shape) i + 4 * w)
place_at-Data shape is x i w h = place_at-Some shape is x (Data i w) h

pub place_at-Link : (shape : Shape) → IsShape shape → (x j w : ℕ) → place_at shape x ≡ Some (Link j w) →
    (j < length (links shape)) × (w < 4) × (x ≡ slice_index (links shape) j + 4 * w)
place_at-Link shape is x j w h = place_at-Some shape is x (Link j w) h

-- with no answer the address is none of a word of a data place
pub place_at-None : (shape : Shape) → IsShape shape → (x p w : ℕ) → place_at shape x ≡ None → w < 4 → x ≢ address_of shape p + 4 * w
place_at-None shape is x p w h l same = search (rules, none-some, Data, place_count, place_at, place_at-address_of)

-- nor of a Link
pub place_at-None_link : (shape : Shape) → IsShape shape → (x j w : ℕ) → place_at shape x ≡ None → j < length (links shape) → w < 4 → x ≢ slice_index (links shape) j + 4 * w
place_at-None_link shape is x j w h inside l same = search (rules, none-some, Link, place_at, place_at-link_word)

-- ---- by segments

has_link : (kind : RingKind) (s : Segment) → data_count kind s < s.count → kind ≡ Evt → ⊥
has_link kind s l event = let same : data_count kind s ≡ s.count = ap (λ k. data_count k s) event in omega arith

link_last : (kind : RingKind) (s : Segment) (k : ℕ) → k < s.count → data_count kind s ≤ k → k ≡ data_count kind s
link_last kind s k h4 h5 = search rules

-- a word of block k of segment j
pub place_at-block : (shape : Shape) → IsShape shape → (j k x : ℕ) → j < length shape.segments → k < (segment_at shape.segments j).count →
    x % 4 ≡ 0 → (segment_at shape.segments j).base + 16 * k ≤ x → x < (segment_at shape.segments j).base + 16 * k + 16 →
    place_at shape x ≡ Some (if nat_lt k (data_count shape.kind (segment_at shape.segments j))
    then Data (before shape.kind shape.segments j + k) (x % 16 / 4) else Link j (x % 16 / 4))
place_at-block shape is j k x hj hk word low high =
    search (
      rules,
      cases_lt k (data_count shape.kind (segment_at shape.segments j)),
      block_is shape is j k hj,
      place_at-data,
      lt-ltb,
      le-ltb,
      length-links shape,
      has_link shape.kind (segment_at shape.segments j),
      link_is shape is j,
      link_last shape.kind (segment_at shape.segments j) k hk,
      place_at-link,
    )

answer_inside : (shape : Shape) → IsShape shape → (x : ℕ) (place : Place) → IsAnswer shape x place →
    (j : ℕ) × (j < length shape.segments) × ((segment_at shape.segments j).base ≤ x) × (x < (segment_at shape.segments j).base + 16 * (segment_at shape.segments j).count)
answer_inside shape is x (Data i w) answer =
    search (rules, place_is shape is i answer.0, (place_is shape is i answer.0).2, place_is, IsPlace, segment_at)
answer_inside shape is x (Link j w) answer = search (rules, link_is, segment_at)

-- an address outside each segment
pub place_at-outside : (shape : Shape) → IsShape shape → (x : ℕ) →
    ((j : ℕ) → j < length shape.segments → (segment_at shape.segments j).base ≤ x → x < (segment_at shape.segments j).base + 16 * (segment_at shape.segments j).count → ⊥) →
    place_at shape x ≡ None
place_at-outside shape is x outside = elim (cases_option (place_at shape x)) [
  | inl none ↦ none
  | inr some ↦ search (rules, answer_inside shape is x some.0 (place_at-Some shape is x some.0 some.1), answer_inside, place_at-Some)
]

-- every word inside the ring's segments is one of a data place or a Link
pub place_at-inside : (shape : Shape) → IsShape shape → (x : ℕ) → x % 4 ≡ 0 → is_inside shape x ≡ true → is_some (place_at shape x) ≡ true
place_at-inside shape is x word inside =
    let found = Any-from_list_any (segment_has x) shape.segments inside in
    let at : segment_at shape.segments found.0 ≡ found.1 = get_or_default shape.segments found.0 (record { base = 0; count = 0 }) found.1 found.2 ∙ found.3 in
    let bytes = is_in-parts x (segment_at shape.segments found.0).base (16 * (segment_at shape.segments found.0).count) (ap (λ s. segment_has x s) at ∙ found.4) in
    ap (λ o. is_some o) (place_at-block shape is found.0 ((x - (segment_at shape.segments found.0).base) / 16) x found.2 (omega (arith, bytes.1)) word (omega (arith, bytes.0))
    (omega (arith, bytes.0)))

-- outside its segments no word has an answer
pub is_inside-place_at : (shape : Shape) → IsShape shape → (x : ℕ) (place : Place) → place_at shape x ≡ Some place → is_inside shape x ≡ true
is_inside-place_at shape is x place h = search (rules, answer_inside shape is x place (place_at-Some shape is x place h), place_at-Some, byte_inside)
