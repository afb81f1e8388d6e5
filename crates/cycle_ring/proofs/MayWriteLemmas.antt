-- When a word may be written on a ring, by what it touches and what it gives
use Rattle.cycle_ring.proofs.Words.{common_steps, rules, IsRestored, no_flips, ◌≡◌, ◌+◌, ◌*◌, ◌%◌, ◌<◌, ◌≤◌, ◌∙◌, ℕ, true, false, List, All, Contains, slice_index, arith, sym, ap, and_parts, false_from_ne_true, All-weaker, All-contains_itself, Shape, IsShape, data_places, links, place_count, place_of, address_of, is_crossing, link_address, overlap, RingView, floor_number, is_due, positions_given, crossings_given, leased_positions, leased_crossings, is_other_than_declared, is_not_declared, is_not_whole, leads_wrong, interrupts, MayWrite, place_not_link, link_aligned, links_apart, place_below, same_place_of, same_position_near, crosses, crossed_link, link_address_is, same_crossing_at, Gives, GivesCrossing, gives_is, gives_crossing_is, leased_position_is, leased_crossing_is, position_given_is, crossing_given_is}

all_in : (P : ℕ → Type 0) (xs : List ℕ) → ((x : ℕ) → Contains xs x → P x) → All P xs
all_in P xs each = All-weaker (Contains xs) P each xs (All-contains_itself xs)

-- position p may be given by this write
pub record MayGive (shape : Shape) (m : ℕ → ℕ) (v : RingView) (a w p : ℕ) : Type 0 where
  pub as_declared : is_other_than_declared shape v m a w p ≡ false
  pub declared : is_not_declared v p ≡ false
  pub whole : is_not_whole shape v p ≡ false

-- a word may be written, and gives no Link that interrupts
pub record MayPut (shape : Shape) (m : ℕ → ℕ) (v : RingView) (a w : ℕ) : Type 0 where
  pub may : MayWrite shape m v a w
  pub without_interrupt : All (λ q. interrupts shape m a w q ≡ false) (crossings_given shape v a w)

pub may_write_from :
    (shape : Shape) (m : ℕ → ℕ) (v : RingView) (a w : ℕ) → IsRestored v
    → ((p : ℕ) → is_due shape v.floor p ≡ true → v.given p ≡ true → overlap a 4 (address_of shape p) 16 ≡ false)
    → ((q : ℕ) → is_crossing shape q ≡ true → v.crossed q ≡ true → floor_number v ≤ q → overlap a 4 (link_address shape q) 16 ≡ false)
    → ((p : ℕ) → Gives shape v.floor p a w → MayGive shape m v a w p)
    → ((q : ℕ) → GivesCrossing shape v.floor q a w → (leads_wrong shape m a w q ≡ false) × (interrupts shape m a w q ≡ false))
    → MayPut shape m v a w
may_write_from shape m v a w restored blocks links positions crossings =
    let may : (p : ℕ) → Contains (positions_given shape v a w) p → MayGive shape m v a w p =
    λ p c. positions p (gives_is shape v.floor p a w (position_given_is shape v a w p c).1) in
    let leads : (q : ℕ) → Contains (crossings_given shape v a w) q → (leads_wrong shape m a w q ≡ false) × (interrupts shape m a w q ≡ false) =
    λ q c. crossings q (gives_crossing_is shape v.floor q a w (crossing_given_is shape v a w q c).1) in
    let may_write : MayWrite shape m v a w = record {
      blocks = search (rules, all_in, overlap, address_of, leased_positions, leased_position_is);
      links = search (rules, all_in, overlap, link_address, leased_crossings, leased_crossing_is, links);
      as_declared = all_in (λ p. is_other_than_declared shape v m a w p ≡ false) (positions_given shape v a w) (λ p c. (may p c).as_declared);
      declared = all_in (λ p. is_not_declared v p ≡ false) (positions_given shape v a w) (λ p c. (may p c).declared);
      whole = all_in (λ p. is_not_whole shape v p ≡ false) (positions_given shape v a w) (λ p c. (may p c).whole);
      leads = search (rules, all_in, leads_wrong, crossings_given);
      flips = no_flips shape v a w restored;
    } in
    record {
      may = may_write;
      without_interrupt = all_in (λ q. interrupts shape m a w q ≡ false) (crossings_given shape v a w) (λ q c. (leads q c).1);
    }

-- ---- words of blocks and Links that lie apart

overlap_is : (a b : ℕ) → overlap a 4 b 16 ≡ true → (a < b + 16) × (b < a + 4)
overlap_is a b h = search (rules, and_parts)

module _ (shape : Shape) (is : IsShape shape) where
  pub link_address_aligned : (q : ℕ) → is_crossing shape q ≡ true → link_address shape q % 16 ≡ 0
  link_address_aligned q crossing = grind (arith, common_steps, crossed_link, link_address_is, link_aligned, crosses)

  pub same_link_address :
      (r q : ℕ) → is_crossing shape r ≡ true → is_crossing shape q ≡ true
      → link_address shape r < link_address shape q + 16 → link_address shape q < link_address shape r + 16 → link_address shape r ≡ link_address shape q
  same_link_address r q at_r at_q near far =
      let a = crossed_link shape r at_r in
      let b = crossed_link shape q at_q in
      let here : link_address shape r ≡ slice_index (links shape) a.0 = link_address_is shape r a.0 a.1 in
      let there : link_address shape q ≡ slice_index (links shape) b.0 = link_address_is shape q b.0 b.1 in
      let one : a.0 ≡ b.0 = links_apart shape is a.0 b.0 (crosses shape r a.0 a.1).link (crosses shape q b.0 b.1).link (omega arith) (omega arith) in
      here ∙ ap (λ i. slice_index (links shape) i) one ∙ sym there

  place_and_link :
      (p q : ℕ) → is_crossing shape q ≡ true
      → address_of shape p < link_address shape q + 16 → link_address shape q < address_of shape p + 16 → ⊥
  place_and_link p q crossing near far =
      let found = crossed_link shape q crossing in
      let at : link_address shape q ≡ slice_index (links shape) found.0 = link_address_is shape q found.0 found.1 in
      place_not_link shape is (place_of shape p) found.0 (place_below shape is p) (crosses shape q found.0 found.1).link (omega arith) (omega arith)

  module _ (x : ℕ) (k : ℕ) (small : k < 4) where
    pub block_word_no_block :
        (q p : ℕ) → x ≡ address_of shape q + 4 * k → p < q + place_count shape → q < p + place_count shape → (p ≡ q → ⊥)
        → overlap x 4 (address_of shape p) 16 ≡ false
    block_word_no_block q p at far near other =
        search (rules, false_from_ne_true, overlap, address_of, overlap_is, place_count, same_place_of, same_position_near, slice_index, data_places)

    pub block_word_no_link : (q r : ℕ) → x ≡ address_of shape q + 4 * k → is_crossing shape r ≡ true → overlap x 4 (link_address shape r) 16 ≡ false
    block_word_no_link q r at crossing = search (rules, false_from_ne_true, overlap, link_address, overlap_is, place_and_link)

    pub link_word_no_block : (q p : ℕ) → x ≡ link_address shape q + 4 * k → is_crossing shape q ≡ true → overlap x 4 (address_of shape p) 16 ≡ false
    link_word_no_block q p at crossing = search (rules, false_from_ne_true, overlap, address_of, overlap_is, place_and_link)

    pub link_word_no_link :
        (q r : ℕ) → x ≡ link_address shape q + 4 * k → is_crossing shape q ≡ true → is_crossing shape r ≡ true
        → r < q → q < r + place_count shape → overlap x 4 (link_address shape r) 16 ≡ false
    link_word_no_link q r at at_q at_r lower near = search (rules, false_from_ne_true, overlap, link_address, overlap_is, same_link_address, same_crossing_at)
