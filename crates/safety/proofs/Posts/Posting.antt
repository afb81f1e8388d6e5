-- An event that is posted: it lies behind the unread ones, and nothing else that the driver or the controller did changes
use Rattle.safety.proofs.Words.{[], ◌≡◌, ◌≢◌, ◌+◌, ◌%◌, ◌<◌, ◌∷◌, ◌∙◌, ℕ, true, List, length, nat_lt, slice_index, arith, refl, sym, ap, inr, add-zero, ltb-true, eqb-true, and_parts, Block, IsBlock, block_at, cycle, word, place_count, address_of, cycle_of, is_inside, address_aligned, same_place_of, address_inside, touches-word, has_room, Header, event_shape, event_size, input_context_bytes, World, stored, stored_block, can_post, Known, DriverKeeps, Stands, touches_events, Matches, rules, same_in_lap_of}
use Rattle.safety.proofs.HeaderRings.Headers.{EventRing}
use Rattle.safety.proofs.StepsLeave.Stored.{Late, IsInNoContext, late_stored, matches_stored, stands_stored, memory_stored, memory_here}
use Rattle.safety.proofs.Posts.Areas.{byte_apart, context_lies, ring_untouched}

-- ---- four words

pub four_of : (l : List ℕ) → length l ≡ 4 → slice_index l 0 ∷ slice_index l 1 ∷ slice_index l 2 ∷ slice_index l 3 ∷ [] ≡ l
four_of (a ∷ b ∷ c ∷ d ∷ []) h = refl
four_of _ h = absurd (omega arith)

-- a block's words, and no others, are written where it is stored
pub block_elsewhere : (w : World) (a x : ℕ) (b : Block) → ((j : ℕ) → j < 16 → x ≢ a + j) → (stored_block w a b).memory x ≡ w.memory x
unfolding stored_block
block_elsewhere w a x b apart =
    memory_stored _ (a + 12) (word b 3) x (apart 12 (omega arith)) ∙ memory_stored _ (a + 8) (word b 2) x (apart 8 (omega arith))
    ∙ memory_stored _ (a + 4) (word b 1) x (apart 4 (omega arith)) ∙ memory_stored w a (word b 0) x (λ e. apart 0 (omega arith) (e ∙ sym (add-zero a)))

pub block_here : (w : World) (a : ℕ) (b : Block) → IsBlock b → block_at (stored_block w a b).memory a ≡ b
unfolding stored_block
block_here w a b is = search (rules, word, memory_stored, memory_here, four_of, b.w)

-- ---- where it may be posted

pub record CanPost (h : Header) (w : World) (b : Block) : Type 0 where
  pub size : 0 < event_size h
  pub started : w.started ≡ true
  pub room : has_room (event_size h) w.posted w.dequeue ≡ true
  pub cycle_is : cycle b ≡ cycle_of (event_shape h) w.posted

pub can_post_is : (h : Header) (w : World) (b : Block) → can_post h w b ≡ true → CanPost h w b
unfolding can_post
can_post_is h w b can =
    search (rules, and_parts, nat_lt, event_size, has_room, w.posted, cycle, cycle_of, event_shape, w.started, ltb-true, eqb-true)

pub size_is : (h : Header) → event_size h ≡ place_count (event_shape h)
unfolding event_size
size_is h = refl

module _ (h : Header) (e : EventRing h) where
  event_word : (p j : ℕ) → j < 16 → j % 4 ≡ 0 → touches_events h (address_of (event_shape h) p + j) ≡ true
  event_word p j low word =
      let aligned = address_aligned (event_shape h) e.is p in
      touches-word (event_shape h) e.is (address_of (event_shape h) p + j) (omega arith) ∙ address_inside (event_shape h) e.is p j low

  event_in_no_context : (k : Known) → DriverKeeps h k → (p j : ℕ) → j < 16 → IsInNoContext h k (address_of (event_shape h) p + j)
  event_in_no_context k d p j low q n i c u is l same =
      byte_apart e.ring.shape n (input_context_bytes h.context_size) (address_of (event_shape h) p + j)
      (ring_untouched h n (input_context_bytes h.context_size) (context_lies h k d q n c u is).rings e.ring e.at)
      (ap (λ s. is_inside s (address_of (event_shape h) p + j)) (sym e.shape) ∙ address_inside (event_shape h) e.is p j low)
      (omega arith) (omega arith)

  -- two positions less than a lap apart have no byte in common
  pub places_apart : (p q i j : ℕ) → p < q → q < p + place_count (event_shape h) → i < 16 → j < 16 → address_of (event_shape h) p + i ≢ address_of (event_shape h) q + j
  places_apart p q i j less near hi hj same = search (rules, same_place_of, event_shape, e.is, same_in_lap_of, place_count)

  module _ (k : Known) (d : DriverKeeps h k) (w : World) (p : ℕ) (b : Block) where
    pub stands_block : Stands h k w → Stands h k (stored_block w (address_of (event_shape h) p) b)
    unfolding stored_block
    stands_block s =
        let a : ℕ = address_of (event_shape h) p in
        stands_stored h k _ (a + 12) (word b 3) (inr (event_word p 12 (omega arith) refl))
        (stands_stored h k _ (a + 8) (word b 2) (inr (event_word p 8 (omega arith) refl))
        (stands_stored h k _ (a + 4) (word b 1) (inr (event_word p 4 (omega arith) refl))
        (stands_stored h k w a (word b 0) (inr (ap (λ x. touches_events h x) (sym (add-zero a)) ∙ event_word p 0 (omega arith) refl)) s)))

    pub late_block : Late w → Late (stored_block w (address_of (event_shape h) p) b)
    unfolding stored_block
    late_block late = search (rules, late_stored)

    pub matches_block : Late w → Matches h k w → Matches h k (stored_block w (address_of (event_shape h) p) b)
    unfolding stored_block
    matches_block late m =
        let a : ℕ = address_of (event_shape h) p in
        let l1 = late_stored h w a (word b 0) late in
        let l2 = late_stored h (stored w a (word b 0)) (a + 4) (word b 1) l1 in
        matches_stored h k _ (a + 12) (word b 3) (late_stored h (stored (stored w a (word b 0)) (a + 4) (word b 1)) (a + 8) (word b 2) l2) (event_in_no_context k d p 12 (omega arith))
        (matches_stored h k _ (a + 8) (word b 2) l2 (event_in_no_context k d p 8 (omega arith))
        (matches_stored h k _ (a + 4) (word b 1) l1 (event_in_no_context k d p 4 (omega arith))
        (matches_stored h k w a (word b 0) late (λ q n i c u is l same. event_in_no_context k d p 0 (omega arith) q n i c u is l (same ∙ sym (add-zero a))) m)))
