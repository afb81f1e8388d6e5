-- The input context of a command that is given stands in the world as the driver wrote it: its success does what is known
use Rattle.safety.proofs.Words.{Types, typed_by_context, has_isochronous, ltb-true, fun_ext, ◌≡◌, ◌+◌, ◌*◌, ◌/◌, ◌<◌, ◌≤◌, ◌&&◌, ◌∷◌, ◌∙◌, ℕ, suc, zero, Bool, false, List, [], map, filter, nat_le, All, arith, refl, sym, ap, inl, inr, range_with_len, cases_eq, All-nil, All-cons, All-head, All-tail, All-filter, AddressDevice, ConfigureEndpoint, SlotGoesOn, Disables, changes, placed_by_context, ContextSize, Bytes32, Bytes64, input_context_bytes, has_flag, input_add_flag, input_endpoint, added_endpoints, is_dropped, Header, IsHeader, event_size, touches_ring, World, Known, Stands, touches_events, rules, touches}
use Rattle.safety.proofs.HeaderRings.Headers.{EventRing, event_ring_is, no_events}
use Rattle.safety.proofs.Posts.Areas.{ContextLies, clean_word, part_apart, ring_untouched}

-- ---- one word

untouched : (h : Header) → IsHeader h → (from len x : ℕ) → touches_ring h from len ≡ false → from ≤ x → x + 4 ≤ from + len → touches_events h x ≡ false
untouched h is from len x none low high =
    elim (cases_eq (event_size h) 0) [
      | inl empty ↦ no_events h is empty x
      | inr some ↦
          let e : EventRing h = event_ring_is h is (omega arith) in
          ap (λ s. touches s x 4) e.shape ∙ part_apart e.ring.shape from len x 4 (ring_untouched h from len none e.ring e.at) low high
    ]

-- two memories have the same words of an input context
abbrev pub SameContext : ContextSize → (ℕ → ℕ) → (ℕ → ℕ) → ℕ → Type 0
SameContext size f g n = (i : ℕ) → i < input_context_bytes size / 4 → f (n + 4 * i) ≡ g (n + 4 * i)

pub same_context : (h : Header) → IsHeader h → (k : Known) (w : World) (n : ℕ) → Stands h k w → ContextLies h k n → SameContext h.context_size w.memory k.memory n
same_context h is k w n s lies i l =
    search (rules, h.context_size, s.quiet, clean_word, input_context_bytes, lies.clean, untouched, lies.rings)

-- ---- what the context says

at_word : (f g : ℕ → ℕ) (n a j : ℕ) → a ≡ n + 4 * j → f (n + 4 * j) ≡ g (n + 4 * j) → f a ≡ g a
at_word f g n a j at same = ap f at ∙ same ∙ ap g (sym at)

-- words 2 and 3 of an endpoint's context
pointer_words : (size : ContextSize) (f g : ℕ → ℕ) (n i : ℕ) → SameContext size f g n → i < 32 →
    (f (input_endpoint size n i + 8) ≡ g (input_endpoint size n i + 8)) × (f (input_endpoint size n i + 8 + 4) ≡ g (input_endpoint size n i + 8 + 4))
pointer_words Bytes32 f g n i same low = (
  at_word f g n (n + (i + 1) * 32 + 8) ((i + 1) * 8 + 2) (omega arith) (same ((i + 1) * 8 + 2) (omega arith)),
  at_word f g n (n + (i + 1) * 32 + 8 + 4) ((i + 1) * 8 + 3) (omega arith) (same ((i + 1) * 8 + 3) (omega arith)),
)
pointer_words Bytes64 f g n i same low = (
  at_word f g n (n + (i + 1) * 64 + 8) ((i + 1) * 16 + 2) (omega arith) (same ((i + 1) * 16 + 2) (omega arith)),
  at_word f g n (n + (i + 1) * 64 + 8 + 4) ((i + 1) * 16 + 3) (omega arith) (same ((i + 1) * 16 + 3) (omega arith)),
)

first_words : (size : ContextSize) (f g : ℕ → ℕ) (n : ℕ) → SameContext size f g n → (f n ≡ g n) × (f (n + 4) ≡ g (n + 4))
first_words Bytes32 f g n same = (at_word f g n n 0 (omega arith) (same 0 (omega arith)), at_word f g n (n + 4) 1 (omega arith) (same 1 (omega arith)))
first_words Bytes64 f g n same = (at_word f g n n 0 (omega arith) (same 0 (omega arith)), at_word f g n (n + 4) 1 (omega arith) (same 1 (omega arith)))

-- word 1 of an endpoint's context
type_word : (size : ContextSize) (f g : ℕ → ℕ) (n i : ℕ) → SameContext size f g n → i < 32 → f (input_endpoint size n i + 4) ≡ g (input_endpoint size n i + 4)
type_word Bytes32 f g n i same low = at_word f g n (n + (i + 1) * 32 + 4) ((i + 1) * 8 + 1) (omega arith) (same ((i + 1) * 8 + 1) (omega arith))
type_word Bytes64 f g n i same low = at_word f g n (n + (i + 1) * 64 + 4) ((i + 1) * 16 + 1) (omega arith) (same ((i + 1) * 16 + 1) (omega arith))

module _ (size : ContextSize) (f g : ℕ → ℕ) (s n : ℕ) (same : SameContext size f g n) where
  isochronous_same : (i : ℕ) → has_isochronous size f n i ≡ has_isochronous size g n i
  isochronous_same i = grind (arith, type_word size f g n i same, ltb-true)

  pub types_same : typed_by_context size f s n ≡ typed_by_context size g s n
  types_same =
      ap (λ x. Types s (λ i. has_flag x i) (has_isochronous size f n)) (first_words size f g n same).1
      ∙ ap (λ t. Types s (input_add_flag g n) t) (fun_ext isochronous_same)

  pub place_same : (i : ℕ) → i < 32 → placed_by_context size f s n i ≡ placed_by_context size g s n i
  place_same i low = grind (arith, pointer_words, pointer_words size f g n i same low)

  places_same : (xs : List ℕ) → All (λ i. i < 32) xs → map (placed_by_context size f s n) xs ≡ map (placed_by_context size g s n) xs
  places_same [] low = refl
  places_same (i ∷ rest) low = search (rules, place_same, All-head, places_same rest (All-tail (λ i. i < 32) i rest low))

range_below : (most a n : ℕ) → a + n ≤ most → All (λ i. i < most) (range_with_len a n)
range_below most a zero high = All-nil (λ i. i < most)
range_below most a (suc n) high = All-cons (λ i. i < most) a (range_with_len (a + 1) n) (omega arith) (range_below most (a + 1) n (omega arith))

-- the endpoints that a context adds have indices below 32
pub added_below : (memory : ℕ → ℕ) (n : ℕ) → All (λ i. i < 32) (added_endpoints memory n)
unfolding added_endpoints
added_below memory n = All-filter (input_add_flag memory n) (λ i. i < 32) (range_with_len 2 30) (range_below 32 2 30 (omega arith))

added_same : (size : ContextSize) (f g : ℕ → ℕ) (n : ℕ) → SameContext size f g n → added_endpoints f n ≡ added_endpoints g n
unfolding added_endpoints
added_same size f g n same = ap (λ x. filter (λ i. has_flag x i) (range_with_len 2 30)) (first_words size f g n same).1

-- ---- what a success does

pub address_same : (size : ContextSize) (f g : ℕ → ℕ) (m s n : ℕ) (bsr : Bool) → SameContext size f g n → changes size f m (AddressDevice s bsr n) ≡ changes size g m (AddressDevice s bsr n)
unfolding changes
address_same size f g m s n bsr same = ap (λ x. SlotGoesOn s ∷ x ∷ []) (place_same size f g s n same 1 (omega arith))

pub configure_same : (size : ContextSize) (f g : ℕ → ℕ) (m s n : ℕ) → SameContext size f g n → changes size f m (ConfigureEndpoint s false n) ≡ changes size g m (ConfigureEndpoint s false n)
unfolding changes
configure_same size f g m s n same =
    ap (λ t. SlotGoesOn s ∷ t ∷ Disables s (is_dropped f n) ∷ map (placed_by_context size f s n) (added_endpoints f n)) (types_same size f g s n same)
    ∙ ap (λ x. SlotGoesOn s ∷ typed_by_context size g s n ∷ Disables s (λ i. nat_le 2 i && has_flag x i) ∷ map (placed_by_context size f s n) (added_endpoints f n)) (first_words size f g n same).0
    ∙ ap (λ xs. SlotGoesOn s ∷ typed_by_context size g s n ∷ Disables s (is_dropped g n) ∷ map (placed_by_context size f s n) xs) (added_same size f g n same)
    ∙ ap (λ xs. SlotGoesOn s ∷ typed_by_context size g s n ∷ Disables s (is_dropped g n) ∷ xs) (places_same size f g s n same (added_endpoints g n) (added_below g n))
