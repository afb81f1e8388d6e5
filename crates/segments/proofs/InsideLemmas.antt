-- Bytes and words inside a ring's segments, and rings that are apart
use Rattle.segments.proofs.MiddleLaws.{◌≡◌, ◌-◌, ◌*◌, ◌%◌, ◌<◌, ◌||◌, ◌∷◌, ◌∙◌, ℕ, suc, Bool, true, false, List, [], length, is_some, arith, ap, refl, get_or, list_any, cases_Bool, false≢true, or_parts, nat_tests, Shape, overlap, segment_has, is_in, is_inside, touches, place_at, IsShape, segments_overlap, rings_overlap, rules, segment_at, shape_facts, cases_option}
use Rattle.segments.proofs.PlaceAtLemmas.{place_at-inside, is_inside-place_at}

same_any : {X : Type 0} (p q : X → Bool) (xs : List X) (d : X) → ((k : ℕ) → k < length xs → p (get_or xs k d) ≡ q (get_or xs k d)) → list_any p xs ≡ list_any q xs
same_any p q [] d same = refl
same_any p q (x ∷ xs) d same = cc (ap (λ b. b || list_any p xs) (same 0 (omega arith)), ap (λ b. q x || b) (same_any p q xs d (λ k h. same (suc k) (omega arith))))

word_in : (x a n : ℕ) → a % 16 ≡ 0 → overlap (x - x % 4) 4 a (16 * n) ≡ is_in x a (16 * n)
word_in x a n low = grind (arith, nat_tests, low)

-- a segment has one of a word's bytes where it has any of them
pub touches-word_of : (shape : Shape) → IsShape shape → (x : ℕ) → touches shape (x - x % 4) 4 ≡ is_inside shape x
touches-word_of shape is x =
    same_any (λ s. overlap (x - x % 4) 4 s.base (16 * s.count)) (segment_has x) shape.segments (record { base = 0; count = 0 })
    (λ k h. word_in x (segment_at shape.segments k).base (segment_at shape.segments k).count ((shape_facts shape is).each k h).aligned)

pub touches-word : (shape : Shape) → IsShape shape → (x : ℕ) → x % 4 ≡ 0 → touches shape x 4 ≡ is_inside shape x
touches-word shape is x word = ap (λ from. touches shape from 4) (omega (arith, word)) ∙ touches-word_of shape is x

-- a word is inside where it is one of a data place or a Link
pub is_inside-word : (shape : Shape) → IsShape shape → (x : ℕ) → x % 4 ≡ 0 → is_inside shape x ≡ is_some (place_at shape x)
is_inside-word shape is x word = search (rules, is_some, place_at-inside, cases_option, false≢true, is_inside-place_at)

in_any : {X : Type 0} (p : X → Bool) (xs : List X) → list_any p xs ≡ true → (q : X → Bool) → list_any q xs ≡ false → (x : X) × (p x ≡ true) × (q x ≡ false)
in_any p [] h q none = absurd (false≢true h)
in_any p (x ∷ xs) h q none = search (rules, cases_Bool, or_parts, list_any, in_any p xs)

-- then no byte is inside both
pub rings_apart : (a b : Shape) (x : ℕ) → rings_overlap a b ≡ false → is_inside a x ≡ true → is_inside b x ≡ true → ⊥
rings_apart a b x apart ina inb = search (rules, in_any, segment_has, list_any, segments_overlap, false≢true)
