-- A declaration keeps the rules of a ring
use Rattle.segments.proofs.LowerLaws.{unwrap_or, ceiling, ◌≡◌, ◌+◌, ◌-◌, ◌<◌, ◌≤◌, ◌∷◌, ◌++◌, ◌∙◌, ℕ, false, List, [], length, sum, Some, slice_get, All, arith, refl, sym, ap, subst, inl, inr, get_or, length-append, ltb-false, cases_lt, slice_get-get_or, slice_get_within, get_or_from_slice_get, get_or_append_left, get_or-append_right, All-push, All-get_or, sum_by_push, Block, kind, is_link, Shape, place_count, IsShape, RingView, Declares, changed, declared, floor_number, is_step_given, is_way_given, given_count, has_no_room, descriptor_length, RingKeeps, MayDeclare, MayHold, given_count_same, whole_more, length_from-push, rules, true, is_not_whole, address_of, cycle_of, ◌%◌}
use Rattle.segments.proofs.Positions.{place_count_pos}

has_room : (shape : Shape) (v : RingView) (n : ℕ) → has_no_room shape v n ≡ false → declared v + n ≤ place_count shape - 1 + floor_number v
unfolding has_no_room
has_room shape v n h = ltb-false (place_count shape - 1 + floor_number v) (declared v + n) h

-- what was declared stays
pub slice_get-append : (xs ys : List Block) (p : ℕ) → p < length xs → slice_get (xs ++ ys) p ≡ slice_get xs p
slice_get-append xs ys p h =
    let none : Block = record { w = [] } in
    slice_get-get_or (xs ++ ys) p none (omega (arith, length-append xs ys)) ∙ ap (λ b. Some b) (get_or_append_left xs ys none p h) ∙ sym (slice_get-get_or xs p none h)

-- what is declared then is what was declared, or is declared now
declared_now : (P : Block → Type 0) (xs ys : List Block) (p : ℕ) (d : Block) → ((p : ℕ) (d : Block) → slice_get xs p ≡ Some d → P d) → All P ys →
    slice_get (xs ++ ys) p ≡ Some d → P d
declared_now P xs ys p d old new at = elim (cases_lt p (length xs)) [
  | inl was ↦ old p d (sym (slice_get-append xs ys p was) ∙ at)
  | inr is ↦
      let there : get_or ys (p - length xs) d ≡ d = sym (get_or-append_right xs ys (length xs) p d refl is) ∙ get_or_from_slice_get (xs ++ ys) p d d at in
      subst P there (All-get_or P ys (p - length xs) d (omega (arith, slice_get_within (xs ++ ys) p d at, length-append xs ys)) new)
]

length_kept : (shape : Shape) (v : RingView) (blocks : List Block) (p : ℕ) → sum v.lengths ≡ declared v → p < declared v →
    descriptor_length (changed shape v (Declares blocks)) p ≡ descriptor_length v p
unfolding descriptor_length
length_kept shape v blocks p all h = length_from-push v.lengths (length blocks) 0 p (omega arith)

steps_kept : (shape : Shape) (v : RingView) (blocks : List Block) (q : ℕ) → is_step_given shape v q ≡ is_step_given shape (changed shape v (Declares blocks)) q
unfolding is_step_given is_way_given
steps_kept shape v blocks q = refl

-- a declaration changes nothing of what is given
pub given_count-declares : (shape : Shape) (v : RingView) (blocks : List Block) → given_count shape v ≡ given_count shape (changed shape v (Declares blocks))
given_count-declares shape v blocks = given_count_same shape v (changed shape v (Declares blocks)) refl (steps_kept shape v blocks)

ceiling-declares : (shape : Shape) (v : RingView) (blocks : List Block) → ceiling shape v ≡ ceiling shape (changed shape v (Declares blocks))
unfolding ceiling
ceiling-declares shape v blocks = ap (λ n. unwrap_or v.held n) (given_count-declares shape v blocks)

pub declares_keeps : (shape : Shape) → IsShape shape → (memory : ℕ → ℕ) (v : RingView) (blocks : List Block) → RingKeeps shape memory v → MayDeclare shape v blocks →
    RingKeeps shape memory (changed shape v (Declares blocks))
declares_keeps shape is memory v blocks k may =
    let more : length (v.queue ++ blocks) ≡ declared v + length blocks = length-append v.queue blocks in
    let within : (p : ℕ) → v.given p ≡ true → p < length (v.queue ++ blocks) = λ p g. omega (arith, more, k.given_declared p g) in
    let kept : (p : ℕ) (d : Block) → v.given p ≡ true → slice_get (v.queue ++ blocks) p ≡ Some d → slice_get v.queue p ≡ Some d = λ p d g at.
    sym (slice_get-append v.queue blocks p (k.given_declared p g)) ∙ at in
    let whole : (p : ℕ) → v.given p ≡ true → is_not_whole shape (changed shape v (Declares blocks)) p ≡ false = λ p g.
    whole_more shape v (changed shape v (Declares blocks)) p (record { given = λ q h. h; crossed = λ q h. h }) (length_kept shape v blocks p k.descriptors (k.given_declared p g)) (k.whole p g) in
    let sums : sum (v.lengths ++ length blocks ∷ []) ≡ length (v.queue ++ blocks) =
    sum_by_push (λ n. n) v.lengths (length blocks) ∙ ap (λ n. n + length blocks) k.descriptors ∙ sym more in
    let held_by : (m : ℕ) → v.held ≡ Some m → MayHold shape (changed shape v (Declares blocks)) m = λ m at.
    record { from = (k.held m at).from; to = omega (arith, (k.held m at).to, given_count-declares shape v blocks) } in
    let shows : (p : ℕ) → floor_number v ≤ p → p < ceiling shape (changed shape v (Declares blocks)) → v.free p ≡ true → memory (address_of shape p + 12) % 2 ≡ cycle_of shape p =
    λ p low high free. k.free_shows p low (omega (arith, ceiling-declares shape v blocks)) free in
    search (rules, k, has_room shape v (length blocks) may.room, place_count_pos shape is, more, within, kept, whole, sums, All-push (λ n. 0 < n) v.lengths (length blocks) k.lengths may.some, declared_now (λ b. is_link (kind b) ≡ false) v.queue blocks, may, held_by, k.kept, shows)
