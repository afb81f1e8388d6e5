-- Which rings may stand together, ring by ring, and what their shapes say of their lines
use Rattle.trace_reader.proofs.LowerLaws.{common_steps, rules, ◌≡◌, ◌+◌, ◌*◌, ◌<◌, ◌≤◌, ◌==◌, ◌&&◌, ◌||◌, ◌∷◌, ◌++◌, ◌∙◌, ℕ, Bool, true, false, not, List, [], length, nat_lt, All, refl, ap, arith, append_assoc, list_any, and_parts, and_from, not-true, or_parts, list_any-append, AllPass-from_list_all, All-weaker, overlap, is_shape, Segment, clash, is_command_kind, is_event_kind, may_stand_together, Ring, FitsSegment}
use Rattle.segments.specs.ShapeValue.{Shape}
use Rattle.trace_reader.proofs.SpelledSaid.{FitsRing}

-- ---- a clash is one of both rings

and_swaps : (a b : Bool) → (a && b) ≡ (b && a)
and_swaps a b = search rules

module _ {A : Type 0} where
  any_of_none : (f : A → A → Bool) (xs : List A) → list_any (λ x. list_any (f x) []) xs ≡ false
  any_of_none f [] = refl
  any_of_none f (x ∷ xs) = any_of_none f xs

  any_of_more : (f : A → A → Bool) (xs : List A) (y : A) (ys : List A) → list_any (λ x. list_any (f x) (y ∷ ys)) xs ≡ (list_any (λ x. f x y) xs || list_any (λ x. list_any (f x) ys) xs)
  any_of_more f [] y ys = refl
  any_of_more f (x ∷ xs) y ys = grind (arith, Bool, any_of_more f xs y ys)

  any_turns : (f g : A → A → Bool) → ((x y : A) → f x y ≡ g y x) → (xs ys : List A) → list_any (λ x. list_any (f x) ys) xs ≡ list_any (λ y. list_any (g y) xs) ys
  any_turns f g turns xs [] = any_of_none f xs
  any_turns f g turns xs (y ∷ ys) =
      any_of_more f xs y ys ∙ ap (λ (b : Bool). b || list_any (λ x. list_any (f x) ys) xs) (search rules)
      ∙ ap (λ (b : Bool). list_any (g y) xs || b) (any_turns f g turns xs ys)

eqb_turns : (a b : ℕ) → (a == b) ≡ (b == a)
eqb_turns a b = search rules

touches_turn : (s t : Segment) → overlap s.base (16 * s.count) t.base (16 * t.count) ≡ overlap t.base (16 * t.count) s.base (16 * s.count)
touches_turn s t = and_swaps (nat_lt s.base (t.base + 16 * t.count)) (nat_lt t.base (s.base + 16 * s.count))

pub clash_turns : (r q : Ring) → clash r q ≡ clash q r
clash_turns r q =
    let touch = any_turns (λ s t. overlap s.base (16 * s.count) t.base (16 * t.count)) (λ s t. overlap s.base (16 * s.count) t.base (16 * t.count)) touches_turn r.shape.segments q.shape.segments in
    rw (eqb_turns r.id q.id, touch, and_swaps (is_command_kind r.shape.kind) (is_command_kind q.shape.kind), and_swaps (is_event_kind r.shape.kind) (is_event_kind q.shape.kind)) refl

-- ---- one ring more

pub together_push : (rings : List Ring) (ring : Ring) → may_stand_together (rings ++ ring ∷ []) ≡ (may_stand_together rings && not (list_any (clash ring) rings))
together_push [] ring = refl
together_push (r ∷ rest) ring = search (rules, list_any-append, clash_turns, together_push rest ring)

pub together_front : (rings more : List Ring) → may_stand_together (rings ++ more) ≡ true → may_stand_together rings ≡ true
together_front [] more together = refl
together_front (r ∷ rest) more together =
    let parts = and_parts (not (list_any (clash r) (rest ++ more))) (may_stand_together (rest ++ more)) together in
    grind (arith, or_parts, list_any-append, not-true, and_from, together_front rest more parts.1)

-- a ring that clashes with none of the rings may stand behind them
pub together_with : (rings : List Ring) (ring : Ring) → may_stand_together rings ≡ true → list_any (clash ring) rings ≡ false → may_stand_together (rings ++ ring ∷ []) ≡ true
together_with rings ring together none = rw (together_push rings ring, together, none) refl

-- a ring among rings that may stand together clashes with none of those before it
pub no_clash : (rings : List Ring) (ring : Ring) (more : List Ring) → may_stand_together (rings ++ ring ∷ more) ≡ true → list_any (clash ring) rings ≡ false
no_clash rings ring more together = grind (arith, together_front, append_assoc, not-true, and_parts, together_push, together_front (rings ++ ring ∷ []) more (rw (append_assoc rings (ring ∷ []) more) together))

-- ---- what an allowed shape says of the ring's line

pub record ShapeSays (shape : Shape) : Type 0 where
  pub few : length shape.segments ≤ 64
  pub some : 0 < length shape.segments
  pub fit : All FitsSegment shape.segments

pub shape_says : (shape : Shape) → is_shape shape ≡ true → ShapeSays shape
shape_says shape is = grind (arith, common_steps, All-weaker, AllPass-from_list_all)

pub ring_fits : (ring : Ring) → ring.id < 256 → is_shape ring.shape ≡ true → ring.shape.offset ≡ 0 → FitsRing ring
ring_fits ring small is unmoved = search (rules, shape_says)
