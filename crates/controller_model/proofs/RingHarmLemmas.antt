-- What a step at one ring does to the rings' harms
use Rattle.controller_model.proofs.MiddleLaws.{Scene, step_made, ◌≡◌, ◌≢◌, ◌==◌, ◌&&◌, ◌||◌, ◌∙◌, if◌then◌else◌, ◌∷◌, ℕ, zero, suc, not, Bool, true, false, List, [], Option, Some, None, option_map, ap, sym, subst, refl, inl, inr, IsSome, find, eq-eqb, arith, list_any, slice_get, cases_Bool, cases_eq, cond-false, cond-true, cond_both, Block, block_at, cycle, Header, command_id, Ring, Look, ring_with, shape_of, some_ring, World, has_other_words, is_inside_descriptor, is_out_of_order, waits, RingHarms, command_begun, crossed, looked, looked_at, seen_by_look, taken, taken_on, counted, made, stepped, until_halted, while_running, same_Some, RingHeld, ring_held, ChangesOnly, HasRingHarms, may_be_inside, with_world, none_any, crossed_other, taken_other}

first_false : (a b : Bool) → (a || b) ≡ false → a ≡ false
first_false a b e = grind arith

pub second_false : (a b : Bool) → (a || b) ≡ false → b ≡ false
second_false a b e = grind arith

-- whether an active ring waits inside a descriptor, by what the world has of it
abbrev waits_so : (ℕ → ℕ) → RingHeld → Bool
waits_so m x = (x.is_active && not (cycle (block_at m x.pointer) == x.cycle)) && is_inside_descriptor x.events

-- a test of each ring of a list
each_none : (p : Ring → Bool) (rings : List Ring) (i : ℕ) (q : Ring) → list_any p rings ≡ false → slice_get rings i ≡ Some q → p q ≡ false
each_none p [] i q none at = absurd (cc)
each_none p (y ∷ ys) zero q none at = grind (arith, same_Some)
each_none p (y ∷ ys) (suc i) q none at = each_none p ys i q (second_false (p y) _ none) at

there : (rings : List Ring) (i : ℕ) (q : Ring) → slice_get rings i ≡ Some q → IsSome (find (λ ring. ring.id == q.id) rings)
there [] i q at = absurd (cc)
there (y ∷ ys) zero q at = grind (arith, cond-true, eq-eqb, same_Some)
there (y ∷ ys) (suc i) q at = grind (arith, cond-true, cond-false, there ys i q at)

-- one ring alone was looked at, and shows no harm where it is there; there was none before
module _ (h : Header) (w v : World) (r : ℕ) (x y : RingHarms) (f : HasRingHarms h w x) (only : ChangesOnly r w v) where
  no_other : (p q : ℕ → Bool) → list_any (λ ring. p ring.id) h.rings ≡ false → ((n : ℕ) → n ≢ r → q n ≡ p n) → (IsSome (ring_with h r) → q r ≡ false) →
      list_any (λ ring. q ring.id) h.rings ≡ false
  no_other p q none others here = none_any (λ ring. q ring.id) h.rings (λ i ring at. elim (cases_eq ring.id r) [
    | inl same ↦ subst (λ (n : ℕ). IsSome (ring_with h n) → q n ≡ false) (sym same) here (there h.rings i ring at)
    | inr apart ↦ others ring.id apart ∙ each_none (λ ring. p ring.id) h.rings i ring none at
  ])

  pub harms_looked : (x.out_of_order || (x.other_words || x.waits_inside)) ≡ false → (IsSome (ring_with h r) → is_out_of_order (shape_of h r) (v.events r) ≡ false) →
      (IsSome (ring_with h r) → has_other_words (shape_of h r) (v.events r) ≡ false) → (waits v r && is_inside_descriptor (v.events r)) ≡ false →
      y.out_of_order ≡ x.out_of_order → y.other_words ≡ x.other_words → y.waits_inside ≡ x.waits_inside →
      (is_inside_descriptor (v.events r) ≡ true → may_be_inside y.inside r ≡ true) → ((q : ℕ) → q ≢ r → may_be_inside x.inside q ≡ true → may_be_inside y.inside q ≡ true) → HasRingHarms h v y
  unfolding some_ring waits
  harms_looked none order words waiting same_order same_words same_waiting here others =
      let first = first_false x.out_of_order (x.other_words || x.waits_inside) none in
      let rest = second_false x.out_of_order (x.other_words || x.waits_inside) none in
      let second = first_false x.other_words x.waits_inside rest in
      let third = second_false x.other_words x.waits_inside rest in
      record {
        order = same_order ∙ first ∙ sym (no_other (λ q. is_out_of_order (shape_of h q) (w.events q)) (λ q. is_out_of_order (shape_of h q) (v.events q)) (sym f.order ∙ first)
            (λ q apart. ap (λ held. is_out_of_order (shape_of h q) held.events) (only.others q apart)) order);
        words = same_words ∙ second ∙ sym (no_other (λ q. has_other_words (shape_of h q) (w.events q)) (λ q. has_other_words (shape_of h q) (v.events q)) (sym f.words ∙ second)
            (λ q apart. ap (λ held. has_other_words (shape_of h q) held.events) (only.others q apart)) words);
        waiting = same_waiting ∙ third ∙ sym (no_other (λ q. waits_so w.memory (ring_held w q)) (λ q. waits_so v.memory (ring_held v q)) (sym f.waiting ∙ third)
            (λ q apart i. waits_so (only.memory i) (only.others q apart i)) (λ known. waiting));
        inside = λ i ring at is. elim (cases_eq ring.id r) [
          | inl same ↦ subst (λ (n : ℕ). is_inside_descriptor (v.events n) ≡ true → may_be_inside y.inside n ≡ true) (sym same) here is
          | inr apart ↦ others ring.id apart (f.inside i ring at (sym (ap (λ held. is_inside_descriptor held.events) (only.others ring.id apart)) ∙ is))
        ];
      }

-- a step at ring r that leaves it active
abbrev pub IsAt : ℕ → World → World → Type 0
IsAt r w v = ChangesOnly r w v × (v.is_active r ≡ true)

module _ (h live : Header) (w : World) (r : ℕ) (active : w.is_active r ≡ true) where
  waiting_at : IsAt r w (seen_by_look live w r)
  unfolding seen_by_look
  waiting_at = (record { memory = refl; others = λ q apart. refl }, active)

  crossing_at : (b : Block) → IsAt r w (crossed h (seen_by_look live w r) r b)
  unfolding seen_by_look crossed
  crossing_at b = (record { memory = refl; others = λ q apart. crossed_other h (seen_by_look live w r) r b q apart }, active)

  taking_on_at : (b : Block) → IsAt r w (taken_on h (seen_by_look live w r) r b)
  unfolding seen_by_look taken_on
  taking_on_at b = (record { memory = refl; others = λ q apart. taken_other h (seen_by_look live w r) r b q apart }, active)

  begun_at : (u : World) (a : ℕ) (b : Block) → IsAt r w u → IsAt r w (command_begun h u a b)
  unfolding command_begun
  begun_at u a b f = (record { memory = f.0.memory; others = f.0.others }, f.1)

  taking_at : (b : Block) → IsAt r w (taken h (seen_by_look live w r) r b)
  unfolding taken
  taking_at b = cond_both (r == command_id h) _ _ (IsAt r w) (λ e. begun_at _ _ b (taking_on_at b)) (λ e. taking_on_at b)

  at_some : (u v : World) → IsAt r w u → Some u ≡ Some v → IsAt r w v
  at_some u v f e = subst (IsAt r w) (same_Some u v e) f

  looked_at_is : (b : Block) (v : World) → looked_at h live w r b ≡ Some v → IsAt r w v
  unfolding looked_at
  looked_at_is b v e = grind (arith, at_some, waiting_at, crossing_at, taking_at)

pub looked_is : (h live : Header) (w v : World) (r : ℕ) → looked h live w r ≡ Some v → IsAt r w v
unfolding looked
looked_is h live w v r e = elim (cases_Bool (w.is_active r)) [
  | inl active ↦ looked_at_is h live w r active (block_at w.memory (w.pointer_of r)) v (rw active at e)
  | inr idle ↦ let none = rw idle at e in absurd (cc)
]

-- a step that is possible was made, and counted
counts : (h : Header) (P : World → Type 0) → ((u : World) → P u → P (counted h u)) → (halted stopped : Bool) (o : Option World) (v : World) → ((u : World) → o ≡ Some u → P u) →
    option_map (counted h) (if halted then None else if stopped then None else o) ≡ Some v → P v
counts h P more halted stopped o v each e = grind (arith, option_map)

counted_at : (h : Header) (r : ℕ) (w u : World) → IsAt r w u → IsAt r w (counted h u)
unfolding counted
counted_at h r w u f = (record { memory = f.0.memory; others = f.0.others }, f.1)

pub look_is : (h live : Header) (w v : World) (r : ℕ) → stepped h live w (Look r) ≡ Some v → IsAt r w v
unfolding stepped made until_halted while_running
look_is h live w v r e = counts h (IsAt r w) (counted_at h r w) w.halted w.stopped (looked h live w r) v (λ u made. looked_is h live w u r made) e

-- what a step of the controller leads to
pub came_from : (x : Scene) (o : Option World) (y : Scene) →
    option_map (λ w. with_world x (counted x.header w)) o ≡ Some y →
    (y.header ≡ x.header) × (option_map (counted x.header) o ≡ Some y.world)
came_from x o y e = grind (arith, same_Some)

pub look_came : (x y : Scene) (r : ℕ) → step_made x (Look r) ≡ Some y → (y.header ≡ x.header) × (stepped x.header x.live x.world (Look r) ≡ Some y.world)
unfolding stepped
look_came x y r e = came_from x (made x.header x.live x.world (Look r)) y e
