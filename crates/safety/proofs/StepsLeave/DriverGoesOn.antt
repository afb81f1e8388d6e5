-- A declaration, a write and the opening of a ring leave its pointer where it is
use Rattle.safety.proofs.LowerLaws.{KeepsValues, data_at, data_value, option_and_then, slice_get-append, given_count_declared, ap, ◌≡◌, ◌≤◌, ℕ, List, arith, refl, rules, or_left, Block, Shape, IsShape, RingView, Declares, Writes, Opens, changed, ceiling, given_count, is_step_given, is_way_given, RingKeeps, given_count_same, given_count-declares, given_count-writes, ceiling_within, is_border-push, ceiling_open, RingGoesOn}
use Rattle.safety.proofs.NoHarm.NoWait.{ceiling_held}

pub goes_same : (shape : Shape) (v : RingView) → RingGoesOn shape v v
goes_same shape v = record { floor = refl; ceiling = omega arith; more = record { given = λ p g. g; crossed = λ q c. c }; borders = λ q b. b; held = λ none. none; values = λ q from below. refl }

-- held as before, with no less given
ceiling_more : (shape : Shape) (v x : RingView) → x.held ≡ v.held → given_count shape v ≤ given_count shape x → ceiling shape v ≤ ceiling shape x
ceiling_more shape v x held more = search (rules, ceiling_open, ceiling_held)

pub declares_values : (shape : Shape) → IsShape shape → (memory : ℕ → ℕ) (v : RingView) → RingKeeps shape memory v → (blocks : List Block) → KeepsValues shape v (changed shape v (Declares blocks))
unfolding data_at
declares_values shape is memory v keeps blocks q from below =
    ap (option_and_then data_value) (slice_get-append v.queue blocks q (omega (arith, (ceiling_within shape is memory v keeps).1, given_count_declared shape is memory v keeps)))

pub declares_goes_on : (shape : Shape) → IsShape shape → (memory : ℕ → ℕ) (v : RingView) → RingKeeps shape memory v → (blocks : List Block) → RingGoesOn shape v (changed shape v (Declares blocks))
declares_goes_on shape is memory v keeps blocks = record {
  floor = refl;
  ceiling = search (rules, ceiling_more, given_count-declares);
  more = search rules;
  borders = search (rules, is_border-push);
  held = λ none. none;
  values = declares_values shape is memory v keeps blocks;
}

pub writes_goes_on : (shape : Shape) (v : RingView) (a x : ℕ) → RingGoesOn shape v (changed shape v (Writes a x))
writes_goes_on shape v a x = search (rules, ceiling_more, given_count-writes, or_left)

open_steps : (shape : Shape) (v : RingView) (q : ℕ) → is_step_given shape v q ≡ is_step_given shape (changed shape v Opens) q
unfolding is_step_given is_way_given
open_steps shape v q = refl

pub opens_goes_on : (shape : Shape) → IsShape shape → (memory : ℕ → ℕ) (v : RingView) → RingKeeps shape memory v → RingGoesOn shape v (changed shape v Opens)
opens_goes_on shape is memory v keeps = record {
  floor = refl;
  ceiling = omega (arith, (ceiling_within shape is memory v keeps).1, ceiling_open shape (changed shape v Opens) refl, given_count_same shape v (changed shape v Opens) refl (open_steps shape v));
  more = record { given = λ p g. g; crossed = λ q c. c };
  borders = λ q b. b;
  held = λ none. refl;
  values = λ q from below. refl;
}
