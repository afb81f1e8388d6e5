use Rattle.segments.proofs.Words.{Shape, ◌≡◌, ◌≤◌, ◌*◌, ◌%◌, ◌/◌, ◌+◌, ◌-◌, ◌∙◌, ◌==◌, ℕ, arith, ap, nat_tests}
use Rattle.segments.proofs.Positions.{lap_of-parts}
use Rattle.segments.proofs.ShapeFacts.{shape_facts}
use Rattle.segments.proofs.shape.RingShape.moved_cycle.Goals.{After-from-places}
use Rattle.segments.proofs.shape.RingShape.moved_cycle.Goals as goal

-- there are several places, so that half of any number bounds its laps
several : (c : After-from-places) → 2 ≤ c.from-places.result
several c =
    omega (arith, (shape_facts (record { kind = c.self.inside.kind; segments = c.self.inside.segments.items; offset = c.self.inside.offset }) c.self.invariant.allowed).several, c.self.invariant.count, c.from-places.ensures)

halved : (n p : ℕ) → 2 ≤ n → 2 * (p / n) ≤ p
halved n p several = grind arith

carried : (n p o : ℕ) → 2 ≤ n → (p % n + o % n) / n ≤ 1
carried n p o several = grind arith

even : (n : ℕ) → (n % 2 == 0) ≡ (1 - n % 2 == 1)
even n = grind (arith, nat_tests)

pub overflow_add-laps : goal.overflow_add-laps
overflow_add-laps c = omega (arith, halved _ c.args.position (several c), halved _ c.self.inside.offset (several c))

pub overflow_add-result : goal.overflow_add-result
overflow_add-result c = omega (arith, halved _ c.args.position (several c), halved _ c.self.inside.offset (several c), carried _ c.args.position c.self.inside.offset (several c))

pub returns : goal.returns
returns c =
    let shape : Shape = record { kind = c.self.inside.kind; segments = c.self.inside.segments.items; offset = c.self.inside.offset } in
    rw (← c.self.view_is) (even _ ∙ ap (λ lap. 1 - lap % 2 == 1) (lap_of-parts shape c.self.invariant.allowed c.from-places.result c.args.position (c.from-places.ensures ∙ c.self.invariant.count)))
