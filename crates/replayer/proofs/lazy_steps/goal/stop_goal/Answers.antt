use Rattle.replayer.proofs.Words.{refl, ◌≡◌, ◌+◌, ◌==◌, true, false, arith, nat_tests, number, RingSpot, stop_goal}
use Rattle.replayer.specs.LazySteps.Goals.{place_of}
use Rattle.replayer.proofs.lazy_steps.goal.stop_goal.Goals.{else-need-gt0-via-then-need-gt0+else-need-number, else-need-gt0-via-else-need-gt0}
use Rattle.replayer.proofs.lazy_steps.goal.stop_goal.Goals as goal

pub returns-then-need-number : goal.returns-then-need-number
unfolding stop_goal
returns-then-need-number c =
    let at : RingSpot = place_of c.args.at in
    let one_behind : c.args.need ≡ number at.spot + 1 = omega (arith, c.if-need-number.true, c.number.ensures) in
    let it : (c.args.need == number at.spot + 1) ≡ true = grind (arith, nat_tests) in
    rw it c.taken_up_to.ensures

pub returns-else-need-gt0 : goal.returns-else-need-gt0
unfolding stop_goal
returns-else-need-gt0 c =
    let at : RingSpot = place_of c.args.at in
    let other : (c.args.need == number at.spot + 1) ≡ false = elim c.else-need-gt0.branch [
      | else-need-gt0-via-then-need-gt0+else-need-number w ↦ grind (arith, nat_tests, w.if-need-gt0.true, w.if-need-number.false, w.number.ensures)
      | else-need-gt0-via-else-need-gt0 w ↦ grind (arith, nat_tests, w.if-need-gt0.false)
    ] in
    rw other refl
