use Rattle.replayer.proofs.MiddleLaws.{◌≡◌, ◌<◌, arith, is_some, true, false, rules, err_from_is_err_and, Dropped, blocks_of_ring, HasMade, step_is_some, step_is_none, step_unmade, unmade, late_end, late_failed, late_more, late_posted, late_unseen}
use Rattle.replayer.proofs.scheduler.attempt.Attempt.make_behind_looks.Goals as goal

pub returns-in_err-attempt : goal.returns-in_err-attempt
returns-in_err-attempt c m has =
    let p = err_from_is_err_and c.from_residual.result c.from_residual.ensures.1 in
    let k = c.loop-looks.invariant m has in
    let below : c.loop-looks._looks < blocks_of_ring c.args.ring.now = omega (arith, c.loop-looks-test.true, c.places.ensures.count, c.links.ensures) in
    rw (p.1, p.2) (late_failed m k.0 c.args.step c.args.ring.now.id _ c.loop-looks._looks below k.2 c.in_err-attempt.field-0.0 _ _ (c.in_err-attempt.ensures k.0 k.1))

pub returns-then-is_some : goal.returns-then-is_some
returns-then-is_some c m has =
    let k = c.loop-looks.invariant m has in
    let below : c.loop-looks._looks < blocks_of_ring c.args.ring.now = omega (arith, c.loop-looks-test.true, c.places.ensures.count, c.links.ensures) in
    let some : is_some c.in_ok-attempt.field-0 ≡ true = search rules in
    late_posted m k.0 c.args.step c.args.ring.now.id _ c.loop-looks._looks below k.2 _ c.in_ok-attempt.field-0 some (HasMade c.attempt.new.self) (c.in_ok-attempt.ensures k.0 k.1)

pub returns-in_err-look : goal.returns-in_err-look
returns-in_err-look c m has =
    let p = err_from_is_err_and c.from_residual-in_err-look.result c.from_residual-in_err-look.ensures.1 in
    let k = c.loop-looks.invariant m has in
    let below : c.loop-looks._looks < blocks_of_ring c.args.ring.now = omega (arith, c.loop-looks-test.true, c.places.ensures.count, c.links.ensures) in
    let none : is_some c.in_ok-attempt.field-0 ≡ false = search rules in
    let j = late_unseen m k.0 c.args.step c.args.ring.now.id _ c.loop-looks._looks below k.2 (HasMade c.attempt.new.self) c.in_ok-attempt.field-0 none (c.in_ok-attempt.ensures k.0 k.1) in
    rw (p.1, p.2, j.2) (unmade {X = Unit {0}} c.in_err-look.field-0.0 _ _ (λ done n. HasMade c.look.new.self n) _ (step_unmade j.0 _ c.in_err-look.field-0.0 _ _ (c.in_err-look.ensures j.0 j.1)))

pub returns-then-is_none : goal.returns-then-is_none
returns-then-is_none c m has =
    let k = c.loop-looks.invariant m has in
    let below : c.loop-looks._looks < blocks_of_ring c.args.ring.now = omega (arith, c.loop-looks-test.true, c.places.ensures.count, c.links.ensures) in
    let none : is_some c.in_ok-attempt.field-0 ≡ false = search rules in
    let j = late_unseen m k.0 c.args.step c.args.ring.now.id _ c.loop-looks._looks below k.2 (HasMade c.attempt.new.self) c.in_ok-attempt.field-0 none (c.in_ok-attempt.ensures k.0 k.1) in
    let stuck : is_some c.in_ok-look.field-0 ≡ false = search rules in
    rw j.2 (unmade {X = Unit {0}} Dropped _ _ (λ done n. HasMade c.look.new.self n) _ (step_is_none j.0 _ c.in_ok-look.field-0 stuck (HasMade c.look.new.self) _ (c.in_ok-look.ensures j.0 j.1)))

pub loop-looks-preserved : goal.loop-looks-preserved
loop-looks-preserved c m has =
    let k = c.loop-looks.invariant m has in
    let below : c.loop-looks._looks < blocks_of_ring c.args.ring.now = omega (arith, c.loop-looks-test.true, c.places.ensures.count, c.links.ensures) in
    let none : is_some c.in_ok-attempt.field-0 ≡ false = search rules in
    let j = late_unseen m k.0 c.args.step c.args.ring.now.id _ c.loop-looks._looks below k.2 (HasMade c.attempt.new.self) c.in_ok-attempt.field-0 none (c.in_ok-attempt.ensures k.0 k.1) in
    let looked : is_some c.in_ok-look.field-0 ≡ true = search rules in
    late_more m k.0 c.args.step c.args.ring.now.id _ c.loop-looks._looks below k.2 (HasMade c.look.new.self) c.in_ok-look.field-0 j.0 j.2 (step_is_some j.0 _ c.in_ok-look.field-0 c.in_ok-look.field-0 looked (HasMade c.look.new.self) (c.in_ok-look.ensures j.0 j.1))

pub returns : goal.returns
returns c m has =
    let k = c.loop-looks.invariant m has in
    rw (late_end m k.0 c.args.step c.args.ring.now.id (blocks_of_ring c.args.ring.now) c.loop-looks._looks k.2 (omega (arith, c.loop-looks-test.false, c.places.ensures.count, c.links.ensures))) (c.make.ensures k.0 k.1)
