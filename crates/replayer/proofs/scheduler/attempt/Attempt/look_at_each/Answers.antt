use Rattle.replayer.proofs.MiddleLaws.{◌≡◌, arith, refl, err_from_is_err_and, rings_at, with_active, HasMade, each_end, each_failed, each_more}
use Rattle.replayer.proofs.scheduler.attempt.Attempt.look_at_each.Goals.{then-branch+in_ok-add_ring, else-branch}
use Rattle.replayer.proofs.scheduler.attempt.Attempt.look_at_each.Goals as goal

pub returns-in_err-look_at : goal.returns-in_err-look_at
returns-in_err-look_at c m has =
    let p = err_from_is_err_and c.from_residual.result c.from_residual.ensures.1 in
    let k = c.loop-ring.invariant m has in
    rw (p.1, p.2)
    (each_failed m k.0 c.args.rings.now (rings_at c.loop-ring.active.items) c.loop-ring.ring-index c.ring-item.result c.loop-ring-test.true c.ring-item.is k.2 c.in_err-look_at.field-0.0 _ _ (c.in_err-look_at.ensures k.0 k.1))

pub loop-ring-preserved : goal.loop-ring-preserved
loop-ring-preserved c m has =
    let k = c.loop-ring.invariant m has in
    let after : rings_at c.if-branch.active.items ≡ with_active (rings_at c.loop-ring.active.items) c.ring-item.result.now c.in_ok-look_at.field-0 =
    elim c.if-branch.branch [
      | then-branch+in_ok-add_ring w ↦ rw (w.active-is, w.if-branch.true) w.in_ok-add_ring.ensures
      | else-branch w ↦ rw (w.active-is, w.if-branch.false) refl
    ] in
    each_more m k.0 c.args.rings.now (rings_at c.loop-ring.active.items) c.loop-ring.ring-index c.ring-item.result c.loop-ring-test.true c.ring-item.is k.2 c.in_ok-look_at.field-0 (HasMade c.look_at.new.self)
    (rings_at c.if-branch.active.items) after (c.in_ok-look_at.ensures k.0 k.1)

pub returns : goal.returns
returns c m has =
    let k = c.loop-ring.invariant m has in
    each_end m k.0 c.args.rings.now (rings_at c.loop-ring.active.items) c.loop-ring.ring-index k.2 c.loop-ring.active (λ v. rings_at v.items) (HasMade c.loop-ring.self) refl (omega (arith, c.loop-ring-test.false)) k.1
