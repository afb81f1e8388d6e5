use Rattle.replayer.proofs.MiddleLaws.{◌<◌, ◌∙◌, arith, sym, err_from_is_err_and, blocks_of_ring, HasMade, any_before, look_end, look_failed, look_first, look_more, look_none, look_waited, none_before}
use Rattle.replayer.proofs.scheduler.attempt.Attempt.look_at.Goals as goal

pub loop-looks-init : goal.loop-looks-init
loop-looks-init c m has = (m, has, look_first m c.args.ring.now)

pub returns-in_err-look : goal.returns-in_err-look
returns-in_err-look c m has =
    let p = err_from_is_err_and c.from_residual.result c.from_residual.ensures.1 in
    let k = c.loop-looks.invariant m has in
    let below : c.loop-looks.looks < blocks_of_ring c.args.ring.now = omega (arith, c.loop-looks-test.true, c.places.ensures.count, c.links.ensures) in
    rw (p.1, p.2) (look_failed m k.0 c.args.ring.now c.loop-looks.looks below k.2 c.in_err-look.field-0.0 _ _ (c.in_err-look.ensures k.0 k.1))

pub returns-then-looks-gt0 : goal.returns-then-looks-gt0
returns-then-looks-gt0 c m has =
    let k = c.loop-looks.invariant m has in
    let below : c.loop-looks.looks < blocks_of_ring c.args.ring.now = omega (arith, c.loop-looks-test.true, c.places.ensures.count, c.links.ensures) in
    look_none m k.0 c.args.ring.now c.loop-looks.looks below k.2 (HasMade c.look.new.self) _ (any_before c.args.ring.now c.loop-looks.looks c.if-looks-gt0.true) (rw c.in-None.is at (c.in_ok-look.ensures k.0 k.1))

pub returns-else-looks-gt0 : goal.returns-else-looks-gt0
returns-else-looks-gt0 c m has =
    let k = c.loop-looks.invariant m has in
    let below : c.loop-looks.looks < blocks_of_ring c.args.ring.now = omega (arith, c.loop-looks-test.true, c.places.ensures.count, c.links.ensures) in
    look_none m k.0 c.args.ring.now c.loop-looks.looks below k.2 (HasMade c.look.new.self) _ (rw (c.is_command.ensures, c.kind.ensures) (none_before c.args.ring.now c.loop-looks.looks c.if-looks-gt0.false))
    (rw c.in-None.is at (c.in_ok-look.ensures k.0 k.1))

pub returns-then-has_waited : goal.returns-then-has_waited
returns-then-has_waited c m has =
    let k = c.loop-looks.invariant m has in
    let below : c.loop-looks.looks < blocks_of_ring c.args.ring.now = omega (arith, c.loop-looks-test.true, c.places.ensures.count, c.links.ensures) in
    look_waited m k.0 c.args.ring.now c.loop-looks.looks below k.2 (HasMade c.look.new.self) c.in-Some.seen (sym c.has_waited.ensures ∙ c.if-has_waited.true) (rw c.in-Some.is at (c.in_ok-look.ensures k.0 k.1))

pub loop-looks-preserved : goal.loop-looks-preserved
loop-looks-preserved c m has =
    let k = c.loop-looks.invariant m has in
    let below : c.loop-looks.looks < blocks_of_ring c.args.ring.now = omega (arith, c.loop-looks-test.true, c.places.ensures.count, c.links.ensures) in
    look_more m k.0 c.args.ring.now c.loop-looks.looks below k.2 (HasMade c.look.new.self) c.in-Some.seen (sym c.has_waited.ensures ∙ c.if-has_waited.false) (rw c.in-Some.is at (c.in_ok-look.ensures k.0 k.1))

pub returns : goal.returns
returns c m has =
    let k = c.loop-looks.invariant m has in
    look_end m k.0 c.args.ring.now c.loop-looks.looks k.2 (HasMade c.loop-looks.self) (omega (arith, c.loop-looks-test.false, c.places.ensures.count, c.links.ensures)) k.1
