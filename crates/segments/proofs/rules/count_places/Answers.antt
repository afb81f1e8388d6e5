use Rattle.segments.proofs.UpperLaws.{arith, place_count_more}
use Rattle.segments.proofs.rules.count_places.Goals as goal

pub loop-base-preserved : goal.loop-base-preserved
loop-base-preserved c =
    let more = place_count_more c.args.kind c.args.segments.now c.loop-base.base-index (0, 0) c.loop-base-test.true in
    (omega arith, omega arith)
