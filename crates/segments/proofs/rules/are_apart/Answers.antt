use Rattle.segments.proofs.UpperLaws.{◌∙◌, ◌&&◌, ◌+◌, sym, ap, not, map, drop, are_apart, segment_of, are_apart_step}
use Rattle.segments.proofs.rules.are_apart.Goals as goal

pub returns-then-overlaps_any : goal.returns-then-overlaps_any
returns-then-overlaps_any c =
    let step = are_apart_step c.args.segments.now c.loop-i.i (0, 0) c.overlaps_any.result c.loop-i-test.true c.overlaps_any.ensures in
    sym (ap (λ b. not b && are_apart (map segment_of (drop (c.loop-i.i + 1) c.args.segments.now))) c.if-overlaps_any.true) ∙ sym step ∙ c.loop-i.invariant

pub loop-i-preserved : goal.loop-i-preserved
loop-i-preserved c =
    let step = are_apart_step c.args.segments.now c.loop-i.i (0, 0) c.overlaps_any.result c.loop-i-test.true c.overlaps_any.ensures in
    sym (ap (λ b. not b && are_apart (map segment_of (drop (c.loop-i.i + 1) c.args.segments.now))) c.if-overlaps_any.false) ∙ sym step ∙ c.loop-i.invariant
