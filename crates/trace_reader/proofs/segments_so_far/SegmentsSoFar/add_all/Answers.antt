use Rattle.trace_reader.proofs.Laws.{◌+◌, ◌∷◌, drop, get_or, rules, subst, drop_more, AreLeft, one_less}
use Rattle.trace_reader.proofs.segments_so_far.SegmentsSoFar.add_all.Goals as goal

pub loop-segment-preserved : goal.loop-segment-preserved
loop-segment-preserved c =
    let ss = c.args.segments.now in
    let i = c.loop-segment.segment-index in
    let left : AreLeft ss c.args.self.now (get_or ss i (record { base = 0; count = 0 }) ∷ drop (i + 1) ss) c.loop-segment.self =
    subst (λ r. AreLeft ss c.args.self.now r c.loop-segment.self) (drop_more ss i (record { base = 0; count = 0 }) c.loop-segment-test.true) c.loop-segment.invariant in
    one_less (get_or ss i (record { base = 0; count = 0 })) c.loop-segment.self c.add.new.self (search rules) ss c.args.self.now (drop (i + 1) ss) left
