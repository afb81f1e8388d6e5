use Rattle.std.proofs.Common.{sym, ◌∙◌}
use Rattle.event_ring.proofs.TableLemmas.{lists_other, lists_next}
use Rattle.event_ring.proofs.table.lists.Goals as goal

pub returns-then-ne : goal.returns-then-ne
returns-then-ne g c =
    sym (c.loop-number.invariant
    ∙ lists_other (g.M.WordMemory.words c.args.memory.now) c.args.base c.loop-number.number c.args.segments.now _ c.segment_at.result c.loop-number-test.true
    c.segment_at.ensures.base c.segment_at.ensures.count (sym c.ne.ensures ∙ c.if-ne.true))

pub loop-number-preserved : goal.loop-number-preserved
loop-number-preserved g c =
    c.loop-number.invariant
    ∙ lists_next (g.M.WordMemory.words c.args.memory.now) c.args.base c.loop-number.number c.args.segments.now _ c.segment_at.result c.loop-number-test.true
    c.segment_at.ensures.base c.segment_at.ensures.count (sym c.ne.ensures ∙ c.if-ne.false)
