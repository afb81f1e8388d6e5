use Rattle.certificate.proofs.Laws.{sym, subst, rules, filled_front, kept_front, Consumes-kept, Consumes-trans, Consumes}
use Rattle.certificate.proofs.reading.fill.Goals as goal
use Rattle.certificate.proofs.reading.fill.Goals.{in-Ok, in-Err+else-ne}

pub loop-preserved : goal.loop-preserved
loop-preserved g c =
    elim c.match-read.branch [
      | in-Ok w ↦ (
        search rules,
        rw w.filled-is (search rules),
        rw w.filled-is (subst (Consumes _ _) (sym (filled_front c.loop.filled w.in-Ok.count c.loop.buffer c.read.new.buf c.loop.invariant.1 w.in-Ok.ensures.bound.0)) (Consumes-trans _ _ _ _ _ c.loop.invariant.2 w.in-Ok.ensures.bytes.0)),
      )
      | in-Err+else-ne w ↦ (
        search rules,
        rw w.filled-is (search rules),
        rw w.filled-is (subst (Consumes _ _) (sym (kept_front c.loop.filled c.loop.buffer c.read.new.buf c.loop.invariant.1)) (Consumes-kept _ _ _ _ c.loop.invariant.2 w.in-Err.ensures.bytes)),
      )
    ]
