use Rattle.ring_knowledge.proofs.Laws.{◌∙◌, ◌==◌, ap, sym, arith, border_begins, border_ends}
use Rattle.ring_knowledge.proofs.ring_record.RingRecord.is_border.Goals as goal

pub returns-then-length_at-gt0 : goal.returns-then-length_at-gt0
returns-then-length_at-gt0 c = λ shape v follows from.
    border_begins shape v c.args.self.now follows c.args.position from (omega (arith, c.length_at.ensures.value from, c.if-length_at-gt0.true))

pub returns : goal.returns
returns c = λ shape v follows from.
    ap (λ n. c.args.position == n) (c.end.ensures.value ∙ sym follows.count)
    ∙ border_ends shape v c.args.self.now follows c.args.position from (omega (arith, c.length_at.ensures.value from, c.if-length_at-gt0.false))
