use Rattle.ring_knowledge.proofs.Laws.{ap, sym, ◌∙◌, unwrap_or, ceiling, given_count, count_is}
use Rattle.ring_knowledge.proofs.ring_record.RingRecord.ceiling.Goals as goal

pub returns : goal.returns
unfolding ceiling
returns c = λ shape v known.
    c.unwrap_or.ensures ∙ ap (λ n. unwrap_or c.args.self.now.held n) (count_is shape v c.args.self.now known) ∙ ap (λ o. unwrap_or o (given_count shape v)) (sym known.marks.held)
