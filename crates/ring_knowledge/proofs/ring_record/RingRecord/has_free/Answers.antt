use Rattle.ring_knowledge.proofs.Laws.{not-false, not-true, ◌∙◌, sym, false≢true, none_in, some_in}
use Rattle.ring_knowledge.proofs.ring_record.RingRecord.has_free.Goals as goal

pub returns-clause-none : goal.returns-clause-none
returns-clause-none c = λ shape v known none p. known.marks.free p ∙ none_in c.args.self.now.free (c.is_empty.ensures.0 (not-false c.is_empty.result none)) p

pub returns-clause-some : goal.returns-clause-some
returns-clause-some c = λ shape v known some.
    let found = some_in c.args.self.now.free (λ none. false≢true (sym (not-true c.is_empty.result some) ∙ c.is_empty.ensures.1 none)) in
    (found.0, known.marks.free found.0 ∙ found.1)
