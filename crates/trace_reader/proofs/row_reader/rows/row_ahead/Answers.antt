use Rattle.trace_reader.proofs.row_reader.rows.row_ahead.Goals as goal

pub returns-in-Some-clause-answer : goal.returns-in-Some-clause-answer
returns-in-Some-clause-answer g c st keeps of rings later at begun = c.in-Some.ensures.row st (g.S.Source.held c.args.source.now) keeps of rings later at begun

pub returns-in-None-clause-answer : goal.returns-in-None-clause-answer
returns-in-None-clause-answer g c st keeps of rings later at begun = rw c.in-None.ensures.none at (c.row_behind_reads.ensures.answer st keeps of rings later at begun)
