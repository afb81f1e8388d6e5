use Rattle.trace_reader.proofs.Laws.{ahead_of, progress_of, row_begins}
use Rattle.trace_reader.proofs.row_reader.reader.RowReader.rarer_row.Goals as goal

pub returns-in-Some-clause-answer : goal.returns-in-Some-clause-answer
returns-in-Some-clause-answer g c =
    let r = c.args.self.now in
    row_begins (progress_of r).read r.ended (g.S.Source.held c.args.source.now) (ahead_of r.ahead) (ahead_of c.skip.new.self) _ c.in-Some.count (rw c.as_slice.ensures at c.in-Some.ensures) r.behind c.requires.limit c.requires.going c.skip.ensures

pub returns-in-Some-declarations_ahead-clause-answer : goal.returns-in-Some-declarations_ahead-clause-answer
returns-in-Some-declarations_ahead-clause-answer g c =
    let r = c.args.self.now in
    row_begins (progress_of r).read r.ended (g.S.Source.held c.args.source.now) (ahead_of r.ahead) (ahead_of c.skip-in-Some-declarations_ahead.new.self) _ c.in-Some-declarations_ahead.count (rw c.as_slice-2.ensures at c.in-Some-declarations_ahead.ensures) r.behind c.requires.limit c.requires.going c.skip-in-Some-declarations_ahead.ensures
