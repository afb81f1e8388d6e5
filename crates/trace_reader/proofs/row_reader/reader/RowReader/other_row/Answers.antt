use Rattle.trace_reader.proofs.Laws.{ahead_of, progress_of, row_begins}
use Rattle.trace_reader.proofs.row_reader.reader.RowReader.other_row.Goals as goal

pub returns-in-Some-clause-answer : goal.returns-in-Some-clause-answer
returns-in-Some-clause-answer g c =
    let r = c.args.self.now in
    row_begins (progress_of r).read r.ended (g.S.Source.held c.args.source.now) (ahead_of r.ahead) (ahead_of c.skip.new.self) _ 39 (rw c.as_slice.ensures at c.in-Some.ensures) r.behind c.requires.limit c.requires.going c.skip.ensures

pub returns-in-Some-declaration_ahead-clause-answer : goal.returns-in-Some-declaration_ahead-clause-answer
returns-in-Some-declaration_ahead-clause-answer g c =
    let r = c.args.self.now in
    rw c.one-blocks.ensures (
    row_begins (progress_of r).read r.ended (g.S.Source.held c.args.source.now) (ahead_of r.ahead) (ahead_of c.skip-in-Some-declaration_ahead.new.self) _ 43 (rw c.as_slice-2.ensures at c.in-Some-declaration_ahead.ensures) r.behind c.requires.limit c.requires.going c.skip-in-Some-declaration_ahead.ensures
    )

pub returns-in-Some-bell_ahead-clause-answer : goal.returns-in-Some-bell_ahead-clause-answer
returns-in-Some-bell_ahead-clause-answer g c =
    let r = c.args.self.now in
    row_begins (progress_of r).read r.ended (g.S.Source.held c.args.source.now) (ahead_of r.ahead) (ahead_of c.skip-in-Some-bell_ahead.new.self) _ 9 (rw c.as_slice-3.ensures at c.in-Some-bell_ahead.ensures) r.behind c.requires.limit c.requires.going c.skip-in-Some-bell_ahead.ensures

pub returns-in-Some-erdp_ahead-clause-answer : goal.returns-in-Some-erdp_ahead-clause-answer
returns-in-Some-erdp_ahead-clause-answer g c =
    let r = c.args.self.now in
    row_begins (progress_of r).read r.ended (g.S.Source.held c.args.source.now) (ahead_of r.ahead) (ahead_of c.skip-in-Some-erdp_ahead.new.self) _ 26 (rw c.as_slice-4.ensures at c.in-Some-erdp_ahead.ensures) r.behind c.requires.limit c.requires.going c.skip-in-Some-erdp_ahead.ensures
