use Rattle.trace_reader.proofs.Laws.{ahead_of, progress_of, row_begins, answer_fits}
use Rattle.trace_reader.proofs.row_reader.reader.RowReader.next_row.Goals as goal

pub returns-in-Some-clause-answer : goal.returns-in-Some-clause-answer
returns-in-Some-clause-answer g c =
    let r = c.args.self.now in
    let few = c.is_full.ensures.within c.if-is_full.false in
    row_begins (progress_of r).read r.ended (g.S.Source.held c.args.source.now) (ahead_of r.ahead) (ahead_of c.skip.new.self) _ 28 (rw c.as_slice.ensures at c.in-Some.ensures) r.behind few c.if-self.false c.skip.ensures

pub returns-then-self-clause-fits : goal.returns-then-self-clause-fits
returns-then-self-clause-fits g c =
    answer_fits (g.S.Source.held c.args.source.now) (g.S.Source.held c.searched_row.new.source) c.args.self.now c.searched_row.new.self c.searched_row.result c.searched_row.ensures.over c.searched_row.ensures.answer

pub returns-clause-fits : goal.returns-clause-fits
returns-clause-fits g c =
    answer_fits (g.S.Source.held c.args.source.now) (g.S.Source.held c.other_row.new.source) c.args.self.now c.other_row.new.self c.other_row.result c.other_row.ensures.over c.other_row.ensures.answer
