use Rattle.trace_reader.proofs.Laws.{None, Ok, refl, sym, ahead_of, progress_of, given, still}
use Rattle.trace_reader.proofs.Streaming.Calls.{stopped}
use Rattle.trace_reader.proofs.row_reader.reader.RowReader.searched_row.Goals as goal

pub returns-then-self-clause-answer : goal.returns-then-self-clause-answer
returns-then-self-clause-answer g c = still ((progress_of c.args.self.now).read) c.args.self.now.ended (g.S.Source.held c.args.source.now) (ahead_of c.args.self.now.ahead) c.if-self.true

pub returns-in-Ok-None-clause-answer : goal.returns-in-Ok-None-clause-answer
returns-in-Ok-None-clause-answer g c =
    let r = c.args.self.now in
    stopped (progress_of r).read r.ended (Ok None) (g.S.Source.held c.args.source.now) (g.S.Source.held c.row_ahead-found.new.source) (ahead_of r.ahead) (ahead_of c.row_ahead-found.new.ahead) c.if-self.false
    (rw c.in-Ok-None.field-0-is at (c.in-Ok-None.ensures.answer (progress_of r).read refl refl refl (sym c.as_slice.ensures.value) refl refl))

pub returns-in_default-clause-answer : goal.returns-in_default-clause-answer
returns-in_default-clause-answer g c =
    let r = c.args.self.now in
    given (progress_of r).read r.ended c.in-Ok-Some.number c.in-Ok-Some.row _ (g.S.Source.held c.args.source.now) (g.S.Source.held c.row_ahead-found.new.source) (ahead_of r.ahead) (ahead_of c.row_ahead-found.new.ahead) c.if-self.false
    (rw c.in-Ok-Some.field-0-is at c.in-Ok-Some.ensures.numbered).0 c.in_default.ensures
    (rw c.in-Ok-Some.field-0-is at (c.in-Ok-Some.ensures.answer (progress_of r).read refl refl refl (sym c.as_slice.ensures.value) refl refl))
