use Rattle.trace_reader.proofs.Laws.{arith, ◌+◌, ◌∷◌, ◌++◌, [], refl, ap, sym, ahead_of, some_lines, StandsAhead, bad_told, cut_of, no_row, row_given, ended_left}
use Rattle.trace_reader.proofs.row_reader.rows.row_behind_reads.Goals.{After-first_line-line}
use Rattle.trace_reader.proofs.row_reader.rows.row_behind_reads.Goals as goal

stands : (g : _) (c : After-first_line-line g) →
    StandsAhead (g.S.Source.held c.args.source.now) (g.S.Source.held c.fill_line.new.source) (ahead_of c.args.ahead.now) (ahead_of c.fill_line.new.self) c.as_slice.result.now c.first_line-line.result.0 c.first_line-line.result.1.now
stands g c = let first = c.first_line-line.ensures in record { comes = c.in_ok-fill_line.ensures.came; is = c.as_slice.ensures; lines = first.lines; whole = first.whole; one = first.one }

pub returns-then-not-branch-clause-answer : goal.returns-then-not-branch-clause-answer
returns-then-not-branch-clause-answer g c st keeps of rings later at begun =
    no_row st (g.S.Source.held c.args.source.now) (g.S.Source.held c.fill_line.new.source) (ahead_of c.args.ahead.now) (ahead_of c.fill_line.new.self) c.in_ok-fill_line.ensures.came
    (rw c.if-not-branch.true at c.in_ok-fill_line.ensures.filled)

pub returns-in-Ok-clause-answer : goal.returns-in-Ok-clause-answer
returns-in-Ok-clause-answer g c st keeps of rings later at begun =
    let line = c.first_line-line.result.0 in
    let rest = c.first_line-line.result.1.now in
    let is = stands g (goal.at.returns-in-Ok-clause-answer g c).After-first_line-line in
    row_given st (ahead_of c.keep_last.new.self) (c.args.lines + 1) c.in-Ok.row is (c.in-Ok.ensures.answer st keeps of rings later at begun)
    (λ ended. c.keep_last.ensures (line.content ++ 10 ∷ []) rest (ended_left (ahead_of c.fill_line.new.self) rest line (cut_of is) ended) refl) (ap (λ n. n + 1) (sym at))

pub returns-in-Err-clause-answer : goal.returns-in-Err-clause-answer
returns-in-Err-clause-answer g c st keeps of rings later at begun =
    rw c.fault_of.ensures
    (bad_told st (c.args.lines + 1) c.in-Err.error (stands g (goal.at.returns-in-Err-clause-answer g c).After-first_line-line) (rw c.if-not-branch.false at c.in_ok-fill_line.ensures.filled)
    (c.in-Err.ensures.answer st keeps of rings later at begun) (ap (λ n. n + 1) (sym at)))

pub returns-in-Ok-clause-numbered : goal.returns-in-Ok-clause-numbered
returns-in-Ok-clause-numbered g c = (refl, omega (arith, c.in-Ok.ensures.within, (some_lines c.args.keeps c.args.header.now.version).1))
