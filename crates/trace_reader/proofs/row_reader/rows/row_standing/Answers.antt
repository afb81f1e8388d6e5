use Rattle.trace_reader.proofs.Laws.{arith, ◌+◌, ◌∷◌, ◌++◌, [], refl, sym, ap, ahead_of, some_lines, StandsAhead, cut_of, nothing_came, row_given, ended_left}
use Rattle.trace_reader.proofs.row_reader.rows.row_standing.Goals as goal

pub returns-clause-row : goal.returns-clause-row
returns-clause-row c st held keeps of rings later at begun =
    let ahead = ahead_of c.args.ahead.now in
    let line = c.first_line-line.result.0 in
    let rest = c.first_line-line.result.1.now in
    let stands : StandsAhead held held ahead ahead c.as_slice-bytes.result.now line rest =
    record { comes = nothing_came held ahead; is = c.as_slice-bytes.ensures; lines = c.first_line-line.ensures.lines; whole = c.first_line-line.ensures.whole; one = c.first_line-line.ensures.one } in
    row_given st (ahead_of c.keep_last.new.self) (c.args.lines + 1) c.in-Ok.row stands (c.in-Ok.ensures.answer st keeps of rings later at begun)
    (λ ended. c.keep_last.ensures (line.content ++ 10 ∷ []) rest (ended_left ahead rest line (cut_of stands) ended) refl) (ap (λ n. n + 1) (sym at))

pub returns-clause-numbered : goal.returns-clause-numbered
returns-clause-numbered c = (refl, omega (arith, c.in-Ok.ensures.within, (some_lines c.args.keeps c.args.header.now.version).1))
