use Rattle.trace_reader.proofs.Laws.{◌+◌, ◌∷◌, ◌++◌, ◌∙◌, [], refl, ap, sym, lines_of, state_of, ahead_of, IsCut, ended_left, told_bad, told_ring, told_row}
use Rattle.trace_reader.proofs.row_reader.opening.says_row.Goals.{After-first_line-line}
use Rattle.trace_reader.proofs.row_reader.opening.says_row.Goals as goal

cut : (c : After-first_line-line) → IsCut (ahead_of c.args.ahead.now) c.first_line-line.result.0 c.first_line-line.result.1.now
cut c = record { whole = sym c.as_slice.ensures ∙ c.first_line-line.ensures.whole; one = c.first_line-line.ensures.one }

pub returns-in-Ok-Some : goal.returns-in-Ok-Some
returns-in-Ok-Some c =
    told_row (state_of c.args.so_far.now) (state_of c.add.new.self) (ahead_of c.args.ahead.now) (cut (goal.at.returns-in-Ok-Some c).After-first_line-line) c.in-Ok-Some.field-0-0
    (rw c.in-Ok-Some.field-0-is at c.in-Ok-Some.ensures.ok) refl

pub returns-in-Ok-None : goal.returns-in-Ok-None
returns-in-Ok-None c =
    let rest = c.first_line-line.result.1.now in
    let its_cut = cut (goal.at.returns-in-Ok-None c).After-first_line-line in
    told_ring (state_of c.args.so_far.now) (state_of c.add.new.self) (ahead_of c.keep_last.new.self) its_cut (rw c.in-Ok-None.field-0-is at c.in-Ok-None.ensures.ok)
    (λ ended. c.keep_last.ensures (c.first_line-line.result.0.content ++ 10 ∷ []) rest (ended_left (ahead_of c.args.ahead.now) rest c.first_line-line.result.0 its_cut ended) refl)

pub returns : goal.returns
returns c =
    rw c.fault_of.ensures
    (told_bad (state_of c.args.so_far.now) (state_of c.add.new.self) (ahead_of c.args.ahead.now) (cut (goal.at.returns c).After-first_line-line) (c.args.so_far.now.lines + 1) c.in-Err.error
    (ap lines_of (sym c.as_slice.ensures) ∙ c.first_line-line.ensures.lines) refl c.in-Err.ensures.err)
