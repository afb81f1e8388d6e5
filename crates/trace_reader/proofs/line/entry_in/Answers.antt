use Rattle.trace_reader.proofs.Laws.{◌≤◌, ◌<◌, ◌∙◌, sym, arith, err_from_is_err_and, said_alone, value_of, most_of, next_number, alone, same_most, passed_on, past_limit, too_much, not_limited}
use Rattle.trace_reader.proofs.line.entry_in.Goals as goal

pub returns-in_err-entry-clause-answer : goal.returns-in_err-entry-clause-answer
returns-in_err-entry-clause-answer c st keeps of at started =
    let p = err_from_is_err_and c.from_residual.result c.from_residual.ensures.1 in
    let passed = passed_on c.args.version (most_of st) (next_number st) c.in_err-entry.field-0.0 (said_alone c.args.version c.args.begun c.args.line.now) c.in_err-entry.ensures in
    rw (p.1, p.2, alone st c.args.line.now c.args.version c.args.begun of started) passed

pub returns-then-lines-most-clause-answer : goal.returns-then-lines-most-clause-answer
returns-then-lines-most-clause-answer c st keeps of at started =
    let past : most_of st < next_number st = rw (same_most st c.args.keeps c.args.version keeps of ∙ sym c.most_lines_of-most.ensures) (omega (arith, at, c.if-lines-most.true)) in
    rw (c.into.ensures, alone st c.args.line.now c.args.version c.args.begun of started)
    (past_limit c.args.version (most_of st) (next_number st) (value_of c.in_ok-entry.entry) (said_alone c.args.version c.args.begun c.args.line.now) c.in_ok-entry.ensures past)

pub returns-then-is_too_much-clause-answer : goal.returns-then-is_too_much-clause-answer
returns-then-is_too_much-clause-answer c st keeps of at started =
    rw (c.into-then-is_too_much.ensures, alone st c.args.line.now c.args.version c.args.begun of started)
    (too_much c.args.version (most_of st) (next_number st) (value_of c.in_ok-entry.entry) (said_alone c.args.version c.args.begun c.args.line.now) c.in_ok-entry.ensures (sym c.is_too_much.ensures ∙ c.if-is_too_much.true))

pub returns-clause-answer : goal.returns-clause-answer
returns-clause-answer c st keeps of at started =
    let within : next_number st ≤ most_of st = rw (same_most st c.args.keeps c.args.version keeps of ∙ sym c.most_lines_of-most.ensures) (omega (arith, at, c.if-lines-most.false)) in
    alone st c.args.line.now c.args.version c.args.begun of started
    ∙ not_limited c.args.version (most_of st) (next_number st) (value_of c.in_ok-entry.entry) (said_alone c.args.version c.args.begun c.args.line.now) c.in_ok-entry.ensures within (sym c.is_too_much.ensures ∙ c.if-is_too_much.false)
