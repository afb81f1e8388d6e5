use Rattle.trace_reader.proofs.Laws.{◌∙◌, ap, sym, length, eqb-true, lines_of, state_of, text_of, start, read_lines, lowered, ended, nothing_before, prepend, stopped, one_trace, spelled_if_read, err_also, ok_also, refused_unspelled}
use Rattle.trace_reader.proofs.ReadSteps.{read_on}
use Rattle.trace_reader.proofs.read.read_kept.Goals as goal

pub loop-rest-init : goal.loop-rest-init
loop-rest-init c = rw (c.new-so_far.ensures, c.new-rows.ensures.items) (sym (nothing_before (read_lines (start c.args.keeps) (lines_of c.args.text.now))))

pub loop-rest-preserved : goal.loop-rest-preserved
loop-rest-preserved c =
    read_on c.args.keeps c.args.text.now c.loop-rest.rows.items (state_of c.loop-rest.so_far) c.add_line.new.rows.items (state_of c.add_line.new.so_far) c.first_line-line.result.0 c.first_line-line.result.1.now
    (lines_of c.loop-rest.rest.now) c.loop-rest.invariant c.first_line-line.ensures.lines c.in_default.ensures.ok

pub returns-in-Err-clause-refused : goal.returns-in-Err-clause-refused
returns-in-Err-clause-refused c =
    rw c.at_line.ensures
    (stopped c.args.keeps c.args.text.now c.loop-rest.rows.items (state_of c.loop-rest.so_far) c.first_line-line.result.0 (lines_of c.first_line-line.result.1.now) c.in-Err.error
    (c.loop-rest.invariant ∙ ap (λ ls. prepend c.loop-rest.rows.items (read_lines (state_of c.loop-rest.so_far) ls)) c.first_line-line.ensures.lines) c.in-Err.ensures.err)

pub finish-requires : goal.finish-requires
finish-requires c =
    (c.args.keeps, c.args.text.now, ended c.args.keeps c.args.text.now c.loop-rest.rows.items (state_of c.loop-rest.so_far) c.loop-rest.rest.now c.loop-rest.invariant (eqb-true (length c.loop-rest.rest.now) 0 (sym c.loop-rest-test.ensures)))

pub returns-clause-read : goal.returns-clause-read
returns-clause-read c =
    rw (ended c.args.keeps c.args.text.now c.loop-rest.rows.items (state_of c.loop-rest.so_far) c.loop-rest.rest.now c.loop-rest.invariant (eqb-true (length c.loop-rest.rest.now) 0 (sym c.loop-rest-test.ensures))) c.finish.ensures.read

pub returns-clause-refused : goal.returns-clause-refused
returns-clause-refused c =
    rw (ended c.args.keeps c.args.text.now c.loop-rest.rows.items (state_of c.loop-rest.so_far) c.loop-rest.rest.now c.loop-rest.invariant (eqb-true (length c.loop-rest.rest.now) 0 (sym c.loop-rest-test.ensures))) c.finish.ensures.refused

pub returns-in-Err-clause-unspelled : goal.returns-in-Err-clause-unspelled
returns-in-Err-clause-unspelled c = refused_unspelled c.args.keeps c.args.text.now c.at_line.result (returns-in-Err-clause-refused c)

pub returns-clause-spelled : goal.returns-clause-spelled
returns-clause-spelled c = ok_also c.finish.result (λ trace is. (spelled_if_read c.args.keeps c.args.text.now (text_of trace) is).0) (returns-clause-read c)

pub returns-clause-alone : goal.returns-clause-alone
returns-clause-alone c =
    ok_also c.finish.result (λ trace is other valid spelled.
    let s = spelled_if_read c.args.keeps c.args.text.now (text_of trace) is in
    one_trace c.args.keeps c.args.text.now other (text_of trace) spelled valid s.0 s.1) (returns-clause-read c)

pub returns-clause-unspelled : goal.returns-clause-unspelled
returns-clause-unspelled c = err_also c.finish.result (refused_unspelled c.args.keeps c.args.text.now) (returns-clause-refused c)

pub returns-clause-lowered : goal.returns-clause-lowered
returns-clause-lowered c =
    ok_also c.finish.result (λ trace is. lowered c.args.text.now (text_of trace) (spelled_if_read c.args.keeps c.args.text.now (text_of trace) is).0) (returns-clause-read c)
