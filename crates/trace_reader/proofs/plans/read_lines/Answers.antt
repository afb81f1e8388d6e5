use Rattle.trace_reader.proofs.Laws.{sym, length, arith, eqb-true, lines_of, lines_say, plan_line, at_start, bad_line_there, lines_ended, one_line_more}
use Rattle.trace_reader.proofs.plans.read_lines.Goals as goal

pub loop-rest-init : goal.loop-rest-init
loop-rest-init c = record { so_far = rw c.new-lines.ensures.items (sym (at_start (lines_say plan_line 3 (lines_of c.args.text.now)))); within = omega arith }

pub returns-in-Err-clause-err : goal.returns-in-Err-clause-err
returns-in-Err-clause-err c =
    let l = c.loop-rest in
    rw c.at_line.ensures
    (bad_line_there plan_line (lines_say plan_line 3 (lines_of c.args.text.now)) l.lines.items l.number l.rest.now c.first_line-line.result.1.now c.first_line-line.result.0 c.in-Err.error
    l.invariant.so_far c.first_line-line.ensures.lines c.in-Err.ensures.answer)

pub loop-rest-preserved : goal.loop-rest-preserved
loop-rest-preserved c =
    let l = c.loop-rest in
    record {
      so_far =
          rw c.in_ok-push-in-Ok.ensures.items
          (one_line_more plan_line (lines_say plan_line 3 (lines_of c.args.text.now)) l.lines.items l.number l.rest.now c.first_line-line.result.1.now c.first_line-line.result.0 c.in-Ok.said
          l.invariant.so_far c.first_line-line.ensures.lines c.in-Ok.ensures.answer);
      within = omega (arith, c.in-Ok.ensures.within);
    }

pub returns-clause-ok : goal.returns-clause-ok
returns-clause-ok c =
    let l = c.loop-rest in
    lines_ended plan_line (lines_say plan_line 3 (lines_of c.args.text.now)) l.lines.items l.number l.rest.now l.invariant.so_far (eqb-true (length l.rest.now) 0 (sym c.loop-rest-test.ensures))
