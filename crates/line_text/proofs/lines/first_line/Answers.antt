use Rattle.std.proofs.Common.{◌≤◌, append-nil, arith, length, sym}
use Rattle.line_text.proofs.Cuts.{line_alone, line_at, none_at_all, none_before, whole_at}
use Rattle.line_text.proofs.lines.first_line.Goals as goal

pub returns-in-Some-clause-lines : goal.returns-in-Some-clause-lines
returns-in-Some-clause-lines c = let e = c.in-Some.ensures in line_at c.args.text.now c.in-Some.end e.0.high e.1 e.0.before

pub returns-in-None-clause-lines : goal.returns-in-None-clause-lines
returns-in-None-clause-lines c = line_alone c.args.text.now (omega (arith, c.requires)) c.in-None.ensures

pub returns-in-Some-clause-whole : goal.returns-in-Some-clause-whole
returns-in-Some-clause-whole c = let e = c.in-Some.ensures in whole_at c.args.text.now c.in-Some.end e.0.high e.1

pub returns-in-Some-clause-one : goal.returns-in-Some-clause-one
returns-in-Some-clause-one c =
    let e = c.in-Some.ensures in
    let within : c.in-Some.end ≤ length c.args.text.now = omega (arith, e.0.high) in
    none_before c.args.text.now c.in-Some.end within e.0.before

pub returns-in-None-clause-whole : goal.returns-in-None-clause-whole
returns-in-None-clause-whole c = sym (append-nil c.args.text.now)

pub returns-in-None-clause-one : goal.returns-in-None-clause-one
returns-in-None-clause-one c = none_at_all c.args.text.now c.in-None.ensures
