use Rattle.ownership_checker.proofs.Laws.{◌∙◌, ap, refl, err_from_is_err_and, bad_so, ended, ends_so, fewer_left, fits_so, given, row_passed, underway, whole_so}
use Rattle.ownership_checker.proofs.pass.reading.pass_followed.Goals as goal

pub loop-pass-init : goal.loop-pass-init
loop-pass-init g c = (underway c.in_ok-pass.pass c.in_ok-header.header (c.in_ok-header.ensures ∙ c.header.ensures.said) c.in_ok-pass.ensures.passed c.in_ok-pass.ensures.logged, refl)

pub returns-in_err-number-clause-line : goal.returns-in_err-number-clause-line
returns-in_err-number-clause-line g c =
    let p = err_from_is_err_and c.from_residual-in_err-number.result c.from_residual-in_err-number.ensures.1 in
    let told = c.in_err-number.ensures in
    rw (p.1, p.2) (bad_so c.loop-pass.invariant.0 (g.S.Source.held c.next_row.new.source) c.next_row.new.self c.in_err-number.field-0.0 told.same told.over told.answer)

pub returns-clause-whole : goal.returns-clause-whole
returns-clause-whole g c =
    let told = c.in_ok-number.ensures in
    whole_so c.loop-pass.invariant.0 (ended c.loop-pass.reader c.next_row.new.self c.in_default.is told.same told.over told.answer) (λ ended. ap (g.S.Source.held) (c.next_row.ensures.nothing ended).2) c.into_log.result c.into_log.ensures.harmless c.into_log.ensures.logged

pub row-requires-clause-fits : goal.row-requires-clause-fits
row-requires-clause-fits g c = fits_so c.loop-pass.invariant.0 (given c.loop-pass.reader c.next_row.new.self c.in-Some.is c.in_ok-number.ensures.same c.in_ok-number.ensures.over c.in_ok-number.ensures.answer) refl

pub loop-pass-smaller : goal.loop-pass-smaller
loop-pass-smaller g c = fewer_left (given c.loop-pass.reader c.next_row.new.self c.in-Some.is c.in_ok-number.ensures.same c.in_ok-number.ensures.over c.in_ok-number.ensures.answer)

pub loop-pass-preserved : goal.loop-pass-preserved
loop-pass-preserved g c = (
  row_passed c.loop-pass.invariant.0 (given c.loop-pass.reader c.next_row.new.self c.in-Some.is c.in_ok-number.ensures.same c.in_ok-number.ensures.over c.in_ok-number.ensures.answer) refl c.row.new.self c.in-Ok.ensures.passed c.in-Ok.ensures.logged,
  c.in_ok-number.ensures.failures ∙ c.loop-pass.invariant.1,
)

pub returns-in-Err-Refused-clause-refused : goal.returns-in-Err-Refused-clause-refused
returns-in-Err-Refused-clause-refused g c =
    rw (c.in-Err-Refused.refusal-is)
    (ends_so c.loop-pass.invariant.0 (given c.loop-pass.reader c.next_row.new.self c.in-Some.is c.in_ok-number.ensures.same c.in_ok-number.ensures.over c.in_ok-number.ensures.answer) refl
    c.in-Err-Refused.refusal c.in-Err-Refused.field-0 c.in-Err-Refused.field-0-is c.in-Err-Refused.ensures.refused)
