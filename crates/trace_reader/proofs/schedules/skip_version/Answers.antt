use Rattle.trace_reader.proofs.Laws.{◌∙◌, sym, length, eqb-true, no_text, version_there}
use Rattle.trace_reader.proofs.ScheduleSteps.{no_version}
use Rattle.trace_reader.proofs.schedules.skip_version.Goals as goal

pub returns-then-is_empty-clause-err : goal.returns-then-is_empty-clause-err
returns-then-is_empty-clause-err c = rw (c.at_line.ensures, c.into.ensures) (no_text c.args.text.now (eqb-true (length c.args.text.now) 0 (sym c.is_empty.ensures ∙ c.if-is_empty.true)))

pub returns-then-not-is_version-clause-err : goal.returns-then-not-is_version-clause-err
returns-then-not-is_version-clause-err c =
    rw (c.at_line-then-not-is_version.ensures, c.into-then-not-is_version.ensures)
    (no_version c.args.text.now c.first_line-line.result.1.now c.first_line-line.result.0 c.first_line-line.ensures.lines (sym c.is_version.ensures ∙ c.if-not-is_version.true))

pub returns-clause-ok : goal.returns-clause-ok
returns-clause-ok c =
    version_there c.args.text.now c.first_line-line.result.1.now c.first_line-line.result.0 c.first_line-line.ensures.lines (sym c.is_version.ensures ∙ c.if-not-is_version.false)
