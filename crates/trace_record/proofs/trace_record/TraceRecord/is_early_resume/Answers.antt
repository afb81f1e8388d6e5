use Rattle.trace_record.proofs.Laws.{arith}
use Rattle.ownership_rules.specs.Registers.{is_early_resume, is_unwritten}
use Rattle.trace_record.proofs.trace_record.TraceRecord.is_early_resume.Goals as goal

pub returns-then-not-is_asked : goal.returns-then-not-is_asked
unfolding is_early_resume
returns-then-not-is_asked c = λ k f g there. grind (arith, c.halt-halt.ensures k f, c.is_asked.ensures)

pub returns-then-not-is_run : goal.returns-then-not-is_run
unfolding is_early_resume
returns-then-not-is_run c = λ k f g there. grind (arith, c.halt-halt.ensures k f, c.is_asked.ensures, c.is_run.ensures)

pub returns-then-not-is_done : goal.returns-then-not-is_done
unfolding is_early_resume
returns-then-not-is_done c = λ k f g there. grind (arith, c.halt-halt.ensures k f, c.is_asked.ensures, c.is_run.ensures, c.is_done.ensures)

pub returns-then-is_none : goal.returns-then-is_none
unfolding is_early_resume is_unwritten
returns-then-is_none c = λ k f g there. grind (arith, c.halt-halt.ensures k f, c.is_asked.ensures, c.is_run.ensures, c.is_done.ensures, c.value.ensures k f, c.is_none.ensures)

pub returns-else-is_none : goal.returns-else-is_none
unfolding is_early_resume is_unwritten
returns-else-is_none c = λ k f g there.
    grind (arith, c.halt-halt.ensures k f, c.is_asked.ensures, c.is_run.ensures, c.is_done.ensures, c.value.ensures k f, c.is_none.ensures, c.may_be_taken.ensures k g there)
