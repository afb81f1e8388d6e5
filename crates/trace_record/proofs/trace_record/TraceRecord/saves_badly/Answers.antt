use Rattle.trace_record.proofs.Laws.{arith}
use Rattle.ownership_rules.specs.Registers.{saves_badly}
use Rattle.trace_record.proofs.trace_record.TraceRecord.saves_badly.Goals as goal

pub returns-then-not-runs_again : goal.returns-then-not-runs_again
unfolding saves_badly
returns-then-not-runs_again c = λ k f g there. grind (arith, c.has_runs-runs_again.ensures)

pub returns-then-is_early_save : goal.returns-then-is_early_save
unfolding saves_badly
returns-then-is_early_save c = λ k f g there. grind (arith, c.has_runs-runs_again.ensures, c.is_early_save.ensures k f g there)

pub returns-else-is_early_save : goal.returns-else-is_early_save
unfolding saves_badly
returns-else-is_early_save c = λ k f g there. grind (arith, c.has_runs-runs_again.ensures, c.is_early_save.ensures k f g there, c.is_early_restore.ensures k f)
