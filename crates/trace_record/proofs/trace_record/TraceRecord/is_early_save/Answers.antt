use Rattle.trace_record.proofs.Laws.{arith}
use Rattle.trace_record.proofs.BaseWords.{nat_tests}
use Rattle.ownership_rules.specs.Registers.{is_early_save}
use Rattle.trace_record.proofs.trace_record.TraceRecord.is_early_save.Goals as goal

pub returns-then-value-eq0 : goal.returns-then-value-eq0
unfolding is_early_save
returns-then-value-eq0 c = λ k f g there. grind (arith, nat_tests)

pub returns-then-not-is_at_rest : goal.returns-then-not-is_at_rest
unfolding is_early_save
returns-then-not-is_at_rest c = λ k f g there. grind (arith, nat_tests, c.is_at_rest.ensures k f)

pub returns : goal.returns
unfolding is_early_save
returns c = λ k f g there. grind (arith, nat_tests, c.is_at_rest.ensures k f, c.may_be_taken.ensures k g there)
