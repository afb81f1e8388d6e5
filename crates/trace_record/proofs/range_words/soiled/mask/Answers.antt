use Rattle.trace_record.proofs.Laws.{arith, nat_tests, run_of_ones}
use Rattle.trace_record.proofs.range_words.soiled.mask.Goals as goal

pub returns : goal.returns
returns c = grind (arith, run_of_ones, nat_tests)
