use Rattle.std.proofs.Common.{arith}
use Rattle.contexts.proofs.BitsOfWords.{flag_clear, flag_found}
use Rattle.contexts.proofs.flags.next_flag.Goals as goal

pub returns-clause-set : goal.returns-clause-set
returns-clause-set c = flag_found c.args.word c.args.from c.from.result c.from.ensures (omega (arith, c.from.ensures, c.ranges.word.fits))

pub returns-clause-clear : goal.returns-clause-clear
returns-clause-clear c = λ i low high below. flag_clear c.args.word c.args.from c.from.result c.from.ensures (omega (arith, c.from.ensures, c.ranges.word.fits)) i low high
