use Rattle.trb.proofs.Laws.{Fits-lt-pow, lowest_bit-by_mask}
use Rattle.trb.proofs.bits.with_lowest_bit.Goals as goal

pub returns : goal.returns
returns c = rw c.from.ensures (lowest_bit-by_mask c.args.word c.args.bit (Fits-lt-pow c.ranges.word))
