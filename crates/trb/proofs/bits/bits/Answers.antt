use Rattle.trb.proofs.BitLemmas.{bits-by_mask}
use Rattle.trb.proofs.bits.bits.Goals as goal

pub returns : goal.returns
returns c = bits-by_mask c.args.word c.args.low c.args.count c.requires.count
