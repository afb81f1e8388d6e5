use Rattle.std.proofs.Common.{◌/◌, ◌^◌}
use Rattle.std.proofs.lemmas.Nat.{one_shl, and_mask}
use Rattle.contexts.proofs.bits.bits.Goals as goal

-- a shift and a mask give a field
pub returns : goal.returns
returns c = rw (one_shl c.args.count 32 c.requires.count) (and_mask (c.args.word / 2 ^ c.args.low) c.args.count)
