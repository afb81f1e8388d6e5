use Rattle.cycle_ring.proofs.Words.{address_aligned, address_ends}
use Rattle.cycle_ring.proofs.writes.push_later_blocks.Goals as goal

pub push_block-requires-clause-aligned : goal.push_block-requires-clause-aligned
push_block-requires-clause-aligned c = rw c.address.ensures (address_aligned c.args.shape.now c.requires.shape _)

pub push_block-requires-clause-end : goal.push_block-requires-clause-end
push_block-requires-clause-end c = rw c.address.ensures (address_ends c.args.shape.now c.requires.shape _)
