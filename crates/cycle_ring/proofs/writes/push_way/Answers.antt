use Rattle.cycle_ring.proofs.Words.{link_aligned, link_ends}
use Rattle.cycle_ring.proofs.writes.push_way.Goals as goal

pub push_block-requires-clause-aligned : goal.push_block-requires-clause-aligned
push_block-requires-clause-aligned c =
    rw c.link.ensures (link_aligned c.args.shape.now c.requires c.in-Some.segment c.in-Some.ensures.link)

pub push_block-requires-clause-end : goal.push_block-requires-clause-end
push_block-requires-clause-end c =
    rw c.link.ensures (link_ends c.args.shape.now c.requires c.in-Some.segment c.in-Some.ensures.link)
