use Rattle.cycle_ring.proofs.Words.{address_aligned, address_ends}
use Rattle.cycle_ring.proofs.writes.writes_of.Goals as goal

pub push_low_words-requires-clause-aligned : goal.push_low_words-requires-clause-aligned
push_low_words-requires-clause-aligned c = rw c.address-at.ensures (address_aligned c.args.shape.now c.requires.shape _)

pub push_low_words-requires-clause-end : goal.push_low_words-requires-clause-end
push_low_words-requires-clause-end c = rw c.address-at.ensures (address_ends c.args.shape.now c.requires.shape _)

pub push_control_word-requires-clause-aligned : goal.push_control_word-requires-clause-aligned
push_control_word-requires-clause-aligned c = rw c.address-at.ensures (address_aligned c.args.shape.now c.requires.shape _)

pub push_control_word-requires-clause-end : goal.push_control_word-requires-clause-end
push_control_word-requires-clause-end c = rw c.address-at.ensures (address_ends c.args.shape.now c.requires.shape _)
