use Rattle.trace_record.proofs.Laws.{arith, sym, ◌∙◌, elsewhere_had, here_had, nowhere_had}
use Rattle.trace_record.proofs.ring_finder.finder.Finder.ring_having.Goals as goal

pub returns-in_default : goal.returns-in_default
returns-in_default c = nowhere_had c.args.header.now c.requires.headed c.args.address (sym c.in_default.is ∙ c.ring_at.ensures)

pub returns-then-is_transfer_ring : goal.returns-then-is_transfer_ring
returns-then-is_transfer_ring c = grind (arith, here_had)

pub returns-else-is_transfer_ring : goal.returns-else-is_transfer_ring
returns-else-is_transfer_ring c = grind (arith, elsewhere_had)
