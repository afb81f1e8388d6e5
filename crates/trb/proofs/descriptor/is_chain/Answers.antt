use Rattle.trb.proofs.Laws.{arith, [], is_chain-by_last}
use Rattle.trb.proofs.descriptor.is_chain.Goals as goal

pub returns-then-are_chained : goal.returns-then-are_chained
returns-then-are_chained c = grind (arith, is_chain-by_last c.args.blocks.now (record { w = [] }) c.in-len1-up.len_at_least)

pub returns-else-are_chained : goal.returns-else-are_chained
returns-else-are_chained c = grind (arith, is_chain-by_last c.args.blocks.now (record { w = [] }) c.in-len1-up.len_at_least)
