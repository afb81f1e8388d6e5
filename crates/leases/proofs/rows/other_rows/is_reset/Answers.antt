use Rattle.leases.proofs.BaseWords.{arith}
unfoldable use Rattle.leases.proofs.BaseWords.{resets}
use Rattle.leases.proofs.rows.other_rows.is_reset.Goals as goal

pub returns-then-is_done : goal.returns-then-is_done
unfolding resets
returns-then-is_done c = λ k follows. grind (arith, c.halt.ensures k follows, c.is_done.ensures)

pub returns-else-is_done : goal.returns-else-is_done
unfolding resets
returns-else-is_done c = λ k follows. grind (arith, c.halt.ensures k follows, c.is_done.ensures)
