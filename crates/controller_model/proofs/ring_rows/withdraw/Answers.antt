use Rattle.controller_model.proofs.Laws.{without_descriptor, arith, ring_changed, with_rings, withdrawn_here, withdrawn_other}
use Rattle.controller_model.proofs.ring_rows.withdraw.Goals as goal

pub returns : goal.returns
unfolding without_descriptor
returns c = grind (arith, with_rings, ring_changed, withdrawn_other, withdrawn_here)
