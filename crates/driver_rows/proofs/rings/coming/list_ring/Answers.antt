use Rattle.driver_rows.proofs.Laws.{arith, ap, subst, sym, IsFinder, with_ring, clear_header, clear_together}
use Rattle.driver_rows.proofs.rings.coming.list_ring.Goals as goal

pub returns-clause-comes : goal.returns-clause-comes
unfolding with_ring
returns-clause-comes c = ap (λ rs. record c.args.header.now { rings = rs }) c.in_ok-push.ensures.ok

pub returns-clause-headed : goal.returns-clause-headed
unfolding with_ring
returns-clause-headed c = grind (arith, clear_header)

pub returns-clause-found : goal.returns-clause-found
returns-clause-found c =
    subst (λ rs. IsFinder rs c.add.new.self) (sym c.in_ok-push.ensures.ok)
    (c.in_ok-add.ensures (clear_together c.args.header.now c.requires.headed c.args.ring c.requires.coming c.requires.clear).1)
