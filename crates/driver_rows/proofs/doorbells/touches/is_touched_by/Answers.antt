use Rattle.driver_rows.proofs.Words.{arith, ap, sym, IfSome, list_any, as_list, touches_endpoint, or_false}
use Rattle.driver_rows.proofs.doorbells.touches.is_touched_by.Goals as goal

pub returns-in-Some : goal.returns-in-Some
unfolding touches_endpoint
returns-in-Some g c = grind (arith, IfSome, or_false)

pub returns-in-None : goal.returns-in-None
returns-in-None g c = λ k words fits. ap (λ o. list_any (touches_endpoint c.args.header.now k c.args.slot c.args.index) (as_list o)) (sym c.in-None.is)
