use Rattle.driver_rows.proofs.Laws.{sym, nothing_bad}
use Rattle.driver_rows.proofs.bindings.bound.is_bad_binding.Goals as goal

pub returns-then-not-adds_endpoints : goal.returns-then-not-adds_endpoints
returns-then-not-adds_endpoints g c = λ k f keeps here.
    sym (nothing_bad c.args.header.now k c.args.command.now (c.adds_endpoints.ensures c.args.header.now k c.if-not-adds_endpoints.true))
