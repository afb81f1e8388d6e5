use Rattle.driver_rows.proofs.Laws.{ap, sym, table_bytes, no_events}
use Rattle.driver_rows.proofs.context_rules.leases.table_bytes.Goals as goal

pub returns-in-None : goal.returns-in-None
returns-in-None c = λ h k memory f. sym (ap (λ shape. table_bytes shape) (no_events h k _ f.events c.in-None.is))
