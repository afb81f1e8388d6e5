use Rattle.driver_rows.proofs.Laws.{ap, sym, touches_segment, no_events}
use Rattle.driver_rows.proofs.context_rules.leases.touches_events.Goals as goal

pub returns-in-None : goal.returns-in-None
returns-in-None c = λ h k memory f. sym (ap (λ shape. touches_segment shape c.args.from c.args.len) (no_events h k _ f.events c.in-None.is))
