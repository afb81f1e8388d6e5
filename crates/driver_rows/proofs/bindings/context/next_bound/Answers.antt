use Rattle.driver_rows.proofs.RingBindings.BindingLists.{bindings_skipped}
use Rattle.driver_rows.proofs.bindings.context.next_bound.Goals as goal

pub returns-clause-rest : goal.returns-clause-rest
returns-clause-rest c = λ h k d has. bindings_skipped h k d c.args.bound has c.args.from c.next_flag.result c.next_flag.ensures.behind c.next_flag.ensures.clear
