use Rattle.trace_record.proofs.Laws.{subst, FollowsEvents, no_bytes}
use Rattle.trace_record.proofs.owned.table_entries.Goals as goal

pub returns-in-None : goal.returns-in-None
returns-in-None c = λ h k f. no_bytes h (subst (FollowsEvents h k) c.in-None.is f)
