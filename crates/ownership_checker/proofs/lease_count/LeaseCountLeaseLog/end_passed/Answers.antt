use Rattle.ownership_checker.proofs.Laws.{◌∙◌, sym, as_many_ended}
use Rattle.ownership_checker.proofs.lease_count.LeaseCountLeaseLog.end_passed.Goals as goal

pub returns : goal.returns
returns c = λ list h ts shaped within held. held ∙ sym (as_many_ended _ c.args._row ts)
