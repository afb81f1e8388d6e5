use Rattle.ownership_checker.proofs.Laws.{◌∙◌, ◌+◌, ap, sym, on_more, one_begun}
use Rattle.ownership_checker.proofs.lease_count.LeaseCountLeaseLog.begin_link.Goals as goal

pub returns : goal.returns
returns c = on_more c.add_one.result (λ more list h ts shaped crossed held free. more ∙ ap (λ n. n + 1) held ∙ sym (one_begun ts c.args._row _)) c.add_one.ensures
