use Rattle.certificate.proofs.Laws.{◌∙◌, cut_short, kept_bad, kept_whole, sym}
use Rattle.certificate.proofs.records_so_far.Records.into_leases.Goals as goal

pub returns-then-bytes-ne0-clause-fault : goal.returns-then-bytes-ne0-clause-fault
returns-then-bytes-ne0-clause-fault c = λ records size seen. (cut_short records c.args.bytes size c.if-bytes-ne0.true, sym size)

pub returns-in-Some-clause-fault : goal.returns-in-Some-clause-fault
returns-in-Some-clause-fault c = λ records size seen.
    let is = seen.0 ∙ c.in-Some.is in (kept_bad records c.args.bytes c.in-Some.bad size c.if-bytes-ne0.false is, is)

pub returns-in-None-clause-leases : goal.returns-in-None-clause-leases
returns-in-None-clause-leases c = λ records size seen.
    kept_whole records c.args.bytes c.args.self.leases.items size c.if-bytes-ne0.false (seen.0 ∙ c.in-None.is) (seen.1 c.in-None.is)
