use Rattle.certificate.proofs.Laws.{arith, respelled_if_read}
use Rattle.certificate.proofs.reading.decode.Goals as goal

pub returns-clause-spelled : goal.returns-clause-spelled
returns-clause-spelled c =
    respelled_if_read (λ v. v.items) c.args.bytes.now c.certificate_of.result (λ i. let fits = c.type_inv.bytes i in omega arith) c.certificate_of.ensures.leases
