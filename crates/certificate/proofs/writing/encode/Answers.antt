use Rattle.certificate.proofs.Laws.{ap, ◌∙◌, certificate_of, reread}
use Rattle.certificate.proofs.writing.encode.Goals as goal

pub returns-clause-reread : goal.returns-clause-reread
returns-clause-reread c = λ fits. ap certificate_of c.in_ok-bytes.ensures ∙ reread c.args.leases.now fits
