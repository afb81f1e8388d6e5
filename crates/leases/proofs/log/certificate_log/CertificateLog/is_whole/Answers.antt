use Rattle.leases.proofs.Laws.{◌∙◌, sym, false≢true, tells_whole, whole_tells}
use Rattle.leases.proofs.log.certificate_log.CertificateLog.is_whole.Goals as goal

pub returns-clause-yes : goal.returns-clause-yes
returns-clause-yes c = λ list h ts follows yes. whole_tells list h ts c.args.self.now.list c.args.self.now.blocks c.args.self.now.links follows (sym c.is_whole.ensures ∙ yes)

pub returns-clause-no : goal.returns-clause-no
returns-clause-no c = λ list h ts follows no same.
    false≢true (sym no ∙ c.is_whole.ensures ∙ tells_whole list h ts c.args.self.now.list c.args.self.now.blocks c.args.self.now.links follows same)
