use Rattle.trace_record.proofs.Laws.{◌∙◌, sym, lt-ltb, false≢true, ltb-true, one_has, none_has}
use Rattle.trace_record.proofs.device_record.kept.DeviceRecord.has_endpoint.Goals as goal

pub returns-clause-some : goal.returns-clause-some
returns-clause-some c = λ is k f. one_has k c.args.self.now f c.args.ring c.ranges.ring.fits (ltb-true 0 _ (sym c.has.ensures ∙ is))

pub returns-clause-none : goal.returns-clause-none
returns-clause-none c = λ is k f.
    none_has k c.args.self.now f c.args.ring c.ranges.ring.fits (λ some. false≢true (sym is ∙ c.has.ensures ∙ lt-ltb 0 _ some))
