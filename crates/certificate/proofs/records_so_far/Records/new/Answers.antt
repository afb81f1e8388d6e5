use Rattle.certificate.proofs.Laws.{refl, first_bad}
use Rattle.certificate.proofs.records_so_far.Records.new.Goals as goal

pub returns : goal.returns
unfolding first_bad
returns c = (refl, λ _. c.new.ensures.items)
