use Rattle.driver_rows.proofs.Words.{ap, ◌∙◌, unwrap_or, link_of}
use Rattle.driver_rows.proofs.writes.crossings.link_crossed.Goals as goal

pub returns-clause-value : goal.returns-clause-value
unfolding link_of
returns-clause-value c = c.unwrap_or.ensures ∙ ap (λ o. unwrap_or o 0) c.crossing.ensures.value
