use Rattle.driver_rows.proofs.Words.{ap, ◌∙◌, is_some, is_written}
use Rattle.driver_rows.proofs.registers.is_written.Goals as goal

pub returns : goal.returns
unfolding is_written
returns c = λ k f. c.is_some.ensures ∙ ap (λ o. is_some o) (c.value.ensures k f)
