use Rattle.driver_rows.proofs.Words.{is_soiled}
use Rattle.driver_rows.proofs.context_rules.areas.is_soiled.Goals as goal

pub returns : goal.returns
unfolding is_soiled
returns c = λ h k memory f. c.any_in.ensures k.soiled f.soiled
