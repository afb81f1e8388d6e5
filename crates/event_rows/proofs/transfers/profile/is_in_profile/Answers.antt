use Rattle.event_rows.proofs.Words.{rules, is_in_profile}
use Rattle.event_rows.proofs.transfers.profile.is_in_profile.Goals as goal

pub returns-then-may_have_data : goal.returns-then-may_have_data
unfolding is_in_profile
returns-then-may_have_data c = λ k f. search rules

pub returns-else-may_have_data : goal.returns-else-may_have_data
unfolding is_in_profile
returns-else-may_have_data c = λ k f. search rules
