use Rattle.event_rows.proofs.Words.{rules, is_code_of_profile}
use Rattle.event_rows.proofs.transfers.profile.is_code_of_profile.Goals as goal

pub returns-then-is_transfer_code : goal.returns-then-is_transfer_code
unfolding is_code_of_profile
returns-then-is_transfer_code c = λ k f. search rules

pub returns-then-has_isoch : goal.returns-then-has_isoch
unfolding is_code_of_profile
returns-then-has_isoch c = λ k f. search rules

pub returns-else-has_isoch : goal.returns-else-has_isoch
unfolding is_code_of_profile
returns-else-has_isoch c = λ k f. search rules
