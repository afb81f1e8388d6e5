use Rattle.driver_rows.proofs.Laws.{◌∙◌, ap, refl, sym, ring_moved, moved_by_others}
use Rattle.driver_rows.proofs.rings.started.ring_moved.Goals as goal

pub returns-in_default : goal.returns-in_default
unfolding ring_moved
returns-in_default c = λ h k memory a w f placed. rw (sym placed.command ∙ sym c.command_said.ensures.same ∙ c.in_default.is) refl

pub returns-in-SetTrDequeue : goal.returns-in-SetTrDequeue
unfolding ring_moved
returns-in-SetTrDequeue c = λ h k memory a w f placed. rw (sym placed.command ∙ sym c.command_said.ensures.same ∙ c.in-Some.is, c.in-SetTrDequeue.is) (c.ring_of.ensures k f.devices)

pub returns-in_default-command : goal.returns-in_default-command
returns-in_default-command c = λ h k memory a w f placed.
    sym (ap (ring_moved k) (sym placed.command ∙ sym c.command_said.ensures.same ∙ c.in-Some.is) ∙ moved_by_others k c.in-Some.command c.in_default-command.not-SetTrDequeue)
