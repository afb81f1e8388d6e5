use Rattle.event_rows.proofs.Laws.{sym, ◌∙◌, subst, FollowsEvents, early, later}
use Rattle.event_rows.proofs.transfers.events.is_no_event.Goals as goal

pub returns-then-not-is_started : goal.returns-then-not-is_started
returns-then-not-is_started c = λ h k m f set_up. sym (early h k c.args.event (sym (c.is_started.ensures k f.registers) ∙ c.if-not-is_started.true))

pub returns : goal.returns
returns c = λ h k m f set_up.
    c.is_misplaced.ensures
    ∙ later h k c.args.event _ (subst (FollowsEvents h k) c.in-Some.is f.events) (sym (c.is_started.ensures k f.registers) ∙ c.if-not-is_started.false)
