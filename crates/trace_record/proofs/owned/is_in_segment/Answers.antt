use Rattle.trace_record.proofs.Laws.{◌∙◌, ap, subst, touches, FollowsEvents, in_no_segments, in_segments}
use Rattle.trace_record.proofs.owned.is_in_segment.Goals as goal

pub returns-in-None : goal.returns-in-None
returns-in-None c = λ h k f. in_no_segments h k c.args.at (subst (FollowsEvents h k) c.in-None.is f)

pub returns-in-Some : goal.returns-in-Some
returns-in-Some c = λ h k f.
    let here = subst (FollowsEvents h k) c.in-Some.is f in
    c.overlaps.ensures ∙ ap (λ a. touches c.shape.result.now a 4) c.get.ensures.same ∙ ap (λ s. touches s c.args.at 4) c.shape.ensures.same
    ∙ in_segments h k c.args.at c.in-Some.events.shape here.shape
