use Rattle.controller_model.proofs.Laws.{Ok, noting_post, Follows, step_mapped}
use Rattle.controller_model.proofs.steps.posted.Goals as goal

pub returns-clause-step : goal.returns-clause-step
returns-clause-step c = λ h words o shown made.
    step_mapped (Ok c.in_ok-seen.seen) o (noting_post c.args.live.now) shown (Follows h words c.args.kept.now) (Follows h words c.note_post.new.kept) (c.note_post.ensures h words) (rw c.in_ok-seen.was at made)
