use Rattle.command_runs.proofs.Words.{Answer, IsFollowAnswer, subst, sym}
use Rattle.command_runs.proofs.follow_run.followed.Goals as goal

pub returns-clause-right : goal.returns-clause-right
returns-clause-right g c =
    let right = rw c.new-source.ensures at c.followed_answer-answer.ensures in
    subst (λ (a : Answer). IsFollowAnswer (g.R.Read.remaining c.args.input) a) (sym c.of.ensures.answer) right
