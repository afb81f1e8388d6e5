use Rattle.answers.proofs.Laws.{IsPageAnswer, told_right}
use Rattle.answers.proofs.page.run_explain.Goals as goal

pub returns-clause-told : goal.returns-clause-told
returns-clause-told g c = told_right (λ a. IsPageAnswer c.args.subject a) _ _ _ _ _ _ _ c.page_answer-answer.ensures tt c.tell.ensures.told
