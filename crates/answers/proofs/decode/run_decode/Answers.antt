use Rattle.answers.proofs.Laws.{IsBlockAnswer, told_right}
use Rattle.answers.proofs.decode.run_decode.Goals as goal

pub returns-clause-told : goal.returns-clause-told
returns-clause-told g c =
    told_right (λ a. IsBlockAnswer c.args.words.now.first.now c.args.words.now.second.now c.args.words.now.third.now c.args.words.now.fourth.now a) _ _ _ _ _ _ _
    c.block_answer-answer.ensures tt c.tell.ensures.told
