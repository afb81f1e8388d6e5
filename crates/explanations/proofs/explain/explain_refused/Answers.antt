use Rattle.explanations.proofs.Words.{string_bytes, told_of, Rule}
use Rattle.explanations.proofs.explain.explain_refused.Goals as goal

pub returns : goal.returns
returns c =
    told_of (λ told. string_bytes told.text) c.explained.result c.args.view.now c.in_ok-diagnostic.diagnostic (Rule c.args.refusal) c.args.row
    c.in_ok-diagnostic.ensures.rule c.in_ok-diagnostic.ensures.row c.explained.ensures.text
