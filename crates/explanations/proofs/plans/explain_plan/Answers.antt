use Rattle.explanations.proofs.Words.{string_bytes, told_of}
use Rattle.explanations.proofs.plans.explain_plan.Goals as goal

pub returns : goal.returns
returns c =
    told_of (λ told. string_bytes told) c.told.result c.args.view.now c.in_ok-diagnostic.diagnostic c.args.matter c.args.line
    c.in_ok-diagnostic.ensures.matter c.in_ok-diagnostic.ensures.line c.told.ensures
