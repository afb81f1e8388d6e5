use Rattle.controller_model.proofs.Laws.{◌∙◌, sym, named_by, disabled_same, disabled_none, only_unnamed, only_named}
use Rattle.controller_model.proofs.disabling.disable_named.Goals as goal

pub returns-then-not-is_named-clause-change : goal.returns-then-not-is_named-clause-change
returns-then-not-is_named-clause-change c = λ h words w f.
    let unnamed = sym c.is_named.ensures ∙ c.if-not-is_named.true in
    rw (disabled_same w c.args.slot _ _ (only_unnamed (named_by c.args.named) c.args.index unnamed) ∙ disabled_none w c.args.slot) f

pub returns-clause-change : goal.returns-clause-change
returns-clause-change c = λ h words w f.
    let named = sym c.is_named.ensures ∙ c.if-not-is_named.false in
    rw (disabled_same w c.args.slot _ _ (only_named (named_by c.args.named) c.args.index named)) (c.disable_one.ensures.change h words w f)
