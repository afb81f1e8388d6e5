use Rattle.controller_model.proofs.Words.{◌∙◌, None, sym, named_by, cond-false}
use Rattle.controller_model.proofs.trials.left_at.Goals as goal

pub returns-else-is_named : goal.returns-else-is_named
returns-else-is_named c = λ h words w f.
    sym (cond-false (named_by c.args.named c.args.index) None (w.ring_of c.args.slot c.args.index) (sym c.is_named.ensures ∙ c.if-is_named.false)
    ∙ (c.endpoint_of.ensures h words w f).1)
