use Rattle.controller_model.proofs.Words.{◌∙◌, not, ap, sym, may_get}
use Rattle.controller_model.proofs.bindings.can_place.Goals as goal

pub returns-in-Some : goal.returns-in-Some
returns-in-Some c = λ h words w f.
    ap not (c.is_had_by_another.ensures h words w f)
    ∙ sym (ap (λ o. may_get w c.args.slot c.args.index o) (sym c.ring_having.ensures ∙ c.in-Some.is))
