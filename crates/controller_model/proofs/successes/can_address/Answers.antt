use Rattle.controller_model.proofs.Words.{◌∙◌, ap, ring_having, may_get}
use Rattle.controller_model.proofs.successes.can_address.Goals as goal

pub returns : goal.returns
returns g c = λ h words w f.
    c.can_place.ensures h words w f ∙ ap (λ p. may_get w c.args.slot 1 (ring_having c.args.header.now p)) c.context_of-pointer.ensures.pointer
