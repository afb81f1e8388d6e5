use Rattle.controller_model.proofs.Words.{◌∙◌, Running, ring_having, placed_on}
use Rattle.controller_model.proofs.effects.place_by_context.Goals as goal

pub returns-clause-change : goal.returns-clause-change
returns-clause-change g c = λ h words w v lists made f.
    c.in_ok-place.ensures.change h words w v lists
    ((λ k. placed_on w c.args.slot c.args.index (c.context_of-endpoint.ensures.pointer k) (c.context_of-endpoint.ensures.cycle k) Running
    (ring_having c.args.header.now (c.context_of-endpoint.ensures.pointer k))) ∙ made) f
