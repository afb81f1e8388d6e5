use Rattle.controller_model.proofs.Laws.{◌∙◌, had_by_holder}
use Rattle.controller_model.proofs.bindings.is_had_by_another.Goals as goal

pub returns : goal.returns
returns c = λ h words w f.
    c.is_other.ensures ∙ had_by_holder w c.args.slot c.args.index c.args.ring c.ring_state.result.now.holder (c.ring_state.ensures h words w f).holder
