use Rattle.controller_model.proofs.Laws.{◌==◌, ◌&&◌, ◌||◌, ◌∙◌, not, arith, had_by_trial}
use Rattle.controller_model.proofs.trials.is_held.Goals as goal

pub returns : goal.returns
returns c = λ h words w v f sees.
    (λ k. c.is_elsewhere-elsewhere.ensures k || not (c.args.slot == 0) && c.has_own-own.ensures k)
    ∙ had_by_trial w v c.args.rings.now c.args.slot c.args.index c.args.ring sees c.ring_state.result.now.holder (c.ring_state.ensures h words w f).holder (omega (arith, c.ranges.slot))
