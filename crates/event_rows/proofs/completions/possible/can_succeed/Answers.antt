use Rattle.event_rows.proofs.Laws.{◌∙◌, ap, is_slot_enabled, register_or_zero, Config, succeeds_is}
use Rattle.event_rows.proofs.completions.possible.can_succeed.Goals as goal

pub returns : goal.returns
returns c = λ k f g.
    succeeds_is k.slot_state k.endpoint_state (register_or_zero k.register Config) c.args.slot c.args.command.now _ _ _
    (c.slot_goes_on.ensures k f) (c.endpoint_goes_on.ensures k f) (c.is_slot_enabled.ensures ∙ ap (λ n. is_slot_enabled n c.args.slot c.args.command.now) (c.config.ensures k g))
