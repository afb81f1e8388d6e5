use Rattle.controller_model.proofs.Words.{◌≡◌, ◌&&◌, ◌∙◌, ap, sym, can_succeed, is_slot_enabled, Config, register_or_zero}
use Rattle.controller_model.proofs.successes.can_succeed.Goals as goal

pub returns : goal.returns
unfolding can_succeed
returns c = λ h words w f.
    let slot = c.slot_allows-slot_allows.ensures h words w f in
    let endpoint = c.endpoint_allows-endpoint_allows.ensures h words w f in
    let enabled : c.is_slot_enabled-is_slot_enabled.result ≡ is_slot_enabled (register_or_zero w.register Config) c.args.slot c.args.command.now =
    c.is_slot_enabled-is_slot_enabled.ensures ∙ ap (λ n. is_slot_enabled n c.args.slot c.args.command.now) (sym f.registers.config) in
    (λ k. slot k && endpoint k && enabled k)
