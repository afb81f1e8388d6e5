use Rattle.controller_model.proofs.Laws.{◌∙◌, ap, sym, is_command_kind, follows_along, idle_command, idle_other}
use Rattle.controller_model.proofs.command_rings.idle_one.Goals as goal

pub returns-then-is_command_kind : goal.returns-then-is_command_kind
returns-then-is_command_kind c = λ h words w f.
    follows_along h words _ _ _ (idle_command w c.args.ring.now (ap is_command_kind (sym c.kind.ensures) ∙ sym c.is_command_kind.ensures ∙ c.if-is_command_kind.true)) (c.deactivate.ensures.change h words w f)

pub returns-else-is_command_kind : goal.returns-else-is_command_kind
returns-else-is_command_kind c = λ h words w f.
    follows_along h words _ _ _ (idle_other w c.args.ring.now (ap is_command_kind (sym c.kind.ensures) ∙ sym c.is_command_kind.ensures ∙ c.if-is_command_kind.false)) f
