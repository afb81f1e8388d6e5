use Rattle.driver_rows.proofs.Laws.{◌∙◌, ap, not, is_left_out_by, left_out}
use Rattle.driver_rows.proofs.context_rules.endpoints.has_left_out_endpoint.Goals as goal

pub returns : goal.returns
returns g c = λ k words. c.is_left_out_by.ensures ∙ ap (λ b. is_left_out_by (not b) (g.M.WordMemory.words c.args.memory.now) c.args.header.now.context_size c.args.command.now) c.is_lenient.ensures ∙ left_out c.args.header.now k _ c.args.command.now words
