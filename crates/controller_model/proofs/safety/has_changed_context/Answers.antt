use Rattle.controller_model.proofs.Laws.{◌+◌, ◌∙◌, ap, sym, changed_at, written_at, context_named}
use Rattle.controller_model.proofs.safety.has_changed_context.Goals as goal

pub returns : goal.returns
returns c = λ words w f.
    c.is_context_changed.ensures
    ∙ context_named c.args.header.now w c.args.kept.now.under_way f.under_way c.in-Some.pending c.in-Some.is c.in-Some-command_of.command c.in-Some-input_context.context
    (written_at c.args.kept.now.stamps (c.in-Some.pending.address + 12)) _ (changed_at c.args.kept.now.stamps) c.in-Some-command_of.ensures c.in-Some-input_context.ensures
    (sym (ap (λ y. y.written (c.in-Some.pending.address + 12)) f.held)) c.input_words.ensures.value (sym (ap (λ y. y.changed) f.held))
