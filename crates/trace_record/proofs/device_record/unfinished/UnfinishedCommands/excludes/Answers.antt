use Rattle.trace_record.proofs.Laws.{◌≡◌, ◌||◌, ◌∙◌, ap, sym, is_some, list_any, is_about, kept_about}
use Rattle.trace_record.proofs.device_record.unfinished.UnfinishedCommands.excludes.Goals as goal

pub returns-then-is_some : goal.returns-then-is_some
returns-then-is_some c = λ all f.
    let here : c.is_some.result ≡ list_any (is_about c.args.slot 0) all = c.is_some.ensures ∙ ap is_some c.kept_of_slot.ensures ∙ kept_about c.args.self.now all f c.args.slot 0 in
    c.if-is_some.true ∙ sym (ap (λ b. b || list_any (is_about c.args.slot c.args.endpoint) all) (sym here ∙ c.if-is_some.true))

pub returns-else-is_some : goal.returns-else-is_some
returns-else-is_some c = λ all f.
    let here : c.is_some.result ≡ list_any (is_about c.args.slot 0) all = c.is_some.ensures ∙ ap is_some c.kept_of_slot.ensures ∙ kept_about c.args.self.now all f c.args.slot 0 in
    c.is_some-else-is_some.ensures ∙ ap is_some c.kept.ensures ∙ kept_about c.args.self.now all f c.args.slot c.args.endpoint
    ∙ sym (ap (λ b. b || list_any (is_about c.args.slot c.args.endpoint) all) (sym here ∙ c.if-is_some.false))
