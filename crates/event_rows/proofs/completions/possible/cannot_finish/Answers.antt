use Rattle.event_rows.proofs.Laws.{ap, sym, ◌∙◌, not, can_finish, none_finishes}
use Rattle.event_rows.proofs.completions.possible.cannot_finish.Goals as goal

pub returns-in-None : goal.returns-in-None
returns-in-None c = λ k f g. sym (ap not (ap (λ o. can_finish k c.args.event o) c.in-None.is ∙ none_finishes k c.args.event))
