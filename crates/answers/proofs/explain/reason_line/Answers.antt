use Rattle.answers.proofs.Laws.{rules, string_bytes}
use Rattle.answers.proofs.explain.reason_line.Goals as goal

pub returns : goal.returns
returns c = (string_bytes c.in_ok-reason.reason, search (rules, c.in_ok-note.ensures.ok))
