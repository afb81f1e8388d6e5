use Rattle.answers.proofs.Words.{◌≡◌, subst, sym, IfOk, string_bytes, end_text, ReplayEnd}
use Rattle.answers.proofs.replay_lines.end_line.Goals as goal

pub returns-in-NotPossible : goal.returns-in-NotPossible
returns-in-NotPossible c =
    let P : ReplayEnd → Type 0 = λ ending. IfOk c.stuck_line.result (λ line. string_bytes line ≡ end_text ending) in
    subst P (sym c.in-NotPossible.is) c.stuck_line.ensures
