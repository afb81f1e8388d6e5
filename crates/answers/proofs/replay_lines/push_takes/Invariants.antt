use Rattle.answers.proofs.Words.{◌≡◌, ◌++◌, take, takes_text}
use Rattle.answers.proofs.replay_lines.push_takes.Given as goal

abbrev pub invariant-loop-shown : goal.invariant-loop-shown
invariant-loop-shown l = l.text.items ≡ l.initial.text.items ++ takes_text (take l.shown-index l.seen)
