use Rattle.answers.proofs.Words.{◌≤◌, length, take, Appends}
use Rattle.answers.proofs.telling.write_some.Given as goal

abbrev pub invariant-loop : goal.invariant-loop
invariant-loop g l = (l.done ≤ length l.bytes) × Appends (g.W.Write.contents l.fn.writer) (g.W.Write.contents l.writer) (take l.done l.bytes)
