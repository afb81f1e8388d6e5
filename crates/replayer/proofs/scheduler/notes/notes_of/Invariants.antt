use Rattle.replayer.proofs.Schedules.Noting.{IsNoted}
use Rattle.replayer.proofs.scheduler.notes.notes_of.Given as goal

abbrev pub invariant-loop-row : goal.invariant-loop-row
invariant-loop-row g l = IsNoted (g.M.WordMemory.words) l.fn.header l.rows l.first l.row-index l.number l.pass l.list.items
