use Rattle.ownership_checker.proofs.RingPasses.KeptRows.{IsPassedTo}
use Rattle.ownership_checker.proofs.pass.kept.pass_kept.Given as goal

abbrev pub invariant-loop-row : goal.invariant-loop-row
invariant-loop-row g l = IsPassedTo g.M.WordMemory.words g.B.LeaseLog.holds l.fn.header l.first l.rows l.fn.log l.row-index l.number l.pass
