use Rattle.ownership_checker.proofs.Laws.{◌≡◌, ◌-◌, most_streamed_lines, IsUnderway}
use Rattle.ownership_checker.proofs.pass.reading.pass_followed.Given as goal

abbrev pub invariant-loop-pass : goal.invariant-loop-pass
invariant-loop-pass g l =
    IsUnderway (g.M.WordMemory.words) (g.B.LeaseLog.holds) l.fn.reader (g.S.Source.held l.fn.source) (g.S.Source.held l.source) l.fn.log l.reader l.pass × (g.S.Source.failed l.source ≡ g.S.Source.failed l.fn.source)

-- the lines that a trace may still have
abbrev pub decreases-loop-pass : goal.decreases-loop-pass
decreases-loop-pass g l = most_streamed_lines - l.reader.lines
