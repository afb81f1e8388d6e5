use Rattle.ownership_checker.proofs.Laws.{◌≡◌, ◌-◌, most_streamed_lines, IsReadOn}
use Rattle.ownership_checker.proofs.pass.reading.read_on.Given as goal

abbrev pub invariant-loop-next : goal.invariant-loop-next
invariant-loop-next g l = IsReadOn l.fn.reader (g.S.Source.held l.fn.source) (g.S.Source.held l.source) l.reader × (g.S.Source.failed l.source ≡ g.S.Source.failed l.fn.source)

-- the lines that a trace may still have
abbrev pub decreases-loop-next : goal.decreases-loop-next
decreases-loop-next g l = most_streamed_lines - l.reader.lines
