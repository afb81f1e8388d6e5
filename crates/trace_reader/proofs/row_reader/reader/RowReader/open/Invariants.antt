use Rattle.trace_reader.proofs.Laws.{◌≡◌, ◌-◌, most_streamed_lines, ahead_of, HasRead}
use Rattle.trace_reader.proofs.row_reader.reader.RowReader.open.Given as goal

abbrev pub invariant-loop-ahead : goal.invariant-loop-ahead
invariant-loop-ahead g l = HasRead l.fn.keeps (g.S.Source.held l.fn.source) (g.S.Source.held l.source) l.so_far (ahead_of l.ahead) × (g.S.Source.failed l.source ≡ g.S.Source.failed l.fn.source)

-- the lines that a trace may still have
abbrev pub decreases-loop-ahead : goal.decreases-loop-ahead
decreases-loop-ahead g l = most_streamed_lines - l.so_far.lines
