use Rattle.trace_reader.proofs.Words.{◌≡◌, ◌+◌, ◌-◌, length, ahead_of, Comes}
use Rattle.traces.specs.Limits.{most_trace_bytes}
use Rattle.trace_reader.proofs.row_reader.ahead.Ahead.fill_line.Given as goal

abbrev pub invariant-loop-self : goal.invariant-loop-self
invariant-loop-self g l = Comes (g.S.Source.held l.fn.source) (g.S.Source.held l.source) (ahead_of l.fn.self) (ahead_of l.self) × (g.S.Source.failed l.source ≡ g.S.Source.failed l.fn.source)

-- the bytes that the line may still have
abbrev pub decreases-loop-self : goal.decreases-loop-self
decreases-loop-self g l = most_trace_bytes + 1 - length (ahead_of l.self)
