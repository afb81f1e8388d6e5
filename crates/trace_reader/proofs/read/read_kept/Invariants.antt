use Rattle.trace_reader.proofs.Laws.{length, lines_of, state_of, HasLines}
use Rattle.trace_reader.proofs.read.read_kept.Given as goal

-- the text that is left
abbrev pub decreases-loop-rest : goal.decreases-loop-rest
decreases-loop-rest l = length l.rest

abbrev pub invariant-loop-rest : goal.invariant-loop-rest
invariant-loop-rest l = HasLines l.keeps l.text l.rows.items (state_of l.so_far) (lines_of l.rest)
