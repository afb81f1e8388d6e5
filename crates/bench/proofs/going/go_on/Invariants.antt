use Rattle.bench.proofs.Words.{List, Header, Row, IsBenchOf, IsJudging}
use Rattle.bench.proofs.going.go_on.Given as goal

-- the bench stands for the same rows, and judges the next where it did
abbrev pub invariant-loop : goal.invariant-loop
invariant-loop g l = record {
  rows : (h : Header) (past : List Row) → IsBenchOf g.M.WordMemory.words h past l.fn.bench → IsBenchOf g.M.WordMemory.words h past l.bench;
  judging : IsJudging l.fn.bench → IsJudging l.bench;
}
