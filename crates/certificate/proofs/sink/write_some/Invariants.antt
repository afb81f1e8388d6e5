use Rattle.certificate.proofs.Words.{Keeps}
use Rattle.certificate.proofs.sink.write_some.Given as goal

-- what was tried so far took nothing
abbrev pub invariant-loop : goal.invariant-loop
invariant-loop g l = Keeps (g.W.Write.contents l.fn.writer) (g.W.Write.contents l.writer)
