use Rattle.ring_knowledge.proofs.Words.{◌≡◌, Some, AreCleared, link_crossed}
use Rattle.ring_knowledge.proofs.ring_record.clear_links.Given as goal

abbrev pub invariant-loop-position : goal.invariant-loop-position
invariant-loop-position l = AreCleared (λ q j. link_crossed l.shape q ≡ Some j) l.fn.marks.items l.marks.items l.from l.position
