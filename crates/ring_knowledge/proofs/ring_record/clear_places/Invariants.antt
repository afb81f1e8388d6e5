use Rattle.ring_knowledge.proofs.Words.{◌≡◌, AreCleared, place_of}
use Rattle.ring_knowledge.proofs.ring_record.clear_places.Given as goal

abbrev pub invariant-loop-position : goal.invariant-loop-position
invariant-loop-position l = AreCleared (λ p i. place_of l.shape p ≡ i) l.fn.marks.items l.marks.items l.from l.position
