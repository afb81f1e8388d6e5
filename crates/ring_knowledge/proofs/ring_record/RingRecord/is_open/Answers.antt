use Rattle.ring_knowledge.proofs.Words.{◌≡◌, ℕ, Bool, true, false, Option, Some, None, refl, ap, sym, ◌∙◌, is_open, is_none, is_some, not}
use Rattle.ring_knowledge.proofs.ring_record.RingRecord.is_open.Goals as goal

none_is : (o : Option ℕ) (b : Bool) → is_some o ≡ not b → b ≡ is_none o
none_is None true e = refl
none_is None false e = absurd (cc)
none_is (Some n) true e = absurd (cc)
none_is (Some n) false e = refl

pub returns : goal.returns
unfolding is_open
returns c = λ shape v known. none_is c.args.self.now.held c.is_none.result c.is_none.ensures ∙ ap is_none (sym known.marks.held)
