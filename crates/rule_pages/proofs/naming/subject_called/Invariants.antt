use Rattle.rule_pages.proofs.Words.{ℕ, ◌<◌, IfSome, slice_get, IsCalled}
use Rattle.rule_pages.proofs.naming.subject_called.Given as goal

-- none of those so far is called so
abbrev pub invariant-loop-subject : goal.invariant-loop-subject
invariant-loop-subject l = (k : ℕ) → k < l.subject-index → IfSome (slice_get l.subject-items k) (λ subject. IsCalled subject l.word → ⊥)
