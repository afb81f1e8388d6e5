-- The first rule that is broken, test by test
use Rattle.trace_record.proofs.BaseWords.{◌≡◌, ◌∷◌, List, [], None, refl, inl, inr, cases_Bool, Refusal, Test, broken_of, first_of, first_broken}

pub first_broken-is : (tests : List Test) → first_of (broken_of tests) ≡ first_broken tests
first_broken-is [] = refl
first_broken-is (t ∷ ts) = elim (cases_Bool t.1) [ inl breaks ↦ rw breaks refl | inr holds ↦ rw holds (first_broken-is ts) ]

pub nothing_broken : (rules : List Refusal) → first_of rules ≡ None → rules ≡ []
nothing_broken [] e = refl
nothing_broken (c ∷ cs) e = absurd (cc)
