-- A row that breaks no rule fails none of its tests
use Rattle.safety.proofs.Words.{[], ◌≡◌, ◌||◌, ◌∷◌, ◌∙◌, Bool, true, false, List, map, All, refl, sym, ap, get_or, list_any, cond-true, cond-false, false≢true, false_from_ne_true, list_any_at, Header, Row, Known, Test, broken_of, lenient_tests, lenient, rules}
use Rattle.safety.proofs.HeaderRings.Lenient.{some_none}

-- before a stop, and with no test failed
pub clean_tests : (h : Header) (k : Known) (row : Row) → lenient h k row ≡ [] → (k.stopped ≡ false) × (broken_of (lenient_tests h k row) ≡ [])
unfolding lenient
clean_tests h k row clean = search (rules, some_none, cond-true, k.stopped, broken_of, lenient_tests, cond-false)

-- each test fails
abbrev pub AllFail : List Test → Type 0
AllFail [] = Unit {0}
AllFail (t ∷ ts) = (t.1 ≡ false) × AllFail ts

all_fail : (ts : List Test) → broken_of ts ≡ [] → AllFail ts
all_fail [] clean = tt
all_fail ((c, true) ∷ ts) clean = absurd (some_none c (broken_of ts) clean)
all_fail ((c, false) ∷ ts) clean = (refl, all_fail ts clean)

pub tests_fail : (h : Header) (k : Known) (row : Row) → lenient h k row ≡ [] → AllFail (lenient_tests h k row)
tests_fail h k row clean = all_fail (lenient_tests h k row) (clean_tests h k row clean).1

-- where none passes a test each fails it
pub each_fails : {X : Type 0} (test : X → Bool) (xs : List X) → list_any test xs ≡ false → All (λ x. test x ≡ false) xs
each_fails test xs none k d h = false_from_ne_true (test (get_or xs k d)) (λ passes. false≢true (sym none ∙ list_any_at test xs k d h passes))

-- a test of what a function makes of each
pub any_of_map : {X Y : Type 0} (test : Y → Bool) (f : X → Y) (xs : List X) → list_any test (map f xs) ≡ list_any (λ x. test (f x)) xs
any_of_map test f [] = refl
any_of_map test f (x ∷ rest) = ap (λ b. test (f x) || b) (any_of_map test f rest)
