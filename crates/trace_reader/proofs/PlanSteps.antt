-- The first two lines of a plan
use Rattle.trace_reader.proofs.Words.{rules, common_steps, ◌≡◌, ◌∷◌, ℕ, List, true, false, Ok, Err, refl, length, arith, TextLine, lines_of, LineError, BadHeader, BadRow, Ring, IfBadLine, at_line, AnswersBy, lines_say, is_plan_version, plan_behind, plan_line, plan_of, plan_ring, with_ring}

pub no_text : (text : List ℕ) → length text ≡ 0 → plan_of text ≡ Err (1, BadHeader)
unfolding plan_of lines_of
no_text text none = grind (arith, common_steps)

pub no_version : (text rest : List ℕ) (line : TextLine) → lines_of text ≡ line ∷ lines_of rest → is_plan_version line ≡ false → plan_of text ≡ Err (1, BadHeader)
unfolding plan_of
no_version text rest line are is = rw (are, is) refl

pub version_there : (text rest : List ℕ) (line : TextLine) → lines_of text ≡ line ∷ lines_of rest → is_plan_version line ≡ true → plan_of text ≡ plan_behind (lines_of rest)
unfolding plan_of
version_there text rest line are is = rw (are, is) refl

pub no_second : (text : List ℕ) → length text ≡ 0 → plan_behind (lines_of text) ≡ Err (2, BadRow)
unfolding lines_of
no_second text none = grind (arith, common_steps)

pub ring_taken : (text rest : List ℕ) (line : TextLine) (ring : Ring) → lines_of text ≡ line ∷ lines_of rest → plan_ring line ≡ Ok ring →
    plan_behind (lines_of text) ≡ with_ring (Ok ring) (lines_say plan_line 3 (lines_of rest))
ring_taken text rest line ring are is = rw (are, is) refl

pub no_ring_taken : (text rest : List ℕ) (line : TextLine) (e : LineError) → lines_of text ≡ line ∷ lines_of rest → AnswersBy {Answer = Ring} (λ ring. ring) (Err e) (plan_ring line) →
    IfBadLine (at_line 2 e) (λ number code. plan_behind (lines_of text) ≡ Err (number, code))
no_ring_taken text rest line e are is = search rules
