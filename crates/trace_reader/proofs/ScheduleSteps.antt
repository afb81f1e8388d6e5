-- The first line of a schedule, and its printed lines
use Rattle.trace_reader.proofs.Words.{common_steps, ◌≡◌, ◌∷◌, ◌++◌, ℕ, List, false, true, Err, refl, ap, length, map, codes, arith, flat_map, TextLine, lines_of, BadHeader, Step, lines_say, is_schedule_version, schedule_of, step_line, printed_schedule, schedule_lines, schedule_version_fields, step_fields, printed_line}
use Rattle.trace_reader.proofs.LinePieces.{line_of}

pub no_text : (text : List ℕ) → length text ≡ 0 → schedule_of text ≡ Err (1, BadHeader)
unfolding schedule_of lines_of
no_text text none = grind (arith, common_steps)

pub no_version : (text rest : List ℕ) (line : TextLine) → lines_of text ≡ line ∷ lines_of rest → is_schedule_version line ≡ false → schedule_of text ≡ Err (1, BadHeader)
unfolding schedule_of
no_version text rest line are is = rw (are, is) refl

pub version_there : (text rest : List ℕ) (line : TextLine) → lines_of text ≡ line ∷ lines_of rest → is_schedule_version line ≡ true → schedule_of text ≡ lines_say step_line 2 (lines_of rest)
unfolding schedule_of
version_there text rest line are is = rw (are, is) refl

pub whole_schedule : (steps : List Step) → printed_schedule steps ≡ codes "xsched 1\n" ++ flat_map printed_line (map step_fields steps)
unfolding printed_schedule schedule_lines
whole_schedule steps = ap (λ xs. xs ++ flat_map printed_line (map step_fields steps)) (line_of schedule_version_fields)
