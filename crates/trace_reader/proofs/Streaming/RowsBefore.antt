-- The rows that calls give are those of the lines before the bad one, by their numbers
use Rattle.trace_reader.proofs.UpperLaws.{rules, ◌≡◌, ◌+◌, ◌≤◌, ◌∷◌, ◌∙◌, ℕ, List, [], true, false, Option, Some, None, Result, Ok, Err, refl, ap, subst, length, map, take, arith, Row, TextLine, lines_of, LineFault, State, go_on, next_number, read_line, with_row, read_lines, behind_line, call_on, next_row, AreNumbered, AreOfLines, IsBehind, answered, rows_given, ended_if_read}
use Rattle.trace_reader.proofs.Streaming.CallsJoined.{lines_left, no_ring_read}
use Rattle.trace_reader.proofs.Streaming.Openings.{step_of}

abbrev LinesLaw : List TextLine → Type 0
LinesLaw lines = (st : State) (text : List ℕ) → lines_of text ≡ lines → st.begun ≡ true → 2 ≤ st.lines → AreOfLines st lines (rows_given lines (record { read = st; ended = false }) text)

module _ (st : State) (text : List ℕ) (line : TextLine) (lines : List TextLine) (are : lines_of text ≡ line ∷ lines) (begun : st.begun ≡ true) (behind : 2 ≤ st.lines) (later : LinesLaw lines) where
  by_line : (r : Result (State × Option Row) LineFault) → read_line st line ≡ r →
      AreOfLines st (line ∷ lines) (answered (call_on st text r).answer (rows_given lines (call_on st text r).progress (call_on st text r).left))
  unfolding read_lines
  by_line (Ok (next, Some row)) is =
      let step = (step_of st line (next, Some row) is).row row refl in
      let number : next.lines ≡ next_number st = ap (λ (s : State). s.lines) step.1 in
      let given = rows_given lines (record { read = next; ended = false }) (behind_line text) in
      let rest = later next (behind_line text) (lines_left text line lines are (ended_if_read st line (next, Some row) is)) (ap (λ (s : State). s.begun) step.1) (omega (arith, behind, number)) in
      let read : read_lines st (take (length ((next.lines, row) ∷ given.0)) (line ∷ lines)) ≡ Ok (rest.1.0, row ∷ map (λ r. r.1) given.0) =
      ap (λ r. go_on (next_number st) r (λ after. read_lines after (take (length given.0) lines))) is ∙ ap (with_row (Some row)) rest.1.1 in (
        (number, subst (λ (n : ℕ). AreNumbered (n + 1) given.0) number rest.0),
        (rest.1.0, read),
        subst (λ (n : ℕ). IsBehind n ((next.lines, row) ∷ given.0, given.1)) number (search rules),
      )
  by_line (Ok (next, None)) is = absurd (no_ring_read st next line begun behind is)
  by_line (Err fault) is = (tt, (st, refl), omega arith)

-- where calls tell a bad line, the rows before it are those that the lines before it say
pub rows_of_lines : (lines : List TextLine) → LinesLaw lines
unfolding read_lines next_row
rows_of_lines [] = λ st text are begun behind. rw are (tt, (st, refl), tt)
rows_of_lines (line ∷ lines) = λ st text are begun behind. rw are
    (by_line st text line lines are begun behind (rows_of_lines lines) (read_line st line) refl)
