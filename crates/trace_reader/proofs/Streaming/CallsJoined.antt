-- All calls on a text say what is read of the whole text
use Rattle.trace_reader.proofs.UpperLaws.{rules, ◌≡◌, inl, inr, ◌+◌, ◌≤◌, ◌∷◌, ◌∙◌, ℕ, List, [], Bool, true, false, Option, Some, None, Result, Ok, Err, refl, ap, sym, length, map, arith, Row, lines_of-ended, lines_of-nothing, TextLine, lines_of, LineFault, State, behind_row, go_on, next_number, read_line, start, trace_of, whole, with_said, Said, SaysRing, SaysRow, behind_line, call_on, opened_by, next_row, opened, opened_in, GivenRows, answered, joined, joined_behind, read_by_calls, read_lines, rows_given, IsGood, read_from_good, step_from_read, cut, dropped, ended_if_read}
use Rattle.trace_reader.proofs.Streaming.FirstLines.{alone}
use Rattle.trace_reader.proofs.Streaming.Openings.{step_of}

-- ---- the lines that are left

empty_lines : (line : TextLine) (lines : List TextLine) → lines_of [] ≡ line ∷ lines → ⊥
empty_lines line lines are = let none : [] ≡ line ∷ lines = sym lines_of-nothing ∙ are in cc none

last_unended : (text : List ℕ) (line : TextLine) (lines : List TextLine) → lines_of text ≡ line ∷ lines → lines_of text ≡ record { content = text; is_ended = false } ∷ [] → line.is_ended ≡ true → ⊥
last_unended text line lines are last ended = search rules

pub lines_left : (text : List ℕ) (line : TextLine) (lines : List TextLine) → lines_of text ≡ line ∷ lines → line.is_ended ≡ true → lines_of (behind_line text) ≡ lines
lines_left [] line lines are ended = absurd (empty_lines line lines are)
lines_left (byte ∷ text) line lines are ended =
    elim (cut (byte ∷ text)) [
      | inl p ↦
          let same : line ∷ lines ≡ record { content = p.0; is_ended = true } ∷ lines_of p.1 = sym are ∙ ap lines_of p.2 ∙ lines_of-ended p.0 p.1 p.3 in
          ap (λ t. lines_of (behind_line t)) p.2 ∙ ap lines_of (dropped p.0 p.1 p.3) ∙ sym (cc same)
      | inr none ↦ absurd (last_unended (byte ∷ text) line lines are (alone (byte ∷ text) (omega arith) none) ended)
    ]

-- ---- the rows

pub no_ring_read : (st next : State) (line : TextLine) → st.begun ≡ true → 2 ≤ st.lines → read_line st line ≡ Ok (next, None) → ⊥
no_ring_read st next line begun behind is = let s = step_from_read st line (next, None) behind is in search rules

-- a row's line is read so too where rows have begun
row_alike : (st next : State) (line : TextLine) (row : Row) (said : Said) → 2 ≤ st.lines → IsGood st line said → with_said st (Some said) ≡ (next, Some row) →
    read_line (record st { begun = true }) line ≡ Ok (next, Some row)
row_alike st next line row (SaysRow other) behind good is =
    let kept : IsGood (record st { begun = true }) line (SaysRow other) =
    record { ended = good.ended; spelled = good.spelled; ordered = search rules; within = good.within; few = good.few; placed = good.placed } in
    read_from_good (record st { begun = true }) line (SaysRow other) behind kept ∙ ap (λ (p : State × Option Row). Ok p) is
row_alike st next line row (SaysRing ring) behind good is = let none : None ≡ Some row = ap (λ (p : State × Option Row). p.1) is in cc none

-- so is what calls gave, of what was read
abbrev IsRead : State → GivenRows → Result (State × List Row) (ℕ × LineFault) → Type 0
IsRead st (rows, None) (Ok (end, read)) = (map (λ r. r.1) rows ≡ read) × (end.version ≡ st.version) × (end.size ≡ st.size) × (end.rings ≡ st.rings) × (end.lines ≡ st.lines + length read)
IsRead st (rows, Some fault) (Err other) = fault ≡ other
IsRead st (rows, None) (Err other) = ⊥
IsRead st (rows, Some fault) (Ok read) = ⊥

given_more : (st next : State) (row : Row) (given : GivenRows) (lines : List TextLine) → next ≡ behind_row st row → IsRead next given (read_lines next lines) →
    IsRead st (answered (Ok (Some (next.lines, row))) given) (go_on (next_number st) (Ok (next, Some row)) (λ s. read_lines s lines))
given_more st next row given lines is so = search rules

abbrev RowsLaw : List TextLine → Type 0
RowsLaw lines =
    (st : State) (text : List ℕ) → lines_of text ≡ lines → st.begun ≡ true → 2 ≤ st.lines →
    IsRead st ((rows_given lines (record { read = st; ended = false }) text)) (read_lines st lines)

module _ (st : State) (text : List ℕ) (line : TextLine) (lines : List TextLine) (are : lines_of text ≡ line ∷ lines) (begun : st.begun ≡ true) (behind : 2 ≤ st.lines) (later : RowsLaw lines) where
  by_line : (r : Result (State × Option Row) LineFault) → read_line st line ≡ r →
      IsRead st ((answered (call_on st text r).answer (rows_given lines (call_on st text r).progress (call_on st text r).left)))
      (go_on (next_number st) r (λ next. read_lines next lines))
  by_line (Ok (next, Some row)) is =
      let step = (step_of st line (next, Some row) is).row row refl in
      grind (arith, ended_if_read, given_more, lines_left)
  by_line (Ok (next, None)) is = absurd (no_ring_read st next line begun behind is)
  by_line (Err fault) is = refl

rows_law : (lines : List TextLine) → RowsLaw lines
unfolding read_lines next_row
rows_law [] = λ st text are begun behind. rw are (refl, refl, refl, refl, omega arith)
rows_law (line ∷ lines) = λ st text are begun behind. rw are
    (by_line st text line lines are begun behind (rows_law lines) (read_line st line) refl)

-- ---- the whole text

closed : (st : State) (given : GivenRows) (read : Result (State × List Row) (ℕ × LineFault)) → 2 ≤ st.lines → IsRead st given read → joined st given ≡ whole read
closed st given read behind so = search rules

abbrev OpenLaw : List TextLine → Type 0
OpenLaw lines = (st : State) (text : List ℕ) → lines_of text ≡ lines → joined_behind (opened_in st lines text) ≡ whole (read_lines st lines)

module _ (st : State) (text : List ℕ) (line : TextLine) (lines : List TextLine) (are : lines_of text ≡ line ∷ lines) (later : OpenLaw lines) where
  opened_law : (r : Result (State × Option Row) LineFault) → read_line st line ≡ r →
      joined_behind (opened_by st text r (λ next. opened_in next lines (behind_line text))) ≡ whole (go_on (next_number st) r (λ next. read_lines next lines))
  unfolding read_lines
  opened_law (Ok (next, None)) is = search (rules, lines_left, ended_if_read)
  opened_law (Ok (next, Some row)) is =
      let step = (step_of st line (next, Some row) is).row row refl in
      let said = step_from_read st line (next, Some row) step.0 is in
      let begun : State = record st { begun = true } in
      let rows = rows_law (line ∷ lines) begun text are refl step.0 in
      ap (λ ls. joined begun ((rows_given ls (record { read = begun; ended = false }) text))) are
      ∙ closed begun ((rows_given (line ∷ lines) (record { read = begun; ended = false }) text)) (read_lines begun (line ∷ lines)) step.0 rows
      ∙ ap (λ r. whole (go_on (next_number st) r (λ next. read_lines next lines))) (row_alike st next line row said.0 step.0 said.1 said.2)
  opened_law (Err fault) is = refl

open_law : (lines : List TextLine) → OpenLaw lines
unfolding read_lines opened_in next_row
open_law [] = λ st text are. (search rules)
open_law (line ∷ lines) = λ st text are. opened_law st text line lines are (open_law lines) (read_line st line) refl

-- where the whole text says a trace, opening and the calls give its header and rows; where it has a bad line, they tell this one
pub calls_say_the_text : (keeps : Bool) (text : List ℕ) → read_by_calls keeps text ≡ trace_of keeps text
unfolding read_by_calls opened trace_of
calls_say_the_text keeps text = open_law (lines_of text) (start keeps) text refl
