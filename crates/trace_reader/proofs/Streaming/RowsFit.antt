-- A row that is answered fits the fields of its type
use Rattle.trace_reader.proofs.UpperLaws.{◌≡◌, ◌≤◌, ◌∷◌, ◌++◌, ℕ, Bool, true, false, List, [], Option, Some, None, Result, Ok, Err, refl, ap, sym, ◌∙◌, call_in, call_on, LineFault, All-head, IfOk, IfSome, Row, IsTraceRow, TextLine, lines_of, State, read_line, read_lines, ahead_of, IsCall, has_ended, progress_of, Call, Progress, next_row, StreamFault, RowReader, IsRowOf, read_on, spells_from_read, call_of}

line_says : (st next : State) (line : TextLine) (row : Row) → 2 ≤ st.lines → read_line st line ≡ Ok (next, Some row) → IsTraceRow row
unfolding read_lines
line_says st next line row behind is =
    (All-head (IsRowOf st.version) row [] (spells_from_read (line ∷ []) st (next, row ∷ []) behind (read_on st next line [] (Some row) next [] is refl)).are.fit).0

module _ (st : State) (behind : 2 ≤ st.lines) (p' : Progress) (text left : List ℕ) (row : ℕ × Row) where
  abbrev GivesRow : Call → Type 0
  GivesRow c = c ≡ record { answer = Ok (Some row); progress = p'; left = left }

  none_over : GivesRow (next_row (record { read = st; ended = true }) text) → ⊥
  unfolding next_row
  none_over gives = let none = ap (λ (c : Call). c.answer) gives in cc none

  row_read : (r : Result (State × Option Row) LineFault) → GivesRow (call_on st text r) → (next : State) × (r ≡ Ok (next, Some row.1))
  row_read (Ok (next, Some other)) gives =
      let same : ◌≡◌ {A = Result (Option (ℕ × Row)) (ℕ × LineFault)} (Ok (Some (next.lines, other))) (Ok (Some row)) = ap (λ (c : Call). c.answer) gives in
      let pair : (next.lines, other) ≡ row = cc same in (next, ap (λ (r : ℕ × Row). Ok (next, Some r.1)) pair)
  row_read (Ok (next, None)) gives = let none = ap (λ (c : Call). c.answer) gives in cc none
  row_read (Err fault) gives = let none = ap (λ (c : Call). c.answer) gives in cc none

  in_text : (lines : List TextLine) → lines_of text ≡ lines → GivesRow (next_row (record { read = st; ended = false }) text) → IsTraceRow row.1
  unfolding next_row
  in_text [] are gives = let none = ap (λ (c : Call). c.answer) (sym (ap (call_in st text) are) ∙ gives) in cc none
  in_text (line ∷ lines) are gives = let read = row_read (read_line st line) (sym (call_of st text line lines are) ∙ gives) in line_says st read.0 line row.1 behind read.1

of_call : (held held' : Option (List ℕ)) (ahead ahead' : List ℕ) (st st' : State) (ended : Bool) (row : ℕ × Row) → 2 ≤ st.lines →
    IsCall (record { read = st; ended = ended }) (record { read = st'; ended = false }) held held' ahead ahead' (Ok (Some row)) → IsTraceRow row.1
of_call held held' ahead ahead' st st' true row behind (came, used, all) = absurd (none_over st behind (record { read = st'; ended = false }) (ahead ++ came ++ []) (ahead' ++ []) row (all []))
of_call held held' ahead ahead' st st' false row behind (came, used, all) =
    in_text st behind (record { read = st'; ended = false }) (ahead ++ came ++ []) (ahead' ++ []) row (lines_of (ahead ++ came ++ [])) refl (all [])

-- of a call by the reader
pub answer_fits : (held held' : Option (List ℕ)) (r r' : RowReader) (result : Result (Option (ℕ × Row)) StreamFault) → r'.ended ≡ has_ended result →
    IsCall (progress_of r) (progress_of r') held held' (ahead_of r.ahead) (ahead_of r'.ahead) result → IfOk result (λ found. IfSome found (λ row. IsTraceRow row.1))
answer_fits held held' r r' (Ok (Some row)) on call =
    of_call held held' (ahead_of r.ahead) (ahead_of r'.ahead) (progress_of r).read (progress_of r').read r.ended row r.behind (rw on at call)
answer_fits held held' r r' (Ok None) on call = tt
answer_fits held held' r r' (Err fault) on call = tt
