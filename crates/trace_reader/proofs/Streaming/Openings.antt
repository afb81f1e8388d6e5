-- What is read of a line before the first row
use Rattle.trace_reader.proofs.UpperLaws.{rules, ◌≡◌, inl, inr, ◌+◌, ◌<◌, ◌≤◌, ◌∷◌, ◌++◌, ◌∙◌, ℕ, List, [], Bool, true, false, Option, Some, None, Result, Ok, Err, refl, ap, sym, append_assoc, Row, lines_of-nothing, TextLine, lines_of, Consumes, Consumes-nil, Consumes-trans, LineFault, LineError, Fault, Memory, TraceSoFar, IfFault, state_of, State, behind_row, next_number, read_line, start, StreamFault, Device, RowReader, IsFilled, IsHeld, OfText, ahead_of, fault_of, IsOpened, IsTold, progress_of, behind_line, opened_by, with_rows, opened, opened_in, BadHeader, no_size, no_version, size_read, version_read, step_from_read, Line, NoMemory, bad_ahead, none_held, IsCut, ended_behind, ended_lines, ended_if_read, three, Comes}

-- ---- one line more

-- what is read behind a line
behind : State × Option Row → Result (State × Option Row) LineFault → State × Option Row
behind other (Ok p) = p
behind other (Err fault) = other

abbrev good : State × Option Row → Result (State × Option Row) LineFault
good p = Ok p

same_step : (a b : State × Option Row) → good a ≡ good b → a ≡ b
unfolding behind
same_step a b is = ap (behind a) is

pub record IsStep (st : State) (p : State × Option Row) : Type 0 where
  pub lines : p.0.lines ≡ next_number st
  pub row : (row : Row) → p.1 ≡ Some row → (2 ≤ st.lines) × (p.0 ≡ behind_row st row)
  pub later : p.1 ≡ None → p.0.later ≡ st.later
  pub kept : p.1 ≡ None → p.0.keeps ≡ st.keeps

no_row : (st next : State) (p : State × Option Row) → next.lines ≡ next_number st → next.later ≡ st.later → next.keeps ≡ st.keeps → (next, None) ≡ p → IsStep st p
no_row st next p lines later kept is = record {
  lines = sym (ap (λ (q : State × Option Row). q.0.lines) is) ∙ lines;
  row = λ row some. let none : None ≡ Some row = ap (λ (q : State × Option Row). q.1) is ∙ some in cc none;
  later = λ none. sym (ap (λ (q : State × Option Row). q.0.later) is) ∙ later;
  kept = λ none. sym (ap (λ (q : State × Option Row). q.0.keeps) is) ∙ kept;
}

pub step_of : (st : State) (line : TextLine) (p : State × Option Row) → read_line st line ≡ Ok p → IsStep st p
step_of st line p is =
    elim (three st.lines) [
      | inl first ↦ search (rules, no_row, same_step, version_read, no_version)
      | inr later ↦
          elim later [
            | inl second ↦ search (rules, no_row, same_step, size_read, no_size)
            | inr behind ↦ let s = step_from_read st line p behind is in search (rules, no_row)
          ]
    ]

-- ---- what opening makes of the line

opened_at : (st : State) (text : List ℕ) (line : TextLine) (lines : List TextLine) (r : Result (State × Option Row) LineFault) → lines_of text ≡ line ∷ lines → read_line st line ≡ r →
    opened_in st (lines_of text) text ≡ opened_by st text r (λ next. opened_in next lines (behind_line text))
unfolding opened_in
opened_at st text line lines r are is = ap (λ ls. opened_in st ls text) are ∙ ap (λ s. opened_by st text s (λ next. opened_in next lines (behind_line text))) is

pub ring_read : (st next : State) (ahead rest left later : List ℕ) (line : TextLine) → IsCut ahead line rest → read_line st line ≡ Ok (next, None) → left ≡ rest →
    opened_in st (lines_of (ahead ++ later)) (ahead ++ later) ≡ opened_in next (lines_of (left ++ later)) (left ++ later)
ring_read st next ahead rest left later line cut read is =
    let ended = ended_if_read st line (next, None) read in
    opened_at st (ahead ++ later) line (lines_of (rest ++ later)) (Ok (next, None)) (ended_lines ahead rest later line cut ended) read
    ∙ ap (λ t. opened_in next (lines_of (rest ++ later)) t) (ended_behind ahead rest later line cut ended) ∙ ap (λ r. opened_in next (lines_of (r ++ later)) (r ++ later)) (sym is)

pub row_next : (st next : State) (ahead rest later : List ℕ) (line : TextLine) (row : Row) → IsCut ahead line rest → read_line st line ≡ Ok (next, Some row) →
    opened_in st (lines_of (ahead ++ later)) (ahead ++ later) ≡ Ok (with_rows st false, ahead ++ later)
row_next st next ahead rest later line row cut read =
    opened_at st (ahead ++ later) line (lines_of (rest ++ later)) (Ok (next, Some row)) (ended_lines ahead rest later line cut (ended_if_read st line (next, Some row) read)) read

pub bad_next : (st : State) (held : Option (List ℕ)) (ahead rest : List ℕ) (line : TextLine) (fault : LineFault) → IsCut ahead line rest → lines_of ahead ≡ line ∷ lines_of rest →
    read_line st line ≡ Err fault → IsFilled true held ahead →
    (later : List ℕ) × IsHeld held later × (opened_in st (lines_of (ahead ++ later)) (ahead ++ later) ≡ Err (next_number st, fault))
bad_next st held ahead rest line fault cut lines read filled =
    let bad = bad_ahead st held ahead rest line fault cut read lines filled in
    (bad.later, bad.is, opened_at st (ahead ++ bad.later) bad.first bad.others (Err fault) bad.are bad.bad)

-- ---- what is told of the line

module _ (st next : State) {ahead rest : List ℕ} (left : List ℕ) {line : TextLine} (cut : IsCut ahead line rest) where
  pub told_row : (row : Row) → read_line st line ≡ Ok (next, Some row) → left ≡ ahead → IsTold st ahead next left (Ok true)
  told_row row read same =
      let step = (step_of st line (next, Some row) read).row row refl in
      ((row, step.1), step.0, λ later. row_next st next ahead rest later line row cut read ∙ ap (λ l. Ok (with_rows st false, l ++ later)) (sym same))

  pub told_ring : read_line st line ≡ Ok (next, None) → (line.is_ended ≡ true → left ≡ rest) → IsTold st ahead next left (Ok false)
  told_ring read is = search (rules, step_of, ring_read, ended_if_read)

  pub told_bad : (number : ℕ) (e : LineError) → lines_of ahead ≡ line ∷ lines_of rest → number ≡ next_number st → IfFault e (λ fault. read_line st line ≡ Err fault) →
      IsTold st ahead next left (Err (fault_of number e))
  told_bad number (Fault fault) lines at bad =
      λ held filled.
      let b = bad_next st held ahead rest line fault cut lines bad filled in
      (b.0, b.1, b.2 ∙ ap (λ n. Err (n, fault)) (sym at))
  told_bad number Memory lines at bad = tt

-- ---- the lines so far

-- bytes came, and of the text that they begin the lines before those that stand ahead were read
pub record HasRead (keeps : Bool) (held held' : Option (List ℕ)) (so_far : TraceSoFar) (ahead : List ℕ) : Type 0 where
  pub came : List ℕ
  pub consumed : Consumes held held' came
  pub none : so_far.later.items ≡ []
  pub kept : so_far.keeps ≡ keeps
  pub goes_on : (later : List ℕ) → opened keeps (came ++ later) ≡ opened_in (state_of so_far) (lines_of (ahead ++ later)) (ahead ++ later)

pub nothing_read : (keeps : Bool) (held : Option (List ℕ)) (so_far : TraceSoFar) (ahead : List ℕ) → state_of so_far ≡ start keeps → ahead ≡ [] → HasRead keeps held held so_far ahead
unfolding opened
nothing_read keeps held so_far ahead state empty = record {
  came = [];
  consumed = Consumes-nil held;
  none = ap (λ (s : State). s.later) state;
  kept = ap (λ (s : State). s.keeps) state;
  goes_on = λ later.
      ap (λ (s : State). opened_in s (lines_of later) later) (sym state) ∙ ap (λ a. opened_in (state_of so_far) (lines_of (a ++ later)) (a ++ later)) (sym empty);
}

module _ {keeps : Bool} {held held' : Option (List ℕ)} (held'' : Option (List ℕ)) {so_far : TraceSoFar} {ahead : List ℕ} (ahead' : List ℕ) (read : HasRead keeps held held' so_far ahead) (comes : Comes held' held'' ahead ahead') where
  pub more_came : HasRead keeps held held'' so_far ahead'
  more_came = record {
    came = read.came ++ comes.0;
    consumed = Consumes-trans held held' held'' read.came comes.0 read.consumed comes.1;
    none = read.none;
    kept = read.kept;
    goes_on = λ later.
        ap (opened keeps) (append_assoc read.came comes.0 later) ∙ read.goes_on (comes.0 ++ later)
        ∙ ap (λ t. opened_in (state_of so_far) (lines_of t) t) (sym (append_assoc ahead comes.0 later) ∙ ap (λ a. a ++ later) (sym comes.2));
  }

module _ {keeps : Bool} {held held' : Option (List ℕ)} {so_far : TraceSoFar} {ahead : List ℕ} (read : HasRead keeps held held' so_far ahead) where
  pub line_more : (so_far' : TraceSoFar) (left : List ℕ) → IsTold (state_of so_far) ahead (state_of so_far') left (Ok false) → HasRead keeps held held' so_far' left
  line_more so_far' left told = record { came = read.came; consumed = read.consumed; none = told.0 ∙ read.none; kept = told.3 ∙ read.kept; goes_on = λ later. read.goes_on later ∙ told.2 later }

  -- ---- where it ends

  bad_line_told : (so_far' : TraceSoFar) (left : List ℕ) (line : ℕ) (fault : LineFault) → IsTold (state_of so_far) ahead (state_of so_far') left (Err (Line line fault)) → IsFilled true held' ahead →
      IsOpened keeps held held' (Err (Line line fault))
  bad_line_told so_far' left line fault told filled =
      let bad = told held' filled in
      (read.came, read.consumed, (bad.0, bad.1, read.goes_on bad.0 ∙ bad.2))

  pub fault_told : (so_far' : TraceSoFar) (left : List ℕ) (fault : StreamFault) → IsTold (state_of so_far) ahead (state_of so_far') left (Err fault) → IsFilled true held' ahead → IsOpened keeps held held' (Err fault)
  fault_told so_far' left (Line line fault) told filled = bad_line_told so_far' left line fault told filled
  fault_told so_far' left Device told filled = absurd told
  fault_told so_far' left NoMemory told filled = tt

  at_the_end : IsFilled false held' ahead → opened keeps (read.came ++ []) ≡ opened_in (state_of so_far) [] []
  at_the_end none = search (rules, lines_of-nothing)

  pub no_header_told : (line : ℕ) → IsFilled false held' ahead → so_far.lines < 2 → line ≡ so_far.lines + 1 → IsOpened keeps held held' (Err (Line line BadHeader))
  unfolding opened_in
  no_header_told line none few at = search (rules, none_held, at_the_end)

  -- the reader that stands before the rows
  progress_is : (reader : RowReader) (st : State) (ended : Bool) → (progress_of reader).read ≡ record st { begun = true } → reader.ended ≡ ended → with_rows st ended ≡ progress_of reader
  progress_is reader st ended is over = λ k. record { read = sym is k; ended = sym over k }

  opened_with : (reader : RowReader) (ended : Bool) (left : List ℕ) → reader.keeps ≡ keeps → reader.ended ≡ ended → ahead_of reader.ahead ≡ left →
      OfText ended held held' [] left (λ text l. opened keeps text ≡ Ok (progress_of reader, l)) → IsOpened keeps held held' (Ok reader)
  opened_with reader ended left kept over is so = (kept, rw (← over, ← is) at so)

  -- no ring has come
  none_later : record (state_of so_far) { begun = true; later = [] } ≡ record (state_of so_far) { begun = true }
  none_later = λ k. record (state_of so_far) { begun = true; later = sym read.none k }

  pub end_told : (reader : RowReader) → IsFilled false held' ahead → 2 ≤ so_far.lines → (progress_of reader).read ≡ record (state_of so_far) { lines = so_far.lines; begun = true; later = [] } →
      reader.ended ≡ true → ahead_of reader.ahead ≡ ahead → IsOpened keeps held held' (Ok reader)
  unfolding opened_in
  end_told reader none there is over same = search (rules, progress_is, none_later, opened_with, none_held, at_the_end)

  pub row_told : (so_far' : TraceSoFar) (left : List ℕ) (reader : RowReader) → IsTold (state_of so_far) ahead (state_of so_far') left (Ok true) →
      (progress_of reader).read ≡ record (state_of so_far') { lines = so_far.lines; begun = true; later = [] } → reader.ended ≡ false → ahead_of reader.ahead ≡ left → IsOpened keeps held held' (Ok reader)
  row_told so_far' left reader told is over same = search (rules, none_later, progress_is, opened_with)
