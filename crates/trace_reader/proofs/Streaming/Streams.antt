-- The rows so far and what further calls give are what the whole text says
use Rattle.trace_reader.proofs.UpperLaws.{arith, common_steps, rules, ◌≡◌, ◌+◌, ◌∷◌, ◌++◌, ◌∙◌, ℕ, List, [], Bool, true, false, Option, Some, None, Result, Ok, Err, refl, ap, sym, subst, append-nil, append_assoc, Consumes-trans, Header, Row, TextLine, lines_of, LineFault, trace_of, State, TraceText, next_number, RowReader, OfLater, OfText, ahead_of, IsCall, IsSameTrace, IsOpened, progress_of, Call, Progress, opened, next_row, IsBadLine, IsReadTo, OfStream, read_with, GivenRows, answered, joined_behind, rows_given, read_by_calls, Line, call_of, ended_if_read}
use Rattle.trace_reader.specs.Streaming.Streams.{HasRead}
use Rattle.trace_reader.proofs.Streaming.CallsJoined.{calls_say_the_text, lines_left}
use Rattle.trace_reader.proofs.Streaming.Openings.{step_of}

-- ---- of a text, what follows of it

later_too : (ended : Bool) (held : Option (List ℕ)) (P Q : List ℕ → Type 0) → ((later : List ℕ) → P later → Q later) → OfLater ended held P → OfLater ended held Q
later_too ended held P Q step all = search rules

text_too : (ended : Bool) (held held' : Option (List ℕ)) (ahead ahead' : List ℕ) (P Q : List ℕ → List ℕ → Type 0) → ((text left : List ℕ) → P text left → Q text left) →
    OfText ended held held' ahead ahead' P → OfText ended held held' ahead ahead' Q
text_too ended held held' ahead ahead' P Q step (came, used, so) = search (rules, later_too)

-- what came before and what came now
text_then : (ended : Bool) (held held' held'' : Option (List ℕ)) (ahead ahead' : List ℕ) (P Q R : List ℕ → List ℕ → Type 0) →
    ((text left left' : List ℕ) → P text left → Q left left' → R text left') → OfText false held held' [] ahead P → OfText ended held' held'' ahead ahead' Q →
    OfText ended held held'' [] ahead' R
text_then ended held held' held'' ahead ahead' P Q R step (came, used, all) (more, used', so) = (
  came ++ more,
  Consumes-trans held held' held'' came more used used',
  later_too ended held'' (λ later. Q (ahead ++ more ++ later) (ahead' ++ later)) (λ later. R ((came ++ more) ++ later) (ahead' ++ later)) (λ later q.
      subst (λ (text : List ℕ). R text (ahead' ++ later)) (sym (append_assoc came more later))
      (step (came ++ (more ++ later)) ((ahead ++ more) ++ later) (ahead' ++ later) (subst (P (came ++ (more ++ later))) (sym (append_assoc ahead more later)) (all (more ++ later))) q)) so,
)

-- where the device's bytes are known the text is these
pub known_text : (bytes : List ℕ) (held' : Option (List ℕ)) (P : List ℕ → Type 0) → OfStream (Some bytes) held' P → P bytes
known_text bytes held' P x3 = search rules

-- ---- one call, and those behind it

over : (st : State) (lines : List TextLine) (left : List ℕ) → rows_given lines (record { read = st; ended = true }) left ≡ ([], None)
unfolding next_row
over st [] left = refl
over st (line ∷ lines) left = refl

given_first : (p : Progress) (left : List ℕ) (c : Call) (lines : List TextLine) → next_row p left ≡ c → (given : GivenRows) × (rows_given lines p left ≡ answered c.answer given)
given_first p left c [] is = (([], None), ap (λ (d : Call). answered d.answer ([], None)) is)
given_first p left c (line ∷ lines) is = (rows_given lines c.progress c.left, ap (λ (d : Call). answered d.answer (rows_given lines d.progress d.left)) is)

none_given : (p p' : Progress) (left left' : List ℕ) (lines : List TextLine) → next_row p left ≡ record { answer = Ok None; progress = p'; left = left' } → rows_given lines p left ≡ ([], None)
none_given p p' left left' lines is = (given_first p left (record { answer = Ok None; progress = p'; left = left' }) lines is).1

bad_given : (p p' : Progress) (left left' : List ℕ) (fault : ℕ × LineFault) (lines : List TextLine) → next_row p left ≡ record { answer = Err fault; progress = p'; left = left' } →
    rows_given lines p left ≡ ([], Some fault)
bad_given p p' left left' fault lines is = (given_first p left (record { answer = Err fault; progress = p'; left = left' }) lines is).1

module _ (st : State) (p' : Progress) (left left' : List ℕ) (row : ℕ × Row) where
  abbrev GivesRow : Call → Type 0
  GivesRow c = c ≡ record { answer = Ok (Some row); progress = p'; left = left' }

  -- the line was read, and the others are left
  record LineRead (line : TextLine) (lines : List TextLine) : Type 0 where
    others : lines_of left' ≡ lines
    number : row.0 ≡ next_number st
    behind : p'.read.lines ≡ row.0

  over_gives : GivesRow (next_row (record { read = st; ended = true }) left) → ⊥
  unfolding next_row
  over_gives gives = let none = ap (λ (c : Call). c.answer) gives in cc none

  row_line : (lines : List TextLine) → lines_of left ≡ lines → GivesRow (next_row (record { read = st; ended = false }) left) → (line : TextLine) × (others : List TextLine) × (lines_of left ≡ line ∷ others) × LineRead line others
  unfolding next_row
  row_line lines are gives = search (rules, call_of, step_of, ended_if_read, lines_left)

  row_given : GivesRow (next_row (record { read = st; ended = false }) left) →
      rows_given (lines_of left) (record { read = st; ended = false }) left ≡ answered (Ok (Some row)) (rows_given (lines_of left') p' left')
  row_given gives = grind (arith, row_line, Ok, row_line (lines_of left) refl gives)

-- ---- the rows so far

module _ (h : Header) (first : ℕ) (done : List Row) where
  -- the row is one of the rows so far
  row_noted : (row : ℕ × Row) (given : GivenRows) → read_with h first done (answered (Ok (Some row)) given) ≡ read_with h first (done ++ row.1 ∷ []) given
  row_noted row given = grind (arith, common_steps)

  with_none : read_with h first done ([], None) ≡ Ok (record { header = h; first = first; rows = done })
  with_none = ap (λ (rs : List Row). Ok (record { header = h; first = first; rows = rs })) (append-nil done)

opened_so : (keeps : Bool) (st : State) (ended : Bool) (text left : List ℕ) → opened keeps text ≡ Ok (record { read = st; ended = ended }, left) →
    trace_of keeps text ≡ read_with (record { version = st.version; context_size = st.size; rings = st.rings }) (st.lines + 1) [] ((rows_given (lines_of left) (record { read = st; ended = ended }) left))
unfolding read_by_calls
opened_so keeps st ended text left is =
    sym (calls_say_the_text keeps text) ∙ ap (joined_behind) is ∙ (search rules)

-- where the reading was opened no row was read
pub opened_read : (keeps : Bool) (held held' : Option (List ℕ)) (r : RowReader) → IsOpened keeps held held' (Ok r) → HasRead held held' (r.lines + 1) [] r
opened_read keeps held held' r is =
    subst (λ (k : Bool). IsReadTo k held held' r.header (r.lines + 1) [] (progress_of r) (ahead_of r.ahead)) (sym is.0)
    (text_too r.ended held held' [] (ahead_of r.ahead) (λ text left. opened keeps text ≡ Ok (progress_of r, left))
    (λ text left. trace_of keeps text ≡ read_with r.header (r.lines + 1) [] ((rows_given (lines_of left) (progress_of r) left))) (opened_so keeps (progress_of r).read r.ended) is.1)

module _ (keeps : Bool) (held held' held'' : Option (List ℕ)) (h : Header) (first : ℕ) (done : List Row) (st st' : State) (ahead ahead' : List ℕ) where
  abbrev Stands : Bool → Type 0
  Stands ended = IsReadTo keeps held held' h first done (record { read = st; ended = ended }) ahead

  row_more : (ended : Bool) (row : ℕ × Row) → Stands ended → IsCall (record { read = st; ended = ended }) (record { read = st'; ended = false }) held' held'' ahead ahead' (Ok (Some row)) →
      IsReadTo keeps held held'' h first (done ++ row.1 ∷ []) (record { read = st'; ended = false }) ahead'
  row_more true row stands (came, used, all) = absurd (over_gives st (record { read = st'; ended = false }) (ahead ++ came ++ []) (ahead' ++ []) row (all []))
  row_more false row stands call =
      let p' : Progress = record { read = st'; ended = false } in
      text_then false held held' held'' ahead ahead' (λ text left. trace_of keeps text ≡ read_with h first done ((rows_given (lines_of left) (record { read = st; ended = false }) left)))
      (λ text left. next_row (record { read = st; ended = false }) text ≡ record { answer = Ok (Some row); progress = p'; left = left })
      (λ text left. trace_of keeps text ≡ read_with h first (done ++ row.1 ∷ []) ((rows_given (lines_of left) p' left)))
      (λ text left left' told gives. told ∙ ap (λ g. read_with h first done (g)) (row_given st p' left left' row gives) ∙ row_noted h first done row (rows_given (lines_of left') p' left')) stands call

  -- the answers that end the reading, and what they say of the whole text
  end_more : (answer : Result (Option (ℕ × Row)) (ℕ × LineFault)) (said : Result (TraceText) (ℕ × LineFault)) →
      ((left left' : List ℕ) → next_row (record { read = st; ended = false }) left ≡ record { answer = answer; progress = record { read = st'; ended = true }; left = left' } →
      read_with h first done ((rows_given (lines_of left) (record { read = st; ended = false }) left)) ≡ said) →
      Stands false → OfText true held' held'' ahead ahead' (λ text left. next_row (record { read = st; ended = false }) text ≡ record { answer = answer; progress = record { read = st'; ended = true }; left = left }) →
      OfStream held held'' (λ text. trace_of keeps text ≡ said)
  end_more answer said says stands call =
      text_then true held held' held'' ahead ahead' (λ text left. trace_of keeps text ≡ read_with h first done ((rows_given (lines_of left) (record { read = st; ended = false }) left)))
      (λ text left. next_row (record { read = st; ended = false }) text ≡ record { answer = answer; progress = record { read = st'; ended = true }; left = left })
      (λ text left. trace_of keeps text ≡ said) (λ text left left' told gives. told ∙ says left left' gives) stands call

  all_read : (ended : Bool) → Stands ended → IsCall (record { read = st; ended = ended }) (record { read = st'; ended = true }) held' held'' ahead ahead' (Ok None) → (ended ≡ true → held'' ≡ held') →
      OfStream held held'' (λ text. trace_of keeps text ≡ Ok (record { header = h; first = first; rows = done }))
  all_read true stands call still = search (rules, text_too, over, with_none)
  all_read false stands call still =
      end_more (Ok None) (Ok (record { header = h; first = first; rows = done })) (λ left left' gives.
      ap (λ g. read_with h first done (g)) (none_given (record { read = st; ended = false }) (record { read = st'; ended = true }) left left' (lines_of left) gives) ∙ with_none h first done) stands call

  over_bad : (left : List ℕ) (fault : ℕ × LineFault) (c : Call) → next_row (record { read = st; ended = true }) left ≡ record c { answer = Err fault } → ⊥
  unfolding next_row
  over_bad left fault c is = let none = ap (λ (d : Call). d.answer) is in cc none

  bad_read : (ended : Bool) (line : ℕ) (fault : LineFault) → Stands ended →
      IsCall (record { read = st; ended = ended }) (record { read = st'; ended = true }) held' held'' ahead ahead' (Err (Line line fault)) → IsBadLine keeps held held'' line fault
  bad_read true line fault stands (came, used, (later, is, call)) =
      absurd (over_bad (ahead ++ came ++ later) (line, fault) (record { answer = Err (line, fault); progress = record { read = st'; ended = true }; left = ahead' ++ later }) call)
  bad_read false line fault stands call =
      end_more (Err (line, fault)) (Err (line, fault)) (λ left left' gives.
      ap (λ g. read_with h first done (g)) (bad_given (record { read = st; ended = false }) (record { read = st'; ended = true }) left left' (line, fault) (lines_of left) gives)) stands call

-- ---- the same of a reader

-- a row stands on the next line
line_of_row : (held held' : Option (List ℕ)) (ahead ahead' : List ℕ) (st st' : State) (ended : Bool) (row : ℕ × Row) →
    IsCall (record { read = st; ended = ended }) (record { read = st'; ended = false }) held held' ahead ahead' (Ok (Some row)) → (row.0 ≡ next_number st) × (st'.lines ≡ row.0)
line_of_row held held' ahead ahead' st st' true row (came, used, all) = absurd (over_gives st (record { read = st'; ended = false }) (ahead ++ came ++ []) (ahead' ++ []) row (all []))
line_of_row held held' ahead ahead' st st' false row (came, used, all) =
    let l = row_line st (record { read = st'; ended = false }) (ahead ++ came ++ []) (ahead' ++ []) row (lines_of (ahead ++ came ++ [])) refl (all []) in
    (l.3.number, l.3.behind)

pub row_numbered : (held held' : Option (List ℕ)) (r r' : RowReader) (row : ℕ × Row) → r'.ended ≡ false → IsCall (progress_of r) (progress_of r') held held' (ahead_of r.ahead) (ahead_of r'.ahead) (Ok (Some row)) →
    (row.0 ≡ r.lines + 1) × (r'.lines ≡ row.0)
row_numbered held held' r r' row on call =
    line_of_row held held' (ahead_of r.ahead) (ahead_of r'.ahead) (progress_of r).read (progress_of r').read r.ended row (rw on at call)

module _ (held held' held'' : Option (List ℕ)) (first : ℕ) (done : List Row) (r r' : RowReader) (same : IsSameTrace r r') (read : HasRead held held' first done r) where
  pub row_read : (row : ℕ × Row) → r'.ended ≡ false → IsCall (progress_of r) (progress_of r') held' held'' (ahead_of r.ahead) (ahead_of r'.ahead) (Ok (Some row)) →
      HasRead held held'' first (done ++ row.1 ∷ []) r'
  row_read row on call =
      subst (λ (k : Bool). IsReadTo k held held'' r'.header first (done ++ row.1 ∷ []) (progress_of r') (ahead_of r'.ahead)) (sym same.1)
      (subst (λ (h : Header). IsReadTo r.keeps held held'' h first (done ++ row.1 ∷ []) (progress_of r') (ahead_of r'.ahead)) (sym same.0)
      (subst (λ (e : Bool). IsReadTo r.keeps held held'' r.header first (done ++ row.1 ∷ []) (record { read = (progress_of r').read; ended = e }) (ahead_of r'.ahead)) (sym on)
      (row_more r.keeps held held' held'' r.header first done (progress_of r).read (progress_of r').read (ahead_of r.ahead) (ahead_of r'.ahead) r.ended row read (rw on at call))))

  pub end_read : r'.ended ≡ true → IsCall (progress_of r) (progress_of r') held' held'' (ahead_of r.ahead) (ahead_of r'.ahead) (Ok None) → (r.ended ≡ true → held'' ≡ held') →
      OfStream held held'' (λ text. trace_of r.keeps text ≡ Ok (record { header = r.header; first = first; rows = done }))
  end_read ended call still =
      all_read r.keeps held held' held'' r.header first done (progress_of r).read (progress_of r').read (ahead_of r.ahead) (ahead_of r'.ahead) r.ended read (rw ended at call) still

  pub line_read_bad : r'.ended ≡ true → (line : ℕ) (fault : LineFault) → IsCall (progress_of r) (progress_of r') held' held'' (ahead_of r.ahead) (ahead_of r'.ahead) (Err (Line line fault)) →
      IsBadLine r.keeps held held'' line fault
  line_read_bad ended line fault call =
      bad_read r.keeps held held' held'' r.header first done (progress_of r).read (progress_of r').read (ahead_of r.ahead) (ahead_of r'.ahead) r.ended line fault read (rw ended at call)
