-- What is told of a trace as its lines come, by the calls of its reader
use Rattle.ownership_checker.proofs.Words.{◌≡◌, ℕ, Bool, ◌+◌, List, [], ◌∷◌, ◌++◌, ◌∙◌, true, false, Option, Some, None, Ok, Err, refl, ap, sym, append-nil, append_assoc, map, rules, Consumes-trans, Header, Row, TextLine, lines_of, LineFault, Refusal, RowReader, StreamFault, Line, State, ahead_of, OfLater, OfText, IfBadLine, IsCall, IsOpened, progress_of, Call, Progress, GivenRows, answered, rows_given, trace_verdict, call_of, lines_left, ended_if_read, IsToldBad, IsToldSoFar, told_behind, told_first, told_with}
unfoldable use Rattle.ownership_checker.proofs.Words.{next_row, told_as_it_comes}

-- ---- one call, and those behind it

module _ (st : State) (p' : Progress) (left left' : List ℕ) where
  -- a row was given, and the lines behind it are left
  module _ (row : ℕ × Row) where
    abbrev GivesRow : Call → Type 0
    GivesRow c = c ≡ record { answer = Ok (Some row); progress = p'; left = left' }

    never_over : GivesRow (next_row (record { read = st; ended = true }) left) → ⊥
    unfolding next_row
    never_over gives = let none = ap (λ (c : Call). c.answer) gives in cc none

    others_left : (lines : List TextLine) → lines_of left ≡ lines → GivesRow (next_row (record { read = st; ended = false }) left) →
        (line : TextLine) × (others : List TextLine) × (lines_of left ≡ line ∷ others) × (lines_of left' ≡ others)
    unfolding next_row
    others_left lines are gives = search (rules, call_of, ended_if_read, lines_left)

    calls_behind : GivesRow (next_row (record { read = st; ended = false }) left) →
        rows_given (lines_of left) (record { read = st; ended = false }) left ≡ answered (Ok (Some row)) (rows_given (lines_of left') p' left')
    calls_behind gives =
        let (line, others, are, behind) = others_left (lines_of left) refl gives in
        ap (λ ls. rows_given ls (record { read = st; ended = false }) left) are
        ∙ ap (λ (c : Call). answered c.answer (rows_given others c.progress c.left)) gives
        ∙ ap (λ ls. answered (Ok (Some row)) (rows_given ls p' left')) (sym behind)

  -- a bad line was told
  module _ (fault : ℕ × LineFault) where
    abbrev GivesBad : Call → Type 0
    GivesBad c = c ≡ record { answer = Err fault; progress = p'; left = left' }

    never_bad : GivesBad (next_row (record { read = st; ended = true }) left) → ⊥
    unfolding next_row
    never_bad gives = let none = ap (λ (c : Call). c.answer) gives in cc none

    none_behind : (lines : List TextLine) → GivesBad (next_row (record { read = st; ended = false }) left) → rows_given lines (record { read = st; ended = false }) left ≡ ([], Some fault)
    none_behind [] gives = ap (λ (c : Call). answered c.answer ([], None)) gives
    none_behind (line ∷ lines) gives = ap (λ (c : Call). answered c.answer (rows_given lines c.progress c.left)) gives

-- ---- what is told

module _ (h : Header) (first : ℕ) (done : List Row) where
  row_told : (row : ℕ × Row) (given : GivenRows) → told_with h first done (answered (Ok (Some row)) given) ≡ told_with h first (done ++ row.1 ∷ []) given
  row_told row (rows, bad) = ap (λ rs. told_first (trace_verdict h first rs) bad) (sym (append_assoc done (row.1 ∷ []) (map (λ r. r.1) rows)))

  bad_told : (fault : ℕ × LineFault) → trace_verdict h first done ≡ None → told_with h first done ([], Some fault) ≡ Err fault
  bad_told fault none = ap (λ rs. told_first (trace_verdict h first rs) (Some fault)) (append-nil done) ∙ ap (λ v. told_first v (Some fault)) none

  refused_told : (refused : ℕ × Refusal) (given : GivenRows) → ((more : List Row) → trace_verdict h first (done ++ more) ≡ Some refused) → told_with h first done given ≡ Ok (Some refused)
  refused_told refused (rows, bad) so = ap (λ v. told_first v bad) (so (map (λ r. r.1) rows))

later_also : (ended : Bool) (held : Option (List ℕ)) (P Q : List ℕ → Type 0) → ((later : List ℕ) → P later → Q later) → OfLater ended held P → OfLater ended held Q
later_also false held P Q step all = λ later. step later (all later)
later_also true held P Q step (later, is, p) = (later, is, step later p)

-- ---- how far it was read

-- so it is told by the rows so far and those that further calls give
abbrev IsTo : Bool → Option (List ℕ) → Option (List ℕ) → Header → ℕ → List Row → Progress → List ℕ → Type 0
IsTo keeps held held' h first done p ahead =
    OfText p.ended held held' [] ahead (λ text left. told_as_it_comes keeps text ≡ told_with h first done (rows_given (lines_of left) p left))

abbrev pub IsToldTo : Bool → Option (List ℕ) → Option (List ℕ) → Header → ℕ → List Row → RowReader → Type 0
IsToldTo keeps held held' h first done r = IsTo keeps held held' h first done (progress_of r) (ahead_of r.ahead)

pub opened_told : (keeps : Bool) (held held' : Option (List ℕ)) (r : RowReader) → IsOpened keeps held held' (Ok r) → IsToldTo keeps held held' r.header (r.lines + 1) [] r
unfolding told_as_it_comes
opened_told keeps held held' r (kept, (came, used, all)) =
    (came, used, later_also r.ended held' _ _ (λ later opened. ap told_behind opened) all)

module _ (keeps : Bool) (held held' held'' : Option (List ℕ)) (h : Header) (first : ℕ) (done : List Row) (st st' : State) (ahead ahead' : List ℕ) where
  abbrev Stands : Bool → Type 0
  Stands ended = IsTo keeps held held' h first done (record { read = st; ended = ended }) ahead

  -- by the text that came now
  told_now : (came more later : List ℕ) → ((later : List ℕ) → told_as_it_comes keeps (came ++ later) ≡ told_with h first done (rows_given (lines_of (ahead ++ later)) (record { read = st; ended = false }) (ahead ++ later))) →
      told_as_it_comes keeps ((came ++ more) ++ later) ≡ told_with h first done (rows_given (lines_of ((ahead ++ more) ++ later)) (record { read = st; ended = false }) ((ahead ++ more) ++ later))
  told_now came more later told =
      ap (told_as_it_comes keeps) (append_assoc came more later) ∙ told (more ++ later)
      ∙ ap (λ left. told_with h first done (rows_given (lines_of left) (record { read = st; ended = false }) left)) (sym (append_assoc ahead more later))

  row_more : (ended : Bool) (row : ℕ × Row) → Stands ended → IsCall (record { read = st; ended = ended }) (record { read = st'; ended = false }) held' held'' ahead ahead' (Ok (Some row)) →
      IsTo keeps held held'' h first (done ++ row.1 ∷ []) (record { read = st'; ended = false }) ahead'
  row_more true row stands (more, used, all) = absurd (never_over st (record { read = st'; ended = false }) (ahead ++ more ++ []) (ahead' ++ []) row (all []))
  row_more false row (came, used, told) (more, used', all) = (
    came ++ more,
    Consumes-trans held held' held'' came more used used',
    λ later. told_now came more later told
        ∙ ap (told_with h first done) (calls_behind st (record { read = st'; ended = false }) (ahead ++ more ++ later) (ahead' ++ later) row (all later))
        ∙ row_told h first done row (rows_given (lines_of (ahead' ++ later)) (record { read = st'; ended = false }) (ahead' ++ later)),
  )

  bad_more : (ended : Bool) (line : ℕ) (fault : LineFault) → trace_verdict h first done ≡ None → Stands ended →
      IsCall (record { read = st; ended = ended }) (record { read = st'; ended = true }) held' held'' ahead ahead' (Err (Line line fault)) → IsToldBad keeps held held'' line fault
  bad_more true line fault none stands (more, used, (later, is, call)) =
      absurd (never_bad st (record { read = st'; ended = true }) (ahead ++ more ++ later) (ahead' ++ later) (line, fault) call)
  bad_more false line fault none (came, used, told) (more, used', (later, is, call)) = (
    came ++ more,
    Consumes-trans held held' held'' came more used used',
    (
      later,
      is,
      told_now came more later told
          ∙ ap (told_with h first done) (none_behind st (record { read = st'; ended = true }) (ahead ++ more ++ later) (ahead' ++ later) (line, fault) (lines_of (ahead ++ more ++ later)) call)
          ∙ bad_told h first done (line, fault) none,
    ),
  )

-- ---- the same of a reader

module _ (keeps : Bool) (held held' held'' : Option (List ℕ)) (h : Header) (first : ℕ) (done : List Row) (r r' : RowReader) (told : IsToldTo keeps held held' h first done r) where
  pub row_followed : (row : ℕ × Row) → r'.ended ≡ false → IsCall (progress_of r) (progress_of r') held' held'' (ahead_of r.ahead) (ahead_of r'.ahead) (Ok (Some row)) →
      IsToldTo keeps held held'' h first (done ++ row.1 ∷ []) r'
  row_followed row on call =
      rw on (row_more keeps held held' held'' h first done (progress_of r).read (progress_of r').read (ahead_of r.ahead) (ahead_of r'.ahead) r.ended row told (rw on at call))

  pub bad_followed : r'.ended ≡ true → (line : ℕ) (fault : LineFault) → trace_verdict h first done ≡ None →
      IsCall (progress_of r) (progress_of r') held' held'' (ahead_of r.ahead) (ahead_of r'.ahead) (Err (Line line fault)) → IsToldBad keeps held held'' line fault
  bad_followed over line fault none call =
      bad_more keeps held held' held'' h first done (progress_of r).read (progress_of r').read (ahead_of r.ahead) (ahead_of r'.ahead) r.ended line fault none told (rw over at call)

pub refused_followed : (keeps : Bool) (held held' : Option (List ℕ)) (h : Header) (first : ℕ) (done : List Row) (r : RowReader) (row : ℕ) (c : Refusal) → r.ended ≡ false → IsToldTo keeps held held' h first done r →
    ((more : List Row) → trace_verdict h first (done ++ more) ≡ Some (row, c)) → IsToldSoFar keeps held held' (Ok (Some (row, c)))
refused_followed keeps held held' h first done r row c on to so =
    let p : Progress = record { read = (progress_of r).read; ended = false } in
    let stands : OfText false held held' [] (ahead_of r.ahead) (λ text left. told_as_it_comes keeps text ≡ told_with h first done (rows_given (lines_of left) p left)) = rw on at to in
    (stands.0, stands.1, λ later. stands.2 later ∙ refused_told h first done (row, c) (rows_given (lines_of (ahead_of r.ahead ++ later)) p (ahead_of r.ahead ++ later)) so)

-- a bad line before the first row
pub opened_bad_told : (keeps : Bool) (held held' : Option (List ℕ)) (e : StreamFault) → IsOpened keeps held held' (Err e) → IfBadLine e (IsToldBad keeps held held')
unfolding told_as_it_comes
opened_bad_told keeps held held' (Line line fault) (came, used, (later, is, told)) = (came, used, (later, is, ap told_behind told))
opened_bad_told keeps held held' _ told = search rules
