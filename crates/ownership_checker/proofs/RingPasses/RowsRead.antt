-- How far the rows of a trace were read and passed, between which rings come and go, and what that says of the whole text
use Rattle.ownership_checker.proofs.LowerLaws.{◌≡◌, ℕ, Bool, ◌+◌, ◌-◌, ◌<◌, ◌≤◌, List, [], ◌∷◌, ◌++◌, ◌∙◌, true, false, Option, Some, None, Result, Ok, Err, All, refl, ap, sym, subst, arith, length, append-nil, append_assoc, add-zero, common_steps, reverse, All-cons, All-nil, most_streamed_lines, Header, Row, LineFault, trace_of, RowReader, StreamFault, Line, ahead_of, IsCall, has_ended, IsOpened, IsSameTrace, progress_of, HasRead, IfBadLine, IsBadLine, OfStream, Lease, Refusal, without_end, Lent, lents, IsRow, header_now, known_now, IsLeastOfRow, DoNoHarm, IsRingLogged, IsRingPassed, Begins, IsWholeLog, OfTrace, with_rows, trace_verdict, RingPass, end_read, line_read_bad, opened_read, row_numbered, row_read, StepFault, RefusedBy, IfRefused, row_fits, none_refused, one_more, reversed_more, reversed_twice, row_refused, rules, EndsAt, IsToldBad, IsToldTo, bad_followed, opened_told, refused_followed, row_followed}
use Rattle.ownership_checker.proofs.RingPasses.Walks.{walks}

-- a call between two readers answered so
abbrev pub Gives : Option (List ℕ) → Option (List ℕ) → RowReader → RowReader → Result (Option (ℕ × Row)) StreamFault → Type 0
Gives held held' r r' answer = IsCall (progress_of r) (progress_of r') held held' (ahead_of r.ahead) (ahead_of r'.ahead) answer

-- a call gave a row, and the reading goes on
pub record IsGiven (held held' : Option (List ℕ)) (r r' : RowReader) (row : ℕ × Row) : Type 0 where
  pub headed : IsSameTrace r r'
  pub on : r'.ended ≡ false
  pub call : Gives held held' r r' (Ok (Some row))

pub given : {o : Option (ℕ × Row)} {held held' : Option (List ℕ)} {row : ℕ × Row} (r r' : RowReader) → o ≡ Some row → IsSameTrace r r' → r'.ended ≡ has_ended (Ok o) → Gives held held' r r' (Ok o) →
    IsGiven held held' r r' row
given {held} {held'} r r' is headed over call = search rules

-- it gave none
pub record IsOver (held held' : Option (List ℕ)) (r r' : RowReader) : Type 0 where
  pub headed : IsSameTrace r r'
  pub over : r'.ended ≡ true
  pub call : Gives held held' r r' (Ok None)

pub ended : {o : Option (ℕ × Row)} {held held' : Option (List ℕ)} (r r' : RowReader) → o ≡ None → IsSameTrace r r' → r'.ended ≡ has_ended (Ok o) → Gives held held' r r' (Ok o) → IsOver held held' r r'
ended {held} {held'} r r' is headed over call = search rules

-- behind a row fewer lines may be left
pub fewer_left : {held held' : Option (List ℕ)} {r r' : RowReader} {row : ℕ × Row} → IsGiven held held' r r' row → most_streamed_lines - r'.lines < most_streamed_lines - r.lines
fewer_left {held} {held'} {r} {r'} {row} next = let n = row_numbered held held' r r' row next.on next.call in omega (arith, n.0, n.1, r'.within)

-- what is read of the text, as of the reader with which the reading began
of_start : (before held : Option (List ℕ)) (start r : RowReader) (first : ℕ) (rows : List Row) → IsSameTrace start r →
    OfStream before held (λ text. trace_of r.keeps text ≡ Ok (record { header = r.header; first = first; rows = rows })) →
    OfStream before held (λ text. trace_of start.keeps text ≡ Ok (record { header = start.header; first = first; rows = rows }))
of_start before held start r first rows same read = rw (← same.0, ← same.1) read

-- so many rows were read and passed
pub record IsUnderway {B M : Type 0} (words : M → ℕ → ℕ) (holds : List Lease → Header → List Lent → B → Type 0) (start : RowReader) (held held' : Option (List ℕ)) (log : B) (reader : RowReader)
    (pass : RingPass B M) : Type 0 where
  pub past : List Row
  pub numbered : reader.lines ≡ start.lines + length past
  pub headed : IsSameTrace start reader
  pub read : (keeps : Bool) (before : Option (List ℕ)) → IsOpened keeps before held (Ok start) → HasRead before held' (start.lines + 1) (reverse past) reader
  pub told : (keeps : Bool) (before : Option (List ℕ)) → IsOpened keeps before held (Ok start) → IsToldTo keeps before held' start.header (start.lines + 1) (reverse past) reader
  pub fitting : All IsRow past
  pub passed : IsRingPassed words start.header past pass
  pub logged : (list : List Lease) → Begins (holds list) start log → IsRingLogged (holds list) start.header (start.lines + 1) past pass

module _ {B M : Type 0} {words : M → ℕ → ℕ} {holds : List Lease → Header → List Lent → B → Type 0} {start : RowReader} {held : Option (List ℕ)} {log : B} where
  pub underway : (pass : RingPass B M) (h : Header) → h ≡ start.header → IsRingPassed words h [] pass →
      ((list : List Lease) (first : ℕ) → holds list h (lents h first []) log → IsRingLogged (holds list) h first [] pass) → IsUnderway words holds start held held log start pass
  underway pass h is passed logged = record {
    past = [];
    numbered = sym (add-zero start.lines);
    headed = (refl, refl);
    read = λ keeps before opened. opened_read keeps before held start opened;
    told = λ keeps before opened. opened_told keeps before held start opened;
    fitting = All-nil IsRow;
    passed = rw is at passed;
    logged = λ list begins. rw is at (logged list (start.lines + 1) (rw is (begins (start.lines + 1))));
  }

  module _ {held' : Option (List ℕ)} {r : RowReader} {pass : RingPass B M} (u : IsUnderway words holds start held held' log r pass) where
    module _ {held'' : Option (List ℕ)} {r' : RowReader} {row : ℕ × Row} (next : IsGiven held' held'' r r' row) {one : Row} (told : row.1 ≡ one) where
      number_so : row.0 ≡ start.lines + 1 + length u.past
      number_so = let n = row_numbered held' held'' r r' row next.on next.call in omega (arith, n.0, u.numbered)

      room_so : start.lines + 1 + length u.past < without_end
      unfolding without_end
      room_so = let n = row_numbered held' held'' r r' row next.on next.call in omega (arith, n.0, n.1, u.numbered, r'.within)

      pub fits_so : IsRow one
      fits_so = subst IsRow told (row_fits held' held'' r r' row next.on next.call)

      read_so : (keeps : Bool) (before : Option (List ℕ)) → IsOpened keeps before held (Ok start) → HasRead before held'' (start.lines + 1) (reverse (one ∷ u.past)) r'
      read_so keeps before opened =
          subst (λ (rows : List Row). HasRead before held'' (start.lines + 1) rows r') (ap (λ (r : Row). reverse u.past ++ r ∷ []) told ∙ reversed_more u.past one)
          (row_read before held' held'' (start.lines + 1) (reverse u.past) r r' next.headed (u.read keeps before opened) row next.on next.call)

      told_so : (keeps : Bool) (before : Option (List ℕ)) → IsOpened keeps before held (Ok start) → IsToldTo keeps before held'' start.header (start.lines + 1) (reverse (one ∷ u.past)) r'
      told_so keeps before opened =
          subst (λ (rows : List Row). IsToldTo keeps before held'' start.header (start.lines + 1) rows r') (ap (λ (r : Row). reverse u.past ++ r ∷ []) told ∙ reversed_more u.past one)
          (row_followed keeps before held' held'' start.header (start.lines + 1) (reverse u.past) r r' (u.told keeps before opened) row next.on next.call)

      pub row_passed : (pass' : RingPass B M) → ((h : Header) (past : List Row) → IsRingPassed words h past pass → IsRingPassed words h (one ∷ past) pass') →
          ((list : List Lease) (h : Header) (first : ℕ) (past : List Row) → IsRingPassed words h past pass → row.0 ≡ first + length past → first + length past < without_end →
          IsRingLogged (holds list) h first past pass → IsRingLogged (holds list) h first (one ∷ past) pass') → IsUnderway words holds start held held'' log r' pass'
      row_passed pass' passes logs = record {
        past = one ∷ u.past;
        numbered = let n = row_numbered held' held'' r r' row next.on next.call in omega (arith, n.0, n.1, u.numbered);
        headed = (next.headed.0 ∙ u.headed.0, next.headed.1 ∙ u.headed.1);
        read = read_so;
        told = told_so;
        fitting = All-cons IsRow one u.past fits_so u.fitting;
        passed = passes start.header u.past u.passed;
        logged = λ list begins. logs list start.header (start.lines + 1) u.past u.passed number_so room_so (u.logged list begins);
      }

      -- the row is refused
      pub ends_so : (c : Refusal) (fault : StepFault) → fault ≡ RefusedBy c → IfRefused fault (λ c. (h : Header) (past : List Row) → IsRingPassed words h past pass → IsLeastOfRow (header_now h past) (known_now h past) one c) →
          (keeps : Bool) (before : Option (List ℕ)) → IsOpened keeps before held (Ok start) → EndsAt keeps before held'' r' row.0 c
      ends_so c fault is told_fault keeps before opened =
          let least : (h : Header) (past : List Row) → IsRingPassed words h past pass → IsLeastOfRow (header_now h past) (known_now h past) one c = rw is at told_fault in
          let first = start.lines + 1 in
          let done = reverse (one ∷ u.past) in
          let refused : (more : List Row) → trace_verdict start.header first (done ++ more) ≡ Some (row.0, c) = λ more.
          ap (trace_verdict start.header first) (one_more u.past one more)
          ∙ row_refused start.header first u.past more one c u.passed.clean (least start.header u.past u.passed)
          ∙ ap (λ n. Some (n, c)) (sym number_so) in
          record {
            first = first;
            done = done;
            kept = next.headed.1 ∙ u.headed.1 ∙ opened.0;
            read = read_so keeps before opened;
            refused = λ more. ap (λ (x : Header). trace_verdict x first (done ++ more)) (next.headed.0 ∙ u.headed.0) ∙ refused more;
            told = refused_followed keeps before held'' start.header first done r' row.0 c next.on (told_so keeps before opened) refused;
          }

    -- a bad line is told
    pub bad_so : (held'' : Option (List ℕ)) (r' : RowReader) (e : StreamFault) → IsSameTrace r r' → r'.ended ≡ true → Gives held' held'' r r' (Err e) →
        IfBadLine e (λ line fault. (keeps : Bool) (before : Option (List ℕ)) → IsOpened keeps before held (Ok start) → IsBadLine keeps before held'' line fault × IsToldBad keeps before held'' line fault)
    bad_so held'' r' (Line line fault) headed over call = λ keeps before opened. (
      rw (← opened.0, ← u.headed.1) (line_read_bad before held' held'' (start.lines + 1) (reverse u.past) r r' headed (u.read keeps before opened) over line fault call),
      bad_followed keeps before held' held'' start.header (start.lines + 1) (reverse u.past) r r' (u.told keeps before opened) over line fault
          (none_refused start.header (start.lines + 1) u.past u.passed.clean) call,
    )
    bad_so held'' r' _ headed over call = search rules

    room_left : start.lines + 1 + length (reverse u.past) ≤ without_end
    unfolding without_end
    room_left = let n : length (reverse u.past) ≡ length u.past = grind (arith, common_steps) in omega (arith, n, u.numbered, r.within)

    -- no row is left
    pub whole_so : {held'' : Option (List ℕ)} {r' : RowReader} → IsOver held' held'' r r' → (r.ended ≡ true → held'' ≡ held') →
        (kept : B) → ((h : Header) (past : List Row) → IsRingPassed words h past pass → All IsRow past → DoNoHarm h (reverse past)) →
        ((list : List Lease) (h : Header) (first : ℕ) (past : List Row) → IsRingLogged (holds list) h first past pass → holds list (header_now h past) (lents h first past) kept) →
        (keeps : Bool) (before : Option (List ℕ)) (list : List Lease) → IsOpened keeps before held (Ok start) → Begins (holds list) start log → OfTrace keeps before held'' (λ trace. IsWholeLog (holds list) trace kept)
    whole_so {held''} {r'} last still kept harmless logs keeps before list opened begins =
        let first = start.lines + 1 in (
          with_rows start first (reverse u.past),
          subst (λ (k : Bool). OfStream before held'' (λ text. trace_of k text ≡ Ok (with_rows start first (reverse u.past)))) opened.0 (of_start before held'' start r first (reverse u.past) u.headed
              (end_read before held' held'' first (reverse u.past) r r' last.headed (u.read keeps before opened) last.over last.call still)),
          record {
            verdict = none_refused start.header first u.past u.passed.clean;
            walk = walks start.header u.passed.opening u.past u.fitting u.passed.clean;
            harmless = harmless start.header u.past u.passed u.fitting;
            room = room_left;
            kept = rw (reversed_twice u.past) (logs list start.header first u.past (u.logged list begins));
          },
        )

-- ---- rows that are read behind a refused one

-- further rows were read
pub record IsReadOn (start : RowReader) (held held' : Option (List ℕ)) (reader : RowReader) : Type 0 where
  pub headed : IsSameTrace start reader
  pub read : (before : Option (List ℕ)) (first : ℕ) (done : List Row) → HasRead before held first done start → (more : List Row) × HasRead before held' first (done ++ more) reader

module _ {start : RowReader} {held : Option (List ℕ)} where
  pub none_read_on : IsReadOn start held held start
  none_read_on = record {
    headed = (refl, refl);
    read = λ before first done read. ([], subst (λ (rows : List Row). HasRead before held first rows start) (sym (append-nil done)) read);
  }

  module _ {held' : Option (List ℕ)} {r : RowReader} (u : IsReadOn start held held' r) where
    module _ (held'' : Option (List ℕ)) (r' : RowReader) (before : Option (List ℕ)) (first : ℕ) (done : List Row) where
      abbrev Read : Option (List ℕ) → RowReader → Type 0
      Read x reader = (more : List Row) × HasRead before x first (done ++ more) reader

      row_more : (row : ℕ × Row) → IsGiven held' held'' r r' row → Read held' r → Read held'' r'
      row_more row next (more, read) = (
        more ++ row.1 ∷ [],
        subst (λ (rows : List Row). HasRead before held'' first rows r') (append_assoc done more (row.1 ∷ []))
            (row_read before held' held'' first (done ++ more) r r' next.headed read row next.on next.call),
      )

      all_more : IsOver held' held'' r r' → (r.ended ≡ true → held'' ≡ held') → Read held' r →
          (more : List Row) × OfStream before held'' (λ text. trace_of start.keeps text ≡ Ok (with_rows start first (done ++ more)))
      all_more last still (more, read) = (
        more,
        of_start before held'' start r first (done ++ more) u.headed
            (end_read before held' held'' first (done ++ more) r r' last.headed read last.over last.call still),
      )

      bad_more : IsSameTrace r r' → r'.ended ≡ true → (line : ℕ) (fault : LineFault) → Gives held' held'' r r' (Err (Line line fault)) → Read held' r → IsBadLine start.keeps before held'' line fault
      bad_more headed over line fault call (more, read) =
          subst (λ (k : Bool). IsBadLine k before held'' line fault) u.headed.1 (line_read_bad before held' held'' first (done ++ more) r r' headed read over line fault call)

    pub row_read_on : {held'' : Option (List ℕ)} {r' : RowReader} {row : ℕ × Row} → IsGiven held' held'' r r' row → IsReadOn start held held'' r'
    row_read_on {held''} {r'} {row} next = record {
      headed = (next.headed.0 ∙ u.headed.0, next.headed.1 ∙ u.headed.1);
      read = λ before first done read. row_more held'' r' before first done row next (u.read before first done read);
    }

    pub all_read_on : {held'' : Option (List ℕ)} {r' : RowReader} → IsOver held' held'' r r' → (r.ended ≡ true → held'' ≡ held') →
        (before : Option (List ℕ)) (first : ℕ) (done : List Row) → HasRead before held first done start →
        (more : List Row) × OfStream before held'' (λ text. trace_of start.keeps text ≡ Ok (with_rows start first (done ++ more)))
    all_read_on {held''} {r'} last still before first done read = all_more held'' r' before first done last still (u.read before first done read)

    pub bad_read_on : (held'' : Option (List ℕ)) (r' : RowReader) (e : StreamFault) → IsSameTrace r r' → r'.ended ≡ true → Gives held' held'' r r' (Err e) →
        IfBadLine e (λ line fault. (before : Option (List ℕ)) (first : ℕ) (done : List Row) → HasRead before held first done start → IsBadLine start.keeps before held'' line fault)
    bad_read_on held'' r' (Line line fault) headed over call = λ before first done read. bad_more held'' r' before first done headed over line fault call (u.read before first done read)
    bad_read_on held'' r' _ headed over call = search rules

-- ---- what stands behind the row at which a pass ended, or a bad line

abbrev Opened : Option (List ℕ) → RowReader → Bool → Option (List ℕ) → Type 0
Opened start r keeps before = IsOpened keeps before start (Ok r)

abbrev Bad : Option (List ℕ) → Option (List ℕ) → RowReader → StreamFault → Type 0
Bad start held r e = IfBadLine e (λ line fault. (keeps : Bool) (before : Option (List ℕ)) → Opened start r keeps before → IsBadLine keeps before held line fault × IsToldBad keeps before held line fault)

module _ (start held : Option (List ℕ)) (r : RowReader) where
  pub bad_alone : (e : StreamFault) → Bad start held r e → IfBadLine e (λ line fault. (keeps : Bool) (before : Option (List ℕ)) → Opened start r keeps before → IsBadLine keeps before held line fault)
  bad_alone (Line line fault) bad = λ keeps before opened. (bad keeps before opened).0
  bad_alone _ bad = search rules

  pub bad_here : (e : StreamFault) (keeps : Bool) (before : Option (List ℕ)) → Opened start r keeps before → Bad start held r e → IfBadLine e (IsBadLine keeps before held) × IfBadLine e (IsToldBad keeps before held)
  bad_here (Line line fault) keeps before opened bad = bad keeps before opened
  bad_here _ keeps before opened bad = search rules

  module _ (r' : RowReader) (last : Option (List ℕ)) {row : ℕ} {c : Refusal} (ends : (keeps : Bool) (before : Option (List ℕ)) → Opened start r keeps before → EndsAt keeps before held r' row c) where
    pub ends_read : ((before : Option (List ℕ)) (first : ℕ) (done : List Row) → HasRead before held first done r' →
        (more : List Row) × OfStream before last (λ text. trace_of r'.keeps text ≡ Ok (with_rows r' first (done ++ more)))) →
        (keeps : Bool) (before : Option (List ℕ)) → Opened start r keeps before → OfTrace keeps before last (λ trace. trace_verdict trace.header trace.first trace.rows ≡ Some (row, c))
    ends_read rest keeps before opened =
        let end = ends keeps before opened in
        let read = rest before end.first end.done end.read in (
          with_rows r' end.first (end.done ++ read.0),
          subst (λ (k : Bool). OfStream before last (λ text. trace_of k text ≡ Ok (with_rows r' end.first (end.done ++ read.0)))) end.kept read.1,
          end.refused read.0,
        )

    pub ends_bad : (e : StreamFault) → IfBadLine e (λ line fault. (before : Option (List ℕ)) (first : ℕ) (done : List Row) → HasRead before held first done r' → IsBadLine r'.keeps before last line fault) →
        IfBadLine e (λ line fault. (keeps : Bool) (before : Option (List ℕ)) → Opened start r keeps before → IsBadLine keeps before last line fault)
    ends_bad (Line line fault) told = λ keeps before opened.
        let end = ends keeps before opened in
        subst (λ (k : Bool). IsBadLine k before last line fault) end.kept (told before end.first end.done end.read)
    ends_bad _ told = search rules
