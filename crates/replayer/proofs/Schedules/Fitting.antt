-- Rows that break no rule: the rings behind each may stand in a header, and each fits its fields
use Rattle.replayer.proofs.Words.{List, [], ◌∷◌, ◌++◌, arith, append-nil, subst, sym, reverse, All, All-cons, All-head, All-nil, All-tail, All-weaker, Header, IsHeader, IsTraceRow, IsRowOf, AreRowsOf, Row, Version, RingRow, FreeRow, kept_coming, kept_going, forgotten, gone, AreKept, IsRow, header_now, known_now, now_keeps, kept_on, later_kept, one_more, KeepHeaders}
use Rattle.safety.specs.RingChanges.Histories.{MayBegin}

module _ (h : Header) (may : MayBegin h) where
  -- the rings behind each row may stand in a header
  keep_headers : (rows past : List Row) → All IsRow past → All IsRow rows → AreKept h (reverse rows ++ past) → KeepHeaders (header_now h past) rows
  unfolding forgotten gone
  keep_headers [] past made left kept = tt
  keep_headers (row ∷ rows) past made left kept =
      let then_kept : AreKept h (reverse rows ++ (row ∷ past)) = subst (AreKept h) (one_more row rows past) kept in
      let then_made : All IsRow (row ∷ past) = All-cons IsRow row past (All-head IsRow row rows left) made in
      let own : AreKept h (row ∷ past) = later_kept h (reverse rows) (row ∷ past) then_kept in
      (header_then row past then_made own, keep_headers rows (row ∷ past) then_made (All-tail IsRow row rows left) then_kept)
    where
      header_then : (row : Row) (past : List Row) → All IsRow (row ∷ past) → AreKept h (row ∷ past) → IsHeader (header_now h (row ∷ past))
      header_then (RingRow ring) past made own = (now_keeps h may (RingRow ring ∷ past) made own (kept_coming (header_now h past) (known_now h past) ring own.1).0).headed
      header_then (FreeRow id) past made own = (now_keeps h may (FreeRow id ∷ past) made own (kept_going (header_now h past) (known_now h past) id own.1).0).headed
      header_then row past made own = (now_keeps h may past (All-tail IsRow row past made) own.0 (kept_on (header_now h past) (known_now h past) row own.1)).headed

  pub all_headers : (rows : List Row) → All IsRow rows → AreKept h (reverse rows) → KeepHeaders h rows
  all_headers rows are kept = keep_headers rows [] (All-nil IsRow) are (subst (AreKept h) (sym (append-nil (reverse rows))) kept)

-- what a row's line can say fits its fields
row_fits : (row : Row) → IsTraceRow row → IsRow row
row_fits row is = grind arith

pub rows_fit : (rows : List Row) → All IsTraceRow rows → All IsRow rows
rows_fit rows are = All-weaker IsTraceRow IsRow row_fits rows are

-- each row of a version fits its line
pub rows_of_fit : (version : Version) (rows : List Row) → AreRowsOf version rows → All IsTraceRow rows
rows_of_fit version rows are = All-weaker (IsRowOf version) IsTraceRow (λ row is. is.0) rows are
