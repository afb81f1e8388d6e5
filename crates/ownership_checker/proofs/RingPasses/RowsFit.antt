-- A row that was read fits the fields of its type
use Rattle.ownership_checker.proofs.Words.{arith, ◌≡◌, ℕ, false, List, Option, Some, Ok, Row, IsTraceRow, ahead_of, IsCall, progress_of, RowReader, IsRow, answer_fits}

pub fits : (row : Row) → IsTraceRow row → IsRow row
fits row is = grind arith

pub row_fits : (held held' : Option (List ℕ)) (r r' : RowReader) (row : ℕ × Row) → r'.ended ≡ false →
    IsCall (progress_of r) (progress_of r') held held' (ahead_of r.ahead) (ahead_of r'.ahead) (Ok (Some row)) → IsRow row.1
row_fits held held' r r' row on call = fits row.1 (answer_fits held held' r r' (Ok (Some row)) on call)
