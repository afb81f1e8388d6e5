-- A line can say each row of a trace
use Rattle.knowledge_page.proofs.BaseWords.{ℕ, List, All, All-take, All-weaker, take, Row, Version, AreRowsOf, IsRowOf, IsTraceRow}

pub rows_fit : (version : Version) (rows : List Row) → AreRowsOf version rows → All IsTraceRow rows
rows_fit version rows fit = All-weaker (IsRowOf version) IsTraceRow (λ row is. is.0) rows fit

pub first_fit : (version : Version) (rows : List Row) (n : ℕ) → AreRowsOf version rows → All IsTraceRow (take n rows)
first_fit version rows n fit = All-take IsTraceRow n rows (rows_fit version rows fit)
