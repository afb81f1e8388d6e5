-- Only the note of the next row changes the rings that are there and the rows to come
use Rattle.replayer.proofs.Words.{arith, ◌≡◌, List, Header, Row, Note, Next, header_behind, rows_behind}

module _ (h : Header) (rows : List Row) where
  pub other_header : (note : Note) → (note ≡ Next → ⊥) → header_behind h rows note ≡ h
  unfolding header_behind
  other_header note other = grind arith

  pub other_rows : (note : Note) → (note ≡ Next → ⊥) → rows_behind rows note ≡ rows
  unfolding rows_behind
  other_rows note other = grind arith
