-- A line behind the first row's
use Rattle.trace_reader.proofs.MiddleLaws.{rules, ◌≡◌, ◌≤◌, ◌∷◌, ℕ, List, [], true, false, refl, begins_with_ring, RingRow, SaysRow, Option, Some, Result, Ok, Err, sym, TextLine, LineFault, LineError, Ring, Row, Answers, AnswersRow, IfFault, SaysPlaced, ids_with, next_number, said_by_line, placed, read_line, behind_row, State, Said, SaysRing, behind_header, no_ring_behind}

pub no_ring : (st : State) (line : TextLine) (ring : Ring) → st.begun ≡ true → said_by_line st line ≡ Ok (SaysRing ring) → ⊥
unfolding said_by_line
no_ring st line ring begun is = search (rules, no_ring_behind)

-- a fault of what the line says is the line's
pub row_error : (st : State) (line : TextLine) (e : LineError) → 2 ≤ st.lines → Answers (Err e) (said_by_line st line) → AnswersRow st (Err e) line
row_error st line e behind is = search (rules, behind_header)

-- a row by which no ring comes, beside whatever rings there are
pub plain_placed : (st : State) (row : Row) → begins_with_ring (row ∷ []) ≡ false → placed st (Ok (SaysRow row)) ≡ Ok (behind_row st row, Some row)
plain_placed st (RingRow ring) none = cc none
plain_placed st row none = refl

-- what a line says, among the rings before it
pub row_placed : (st : State) (line : TextLine) (said : Said) (row : Result Row LineError) → read_line st line ≡ placed st (Ok said) → SaysPlaced st row said → AnswersRow st row line
row_placed st line said row is placed = search rules

-- a fault of the row's place is told
pub placed_error : (st : State) (said : Said) (e : LineError) → SaysPlaced st (Err e) said → IfFault e (λ fault. placed st (Ok said) ≡ Err fault)
placed_error st said e is = search rules

-- the IDs are noted
pub behind_noted : (st : State) (row : Row) (ids : List ℕ) → ids ≡ ids_with st.later row →
    ◌≡◌ {A = Result (State × Option Row) LineFault} (Ok (behind_row st row, Some row)) (Ok (record st { lines = next_number st; begun = true; later = ids }, Some row))
behind_noted st row ids is = λ k. Ok (record st { lines = next_number st; begun = true; later = sym is k }, Some row)
