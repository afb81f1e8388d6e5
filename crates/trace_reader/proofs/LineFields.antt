-- What a line says by its fields
use Rattle.trace_reader.proofs.Words.{rules, ◌≡◌, ◌<◌, ◌≤◌, ◌||◌, ℕ, Bool, true, false, Result, Ok, Err, refl, cond, nat_lt, arith, nat_tests, TextLine, LineFault, Limit, LineError, Answers, content_fault, said_alone, said_by_fields, said_by_line, most_lines_of, most_of, State, form_in, is_bad_row, is_past_limit, is_too_long, is_too_much, next_number, said_in, Said, Version, most_lines, most_streamed_lines}

-- a line with this number may not say too much, or be past the limit
abbrev pub limited : Version → ℕ → ℕ → Result Said LineFault → Result Said LineFault
limited version most number (Ok said) = cond (nat_lt most number || is_too_much version said) (Err Limit) (Ok said)
limited version most number (Err fault) = Err fault

-- a line by what it says by itself
pub alone : (st : State) (line : TextLine) (version : Version) (begun : Bool) → st.version ≡ version → st.begun ≡ begun → said_by_line st line ≡ limited version (most_of st) (next_number st) (said_alone version begun line)
unfolding said_by_line said_by_fields is_bad_row is_past_limit form_in said_in content_fault is_too_long
alone st line version begun of started = search rules

-- a fault of what it says by itself is the line's
pub passed_on : (version : Version) (most number : ℕ) (e : LineError) (wanted : Result Said LineFault) → Answers (Err e) wanted → Answers (Err e) (limited version most number wanted)
passed_on version most number e wanted is = search rules

pub past_limit : (version : Version) (most number : ℕ) (said : Said) (wanted : Result Said LineFault) → wanted ≡ Ok said → most < number → limited version most number wanted ≡ Err Limit
past_limit version most number said wanted is past = grind (arith, cond, Err, Ok, nat_lt, nat_tests)

pub too_much : (version : Version) (most number : ℕ) (said : Said) (wanted : Result Said LineFault) → wanted ≡ Ok said → is_too_much version said ≡ true → limited version most number wanted ≡ Err Limit
too_much version most number said wanted is much = grind (arith, nat_lt, Bool, cond, Err, Ok)

pub not_limited : (version : Version) (most number : ℕ) (said : Said) (wanted : Result Said LineFault) → wanted ≡ Ok said → number ≤ most → is_too_much version said ≡ false → limited version most number wanted ≡ Ok said
not_limited version most number said wanted is within few = grind (arith, nat_lt, nat_tests)

-- how many lines there may be, by what the state says
pub same_most : (st : State) (keeps : Bool) (version : Version) → st.keeps ≡ keeps → st.version ≡ version → most_of st ≡ most_lines_of keeps version
same_most st keeps version kept of = rw (kept, of) refl

-- there may be a header, the lines can be counted, and there are no fewer than of kept rows
pub some_lines : (keeps : Bool) (version : Version) → (2 ≤ most_lines_of keeps version) × (most_lines_of keeps version ≤ most_streamed_lines) × (most_lines ≤ most_lines_of keeps version)
unfolding most_lines_of
some_lines keeps version = search rules

-- lines whose rows are all kept
pub fewer_kept : (version : Version) → most_lines_of true version ≡ most_lines
unfolding most_lines_of
fewer_kept version = refl
