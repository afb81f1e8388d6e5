-- The row of a text's first line, found by the places of its fields
use Rattle.trace_reader.proofs.MiddleLaws.{rules, ◌≡◌, ◌≤◌, ◌<◌, ◌+◌, ◌∷◌, ◌++◌, ◌∙◌, ℕ, zero, suc, List, [], true, false, Option, None, Some, IfSome, Ok, All, length, take, slice_index, refl, ap, subst, arith, ne_eqb, nat_tests, and_parts, All-join, All-cons, All-head, All-nil, All-tail, All-weaker, join-fields_of, str_to_ascii_lowercase, to_ascii_lowercase, is_line_feed, fields_of, TextLine, Field, may_be_written, are_written, Row, begins_with_ring, SaysRow, One, most_of, next_number, behind_row, read_line, State, start, said_by_line, SaysAlone, BeginsWithRow, alone, fewer_kept, not_limited, line_entry, AllSound, same_bytes, said_sound, step_from_read, fields_said}
use Rattle.trace_reader.proofs.RowLines.{plain_placed}
use Rattle.traces.specs.TraceRows.{declares_too_much}
use Rattle.traces.specs.declared.version.Version.{Version}

-- ---- the bytes of a line that is read

lower_all_above : (text : List ℕ) → All (λ c. 32 < c) (str_to_ascii_lowercase text) → All (λ c. 32 < c) text
lower_all_above [] above = All-nil (λ c. 32 < c)
lower_all_above (c ∷ rest) above = grind (arith, All-cons, nat_tests, All-head, All-tail, lower_all_above rest (All-tail (λ c. 32 < c) (to_ascii_lowercase c) (str_to_ascii_lowercase rest) above))

all_above : (fields : List Field) (texts : List (List ℕ)) → AllSound fields → are_written fields texts ≡ true → All (λ text. All (λ c. 32 < c) text) texts
all_above [] [] sound written = All-nil (λ text. All (λ c. 32 < c) text)
all_above [] (text ∷ texts) sound written = cc written
all_above (field ∷ fields) [] sound written = All-nil (λ text. All (λ c. 32 < c) text)
all_above (field ∷ fields) (text ∷ texts) sound written =
    let parts = and_parts (may_be_written field text) (are_written fields texts) written in
    All-cons (λ text. All (λ c. 32 < c) text) text texts (search (rules, same_bytes, lower_all_above)) (all_above fields texts sound.1 parts.1)

not_line_feed : (c : ℕ) → 32 < c → is_line_feed c ≡ false
not_line_feed c above = ne_eqb c 10 (λ same. omega (arith, same))

-- a line that is read has no line feed
without_line_feed : (st : State) (line : TextLine) (row : Row) → 2 ≤ st.lines → read_line st line ≡ Ok (behind_row st row, Some row) →
    All (λ byte. is_line_feed byte ≡ false) line.content
without_line_feed st line row behind is =
    let step = step_from_read st line (behind_row st row, Some row) behind is in
    let above = all_above (fields_said step.0) (fields_of line.content) (said_sound step.0) step.1.spelled.written in
    let plain = All-weaker (λ text. All (λ c. 32 < c) text) (λ text. All (λ c. is_line_feed c ≡ false) text)
    (λ text high. All-weaker (λ c. 32 < c) (λ c. is_line_feed c ≡ false) not_line_feed text high) (fields_of line.content) above in
    subst (λ (xs : List ℕ). All (λ c. is_line_feed c ≡ false) xs) (join-fields_of line.content) (All-join (λ c. is_line_feed c ≡ false) refl (fields_of line.content) plain)

-- ---- the first line

-- no ring comes by it, and it has not too many blocks for any version
abbrev pub IsOrdinary : Row → Type 0
IsOrdinary row = (begins_with_ring (row ∷ []) ≡ false) × ((version : Version) → declares_too_much version row ≡ false)

says_behind : (st : State) (content : List ℕ) (row : Row) → SaysAlone row content → IsOrdinary row → 2 ≤ st.lines → next_number st ≤ most_of st →
    read_line st (record { content = content; is_ended = true }) ≡ Ok (behind_row st row, Some row)
says_behind st content row says is behind within =
    let line : TextLine = record { content = content; is_ended = true } in
    let said : said_by_line st line ≡ Ok (SaysRow row) = alone st line st.version st.begun refl refl ∙ not_limited st.version (most_of st) (next_number st) (SaysRow row) _ (says st.version st.begun) within (is.1 st.version) in
    line_entry st line (SaysRow row) behind said ∙ plain_placed st row is.0

abbrev somewhere : State
somewhere = record (start true) { lines = 2 }

pub begins_with : (text content : List ℕ) (count : ℕ) (row : Row) → SaysAlone row content → IsOrdinary row → length content + 1 ≡ count → ((rest : List ℕ) × (text ≡ content ++ 10 ∷ rest)) →
    BeginsWithRow row count text
begins_with text content count row says is long whole =
    let read = λ (st : State). says_behind st content row says is in
    let here = read somewhere (omega arith) (omega (arith, fewer_kept One)) in
    (content, whole.0, whole.1, long, without_line_feed somewhere (record { content = content; is_ended = true }) row (omega arith) here, read)

pub if_is : {T : Type 0} (P : T → Type 0) (o : Option T) → ((x : T) → o ≡ Some x → P x) → IfSome o P
if_is P o held = search rules

pub found_ahead : {T : Type 0} (row : T → Row) (text content : List ℕ) (count : ℕ) (found : Option T) → ((x : T) → IsOrdinary (row x)) →
    (length content ≡ count) × ((rest : List ℕ) × (text ≡ content ++ 10 ∷ rest)) → IfSome found (λ x. SaysAlone (row x) content) → IfSome found (λ x. BeginsWithRow (row x) (count + 1) text)
found_ahead row text content count None is cut says = tt
found_ahead row text content count (Some x) is cut says = begins_with text content (count + 1) (row x) says (is x) (ap (λ n. n + 1) cut.0) cut.1

-- ---- the bytes before a line feed

pub cut_at : (text : List ℕ) (count : ℕ) → count < length text → slice_index text count ≡ 10 → (rest : List ℕ) × (text ≡ take count text ++ 10 ∷ rest)
cut_at [] count inside is = absurd (omega (arith, inside))
cut_at (x ∷ xs) zero inside is = (xs, ap (λ y. y ∷ xs) is)
cut_at (x ∷ xs) (suc count) inside is = let later = cut_at xs count (omega (arith, inside)) is in (later.0, ap (λ ys. x ∷ ys) later.1)
