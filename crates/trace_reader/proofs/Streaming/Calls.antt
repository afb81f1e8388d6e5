-- What one call answers, by the first line of the bytes that stand ahead
use Rattle.trace_reader.proofs.MiddleLaws.{rules, ◌≡◌, ◌≤◌, ◌<◌, ◌∷◌, ◌++◌, ◌∙◌, ℕ, List, [], Bool, true, false, Option, Some, None, Result, Ok, Err, refl, ap, sym, subst, append-nil, append_assoc, drop, length, length-append, arith, lt-ltb, Consumes-nil, drop_at, IsAtEnd, ids_with, Row, lines_of-ended, lines_of-nothing, TextLine, behind_content, lines_of, LineFault, LineError, Fault, Memory, AnswersRow, State, behind_row, most_of, next_number, read_line, BeginsWithRow, is_too_long, StreamFault, IsFilled, IsHeld, OfText, IsCall, behind_answer, fault_of, Call, call_in, call_on, next_row, Line, IsCut, NoFeed, ended_behind, ended_lines, long_line, no_feed_in, unended_whole, Comes}
use Rattle.trace_reader.proofs.Streaming.LineEnds.{ended_if_read, long_alike}
use Rattle.traces.specs.Limits.{most_bytes_of, most_trace_bytes}
use Rattle.traces.specs.declared.version.Version.{Version}
use Rattle.trace_reader.proofs.Limits.{bytes_within}

-- ---- the bytes that came, and those that may still come

pub nothing_came : (held : Option (List ℕ)) (ahead : List ℕ) → Comes held held ahead ahead
nothing_came held ahead = ([], Consumes-nil held, sym (append-nil ahead))

pub of_all : (held held' : Option (List ℕ)) (before ahead left : List ℕ) (P : List ℕ → List ℕ → Type 0) → Comes held held' before ahead →
    ((later : List ℕ) → P (ahead ++ later) (left ++ later)) → OfText false held held' before left P
of_all held held' before ahead left P comes all = (comes.0, comes.1, λ later. subst (λ (t : List ℕ). P (t ++ later) (left ++ later)) comes.2 (all later))

pub of_one : (held held' : Option (List ℕ)) (before ahead left later : List ℕ) (P : List ℕ → List ℕ → Type 0) → Comes held held' before ahead → IsHeld held' later →
    P (ahead ++ later) (left ++ later) → OfText true held held' before left P
of_one held held' before ahead left later P comes is here = (comes.0, comes.1, (later, is, subst (λ (t : List ℕ). P (t ++ later) (left ++ later)) comes.2 here))

pub some_held : (held : Option (List ℕ)) → (later : List ℕ) × IsHeld held later
some_held None = ([], tt)
some_held (Some bytes) = (bytes, refl)

pub none_held : (held : Option (List ℕ)) → IsAtEnd held → IsHeld held []
none_held held ended = search rules

-- ---- the first line

pub record StandsAhead (held held' : Option (List ℕ)) (before ahead text : List ℕ) (line : TextLine) (rest : List ℕ) : Type 0 where
  pub comes : Comes held held' before ahead
  pub is : text ≡ ahead
  pub lines : lines_of text ≡ line ∷ lines_of rest
  pub whole : text ≡ line.content ++ behind_content line.is_ended rest
  pub one : NoFeed line.content

module _ {held held' : Option (List ℕ)} {before ahead text : List ℕ} {line : TextLine} {rest : List ℕ} where
  pub cut_of : StandsAhead held held' before ahead text line rest → IsCut ahead line rest
  cut_of stands = record { whole = sym stands.is ∙ stands.whole; one = stands.one }

-- a bad line is bad whatever may still come
pub record IsBadAhead (st : State) (held : Option (List ℕ)) (ahead : List ℕ) (fault : LineFault) : Type 0 where
  pub later : List ℕ
  pub is : IsHeld held later
  pub first : TextLine
  pub others : List TextLine
  pub are : lines_of (ahead ++ later) ≡ first ∷ others
  pub bad : read_line st first ≡ Err fault

long_is : (version : Version) (line : TextLine) → most_trace_bytes < length line.content → is_too_long (most_bytes_of version) line ≡ true
unfolding is_too_long
long_is version line many = let within = bytes_within version in lt-ltb (most_bytes_of version) (length line.content) (omega (arith, within, many))

module _ (st : State) (held : Option (List ℕ)) (ahead rest : List ℕ) (line : TextLine) (fault : LineFault) (cut : IsCut ahead line rest) (is : read_line st line ≡ Err fault) where
  ended_bad : line.is_ended ≡ true → IsBadAhead st held ahead fault
  ended_bad ended =
      let later = some_held held in
      record { later = later.0; is = later.1; first = line; others = lines_of (rest ++ later.0); are = ended_lines ahead rest later.0 line cut ended; bad = is }

  last_bad : lines_of ahead ≡ line ∷ lines_of rest → IsAtEnd held → IsBadAhead st held ahead fault
  last_bad lines ended = record { later = []; is = none_held held ended; first = line; others = lines_of rest; are = ap lines_of (append-nil ahead) ∙ lines; bad = is }

  module _ (unended : line.is_ended ≡ false) where
    same : ahead ≡ line.content
    same = unended_whole ahead rest line cut unended ∙ append-nil line.content

    long_bad : 0 < length ahead → most_trace_bytes < length ahead → IsBadAhead st held ahead fault
    long_bad some many = grind (arith, some_held, long_line, NoFeed, same, long_alike, long_is st.version, some_held held, long_line ahead (some_held held).0 some (subst NoFeed (sym same) cut.one))

    no_feed : (content more : List ℕ) → ahead ≡ content ++ 10 ∷ more → ⊥
    no_feed content more feed = no_feed_in content more (subst NoFeed (sym same ∙ feed) cut.one)

  pub bad_ahead : lines_of ahead ≡ line ∷ lines_of rest → IsFilled true held ahead → IsBadAhead st held ahead fault
  bad_ahead lines filled = search (rules, ended_bad, no_feed, long_bad, last_bad)

-- ---- a call

pub call_of : (st : State) (text : List ℕ) (line : TextLine) (lines : List TextLine) → lines_of text ≡ line ∷ lines →
    next_row (record { read = st; ended = false }) text ≡ call_on st text (read_line st line)
unfolding next_row
call_of st text line lines are = ap (call_in st text) are

pub row_given : (st : State) {held held' : Option (List ℕ)} {before ahead text : List ℕ} (left : List ℕ) {line : TextLine} {rest : List ℕ} (number : ℕ) (row : Row) → StandsAhead held held' before ahead text line rest →
    read_line st line ≡ Ok (behind_row st row, Some row) → (line.is_ended ≡ true → left ≡ rest) → number ≡ next_number st →
    IsCall (record { read = st; ended = false }) (behind_answer st (Ok (Some (number, row)))) held held' before left (Ok (Some (number, row)))
row_given st {held} {held'} {before} {ahead} {text} left {line} {rest} number row stands read is at =
    let ended = ended_if_read st line (behind_row st row, Some row) read in
    let call : ℕ → List ℕ → Call = λ (n : ℕ) (l : List ℕ). record { answer = Ok (Some (n, row)); progress = record { read = behind_row st row; ended = false }; left = l } in
    of_all held held' before ahead left (λ t l. next_row (record { read = st; ended = false }) t ≡ call number l) stands.comes (λ later.
    call_of st (ahead ++ later) line (lines_of (rest ++ later)) (ended_lines ahead rest later line (cut_of stands) ended) ∙ ap (call_on st (ahead ++ later)) read
    ∙ ap (call (next_number st)) (ended_behind ahead rest later line (cut_of stands) ended ∙ ap (λ l. l ++ later) (sym (is ended))) ∙ ap (λ n. call n (left ++ later)) (sym at))

row_bad : (st : State) {held held' : Option (List ℕ)} {before ahead text : List ℕ} {line : TextLine} {rest : List ℕ} (number : ℕ) (fault : LineFault) → StandsAhead held held' before ahead text line rest →
    IsFilled true held' ahead → read_line st line ≡ Err fault → number ≡ next_number st →
    IsCall (record { read = st; ended = false }) (record { read = st; ended = true }) held held' before ahead (Err (Line number fault))
row_bad st {held} {held'} {before} {ahead} {text} {line} {rest} number fault stands filled read at =
    let bad = bad_ahead st held' ahead rest line fault (cut_of stands) read (search (rules, lines_of)) filled in
    let call : ℕ → List ℕ → Call = λ (n : ℕ) (l : List ℕ). record { answer = Err (n, fault); progress = record { read = st; ended = true }; left = l } in
    of_one held held' before ahead ahead bad.later (λ t l. next_row (record { read = st; ended = false }) t ≡ call number l) stands.comes bad.is
    (call_of st (ahead ++ bad.later) bad.first bad.others bad.are ∙ ap (call_on st (ahead ++ bad.later)) bad.bad ∙ ap (λ n. call n (ahead ++ bad.later)) (sym at))

pub bad_told : (st : State) {held held' : Option (List ℕ)} {before ahead text : List ℕ} {line : TextLine} {rest : List ℕ} (number : ℕ) (e : LineError) → StandsAhead held held' before ahead text line rest →
    IsFilled true held' ahead → AnswersRow st (Err e) line → number ≡ next_number st →
    IsCall (record { read = st; ended = false }) (record { read = st; ended = true }) held held' before ahead (Err (fault_of number e))
bad_told st number (Fault fault) stands filled read at = row_bad st number fault stands filled read at
bad_told st number Memory stands filled read at = tt

pub no_row : (st : State) (held held' : Option (List ℕ)) (before ahead : List ℕ) → Comes held held' before ahead → IsFilled false held' ahead →
    IsCall (record { read = st; ended = false }) (record { read = st; ended = true }) held held' before ahead (Ok None)
unfolding next_row
no_row st held held' before ahead comes none = search (rules, of_one, none_held, lines_of-nothing)

-- ---- how far the reading has come behind a call

pub given : (st : State) (ended : Bool) (number : ℕ) (row : Row) (ids : List ℕ) (held held' : Option (List ℕ)) (ahead ahead' : List ℕ) → ended ≡ false → number ≡ next_number st → ids ≡ ids_with st.later row →
    IsCall (record { read = st; ended = false }) (record { read = behind_row st row; ended = false }) held held' ahead ahead' (Ok (Some (number, row))) →
    IsCall (record { read = st; ended = ended }) (record { read = record st { lines = number; begun = true; later = ids }; ended = ended }) held held' ahead ahead' (Ok (Some (number, row)))
given st ended number row ids held held' ahead ahead' is at noted right = search rules

-- the bytes ahead begin with a line that says a row
pub row_begins : (st : State) (ended : Bool) (held : Option (List ℕ)) (ahead left : List ℕ) (row : Row) (count : ℕ) → BeginsWithRow row count ahead → 2 ≤ st.lines → next_number st ≤ most_of st →
    ended ≡ false → left ≡ drop count ahead →
    IsCall (record { read = st; ended = ended }) (record { read = behind_row st row; ended = ended }) held held ahead left (Ok (Some (next_number st, row)))
row_begins st ended held ahead left row count begins behind within going is =
    let content = begins.0 in
    let rest = begins.1 in
    let line : TextLine = record { content = content; is_ended = true } in
    let lines : lines_of ahead ≡ line ∷ lines_of rest = ap lines_of begins.2 ∙ lines_of-ended content rest begins.4 in
    let stands : StandsAhead held held ahead ahead ahead line rest = record { comes = nothing_came held ahead; is = refl; lines = lines; whole = begins.2; one = begins.4 } in
    let long : length (content ++ 10 ∷ []) ≡ count = omega (arith, length-append content (10 ∷ []), begins.3) in
    let behind_it : drop count ahead ≡ rest = ap (drop count) (begins.2 ∙ sym (append_assoc content (10 ∷ []) rest)) ∙ drop_at (content ++ 10 ∷ []) rest count long in
    given st ended (next_number st) row (ids_with st.later row) held held ahead left going refl refl
    (row_given st left (next_number st) row stands (begins.5 st behind within) (λ e. is ∙ behind_it) refl)

pub stopped : (st : State) (ended : Bool) (result : Result (Option (ℕ × Row)) StreamFault) (held held' : Option (List ℕ)) (ahead ahead' : List ℕ) → ended ≡ false →
    IsCall (record { read = st; ended = false }) (record { read = st; ended = true }) held held' ahead ahead' result →
    IsCall (record { read = st; ended = ended }) (record { read = st; ended = true }) held held' ahead ahead' result
stopped st ended result held held' ahead ahead' is right = search rules

pub still : (st : State) (ended : Bool) (held : Option (List ℕ)) (ahead : List ℕ) → ended ≡ true →
    IsCall (record { read = st; ended = ended }) (record { read = st; ended = ended }) held held ahead ahead (Ok None)
unfolding next_row
still st false held ahead is = cc is
still st true held ahead is =
    let later = some_held held in
    ([], Consumes-nil held, (later.0, later.1, ap (λ (l : List ℕ). record { answer = Ok None; progress = record { read = st; ended = true }; left = l ++ later.0 }) (append-nil ahead)))
