-- Lines that are bad whatever they say: those that no line feed ends, and those that are too long
use Rattle.trace_reader.proofs.MiddleLaws.{rules, ◌≡◌, ◌⊎◌, ◌&&◌, ◌≤◌, ◌<◌, ◌∙◌, ℕ, Bool, true, false, List, length, Option, Ok, Err, refl, ap, ltb-true, bytes_eq-Decides, most_bytes, Row, TextLine, LineFault, Limit, placed, said_by_line, State, is_too_long, read_line, size_of, version_of, bytes_eq, behind_header, no_size, no_version, step_from_read}
use Rattle.std.proofs.Common.{arith}
use Rattle.traces.specs.Limits.{most_bytes_of}
use Rattle.traces.specs.declared.version.Version.{Version}
use Rattle.trace_reader.proofs.Limits.{bytes_within}

pub three : (n : ℕ) → (n ≡ 0) ⊎ ((n ≡ 1) ⊎ (2 ≤ n))
three n = search rules

-- ---- a line that no line feed ends

pub ended_if_read : (st : State) (line : TextLine) (p : State × Option Row) → read_line st line ≡ Ok p → line.is_ended ≡ true
unfolding version_of size_of
ended_if_read st line p is = search (rules, three, no_version, no_size, step_from_read)

-- ---- a line of too many bytes

not_a_word : (content word : List ℕ) → length word ≤ most_bytes → most_bytes < length content → bytes_eq content word ≡ false
not_a_word content word short long = search (rules, bytes_eq-Decides)

many_bytes : (version : Version) (line : TextLine) → is_too_long (most_bytes_of version) line ≡ true → most_bytes < length line.content
unfolding is_too_long
many_bytes version line long = let within = bytes_within version in omega (arith, within, ltb-true (most_bytes_of version) (length line.content) long)

no_word : (ended same : Bool) → same ≡ false → (ended && same) ≡ false
no_word ended same other = search rules

long_says : (st : State) (line : TextLine) → is_too_long (most_bytes_of st.version) line ≡ true → said_by_line st line ≡ Err Limit
unfolding said_by_line
long_says st line long = rw long refl

long_limit : (st : State) (line : TextLine) → 2 ≤ st.lines → is_too_long (most_bytes_of st.version) line ≡ true → read_line st line ≡ Err Limit
long_limit st line behind long = behind_header st line behind ∙ ap (placed st) (long_says st line long)

-- all such lines have one fault
pub long_alike : (st : State) (a b : TextLine) (fault : LineFault) → is_too_long (most_bytes_of st.version) a ≡ true → is_too_long (most_bytes_of st.version) b ≡ true → read_line st a ≡ Err fault → read_line st b ≡ Err fault
unfolding version_of size_of
long_alike st a b fault long longer is = search (rules, three, no_version, no_size, many_bytes, no_word, not_a_word, long_limit, many_bytes, no_word, not_a_word)
