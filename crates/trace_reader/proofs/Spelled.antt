-- What is read of a text is the valid trace that the text spells
use Rattle.trace_reader.proofs.MiddleLaws.{rules, ◌≡◌, ◌+◌, ◌-◌, ◌≤◌, ◌&&◌, ◌∷◌, ◌++◌, ◌∙◌, ℕ, Bool, true, false, cond, List, [], length, Option, Some, None, Result, Ok, IsTrue, refl, sym, ap, subst, arith, Version, join_with_byte, nat_lt, list_all, bytes_eq, and_parts, and_from, ContextSize, fields_of, TextLine, lines_of, join-fields_of, LineFault, Ring, Row, have_new_ids, is_shape, are_unmoved, may_stand_together, header_there, most_lines, most_lines_of, State, TraceText, after, line_fault, next_number, read_line, read_lines, size_of, start, trace_of, version_of, whole, Field, Word, are_written, is_written, lines_written, size_fields, spells, trace_lines, version_fields, IsTrace, some_lines, same_bytes, then_are, word_first, ok_there, there, only}
use Rattle.trace_reader.proofs.SpelledTraces.{are_line_rings, is_line_ring, lines_for, lines_go_on, lines_read, read_on, spells_from_read, with_front}

-- ---- the first two lines

-- the words of a line of two words, and the line
pub two_words : (a b : List ℕ) (line : TextLine) → is_written (Word a ∷ Word b ∷ []) line ≡ true → (line.is_ended ≡ true) × (line.content ≡ a ++ 32 ∷ b)
two_words a b line written =
    let parts = and_parts line.is_ended (are_written (Word a ∷ Word b ∷ []) (fields_of line.content)) written in
    let p = word_first a (Word b ∷ []) (fields_of line.content) parts.1 in
    let q = word_first b [] p.0 p.2 in
    (parts.0, sym (join-fields_of line.content) ∙ ap (λ (xs : List (List ℕ)). join_with_byte 32 xs) (then_are p.1 (then_are q.1 (only q.0 q.2))))

pub words_written : (fields : List Field) (text : List ℕ) (line : TextLine) → are_written fields (fields_of text) ≡ true → (line.is_ended && bytes_eq line.content text) ≡ true → is_written fields line ≡ true
words_written fields text line written is = search (rules, and_parts, and_from, same_bytes)

version_written : (line : TextLine) (version : Version) → version_of line ≡ Some version → is_written (version_fields version) line ≡ true
unfolding version_of fields_of
version_written line version is = search (rules, words_written)

-- the states behind the first line and behind the second
abbrev behind_version : Bool → Version → State
behind_version keeps version = record (start keeps) { lines = 1; version = version }

abbrev behind_size : Bool → Version → ContextSize → State
behind_size keeps version size = record (start keeps) { lines = 2; version = version; size = size }

if_some : (t : Bool) (fault : LineFault) → cond t (Some fault) None ≡ None → t ≡ false
if_some t fault is = search rules

first_from_read : (keeps : Bool) (line : TextLine) (next : State × Option Row) → read_line (start keeps) line ≡ Ok next →
    (version : Version) × (version_of line ≡ Some version) × ((behind_version keeps version, None) ≡ next)
unfolding read_line line_fault after
first_from_read keeps line next is = search (rules, ok_there, there, if_some)

second_from_read : (keeps : Bool) (version : Version) (line : TextLine) (next : State × Option Row) → read_line (behind_version keeps version) line ≡ Ok next →
    (size : ContextSize) × (size_of line ≡ Some size) × ((behind_size keeps version size, None) ≡ next)
unfolding read_line line_fault after
second_from_read keeps version line next is = search (rules, ok_there, there, if_some)

first_read : (keeps : Bool) (line : TextLine) (version : Version) → version_of line ≡ Some version → read_line (start keeps) line ≡ Ok (behind_version keeps version, None)
unfolding read_line line_fault after
first_read keeps line version is = rw is refl

second_read : (keeps : Bool) (version : Version) (line : TextLine) (size : ContextSize) → size_of line ≡ Some size → read_line (behind_version keeps version) line ≡ Ok (behind_size keeps version size, None)
unfolding read_line line_fault after
second_read keeps version line size is = rw is refl

-- ---- from a text that is read

pub whole_there : (x : Result (State × List Row) (ℕ × LineFault)) (trace : TraceText) → whole x ≡ Ok trace →
    (r : State × List Row) × (x ≡ Ok r) × (2 ≤ r.0.lines)
    × (record { header = record { version = r.0.version; context_size = r.0.size; rings = r.0.rings }; first = next_number r.0 - length r.1; rows = r.1 } ≡ trace)
whole_there x trace is = search rules

read_end : (st : State) (r : State × List Row) → read_lines st [] ≡ Ok r → st ≡ r.0
unfolding read_lines
read_end st r is = let same : (st, []) ≡ r = cc is in ap (λ (x : State × List Row). x.0) same

record Begins (keeps : Bool) (first second : TextLine) (lines : List TextLine) (r : State × List Row) : Type 0 where
  version : Version
  size : ContextSize
  named : is_written (version_fields version) first ≡ true
  sized : is_written (size_fields size) second ≡ true
  rest : read_lines (behind_size keeps version size) lines ≡ Ok r

second_state : (keeps : Bool) (first : TextLine) (lines : List TextLine) (r : State × List Row) → read_lines (start keeps) (first ∷ lines) ≡ Ok r →
    (version : Version) × (is_written (version_fields version) first ≡ true)
    × ((q : State × List Row) × (read_lines (behind_version keeps version) lines ≡ Ok q) × (q.0 ≡ r.0) × (q.1 ≡ r.1))
second_state keeps first lines r is =
    let g = lines_go_on (start keeps) first lines r is in
    let p = first_from_read keeps first g.next g.step_is in
    grind (arith, Option, version_written, with_front)

third_state : (keeps : Bool) (version : Version) (second : TextLine) (lines : List TextLine) (r : State × List Row) → read_lines (behind_version keeps version) (second ∷ lines) ≡ Ok r →
    (size : ContextSize) × (is_written (size_fields size) second ≡ true) × ((q : State × List Row) × (read_lines (behind_size keeps version size) lines ≡ Ok q) × (q.0 ≡ r.0) × (q.1 ≡ r.1))
unfolding size_of fields_of
third_state keeps version second lines r is =
    let g = lines_go_on (behind_version keeps version) second lines r is in
    let p = second_from_read keeps version second g.next g.step_is in
    search (rules, Option, words_written, with_front)

begins : (keeps : Bool) (first second : TextLine) (lines : List TextLine) (r : State × List Row) → read_lines (start keeps) (first ∷ second ∷ lines) ≡ Ok r → Begins keeps first second lines r
begins keeps first second lines r is = search (rules, second_state, third_state)

-- the trace of a state and the rows that were read
abbrev text_of : State × List Row → TraceText
text_of r = record { header = record { version = r.0.version; context_size = r.0.size; rings = r.0.rings }; first = next_number r.0 - length r.1; rows = r.1 }

lines_spell : (keeps : Bool) (first second : TextLine) (lines : List TextLine) (r : State × List Row) → Begins keeps first second lines r →
    (lines_written (trace_lines (text_of r)) (first ∷ second ∷ lines) ≡ true) × IsTrace keeps (text_of r)
unfolding trace_lines
lines_spell keeps first second lines r b =
    let s = spells_from_read lines (behind_size keeps b.version b.size) r (omega arith) b.rest in
    let rings_are : r.0.rings ≡ s.rings = s.are.rings_are in
    let version_is : r.0.version ≡ b.version = s.are.version_is in
    let named : is_written (version_fields r.0.version) first ≡ true = ap (λ (version : Version). is_written (version_fields version) first) version_is ∙ b.named in
    let within : r.0.lines ≤ most_lines_of keeps r.0.version = subst (λ v. r.0.lines ≤ most_lines_of keeps v) (sym version_is) (s.are.within (some_lines keeps b.version).0) in
    let rings : lines_written (lines_for r.0.rings r.1) lines ≡ true = ap (λ (rs : List Ring). lines_written (lines_for rs r.1) lines) rings_are ∙ s.are.written in
    let sized : is_written (size_fields r.0.size) second ≡ true = ap (λ (size : ContextSize). is_written (size_fields size) second) s.are.size_is ∙ b.sized in
    let together : may_stand_together r.0.rings ≡ true = ap (λ (rs : List Ring). may_stand_together rs) rings_are ∙ s.are.together refl in
    let shapes = and_parts (list_all (λ x. nat_lt x.id 256 && is_shape x.shape) r.0.rings) (are_unmoved r.0.rings) (sym (are_line_rings r.0.rings) ∙ ap (λ (rs : List Ring). list_all is_line_ring rs) rings_are ∙ s.are.shapes) in
    let many : length r.0.rings ≡ length s.rings = ap (λ (rs : List Ring). length rs) rings_are in (
      and_from (is_written (version_fields r.0.version) first) _ named (and_from (is_written (size_fields r.0.size) second) (lines_written (lines_for r.0.rings r.1) lines) sized rings),
      record {
        headed = and_from (list_all (λ x. nat_lt x.id 256 && is_shape x.shape) r.0.rings) (may_stand_together r.0.rings) shapes.0 together;
        unmoved = shapes.1;
        rows = rw version_is s.are.fit;
        begins = s.are.begins refl;
        new_ids = ap (λ (rs : List Ring). have_new_ids rs [] r.1) rings_are ∙ s.are.new_ids;
        first = omega (arith, s.are.count, many);
        within = omega (arith, s.are.count, many, within);
      },
    )

read_spells : (keeps : Bool) (lines : List TextLine) (trace : TraceText) → whole (read_lines (start keeps) lines) ≡ Ok trace → (lines_written (trace_lines trace) lines ≡ true) × IsTrace keeps trace
read_spells keeps [] trace is = search (rules, whole_there, read_end)
read_spells keeps (first ∷ []) trace is = search (rules, whole_there, second_state, read_end)
read_spells keeps (first ∷ second ∷ lines) trace is =
    let p = whole_there (read_lines (start keeps) (first ∷ second ∷ lines)) trace is in
    rw (← p.3) (lines_spell keeps first second lines p.0 (begins keeps first second lines p.0 p.1))

-- what is read is spelled by the text, and valid
pub spelled_if_read : (keeps : Bool) (text : List ℕ) (trace : TraceText) → trace_of keeps text ≡ Ok trace → IsTrue (spells trace text) × IsTrace keeps trace
unfolding trace_of spells
spelled_if_read keeps text trace is = read_spells keeps (lines_of text) trace is

-- where all rows are kept there are few lines
pub few_lines : (text : List ℕ) (trace : TraceText) → trace_of true text ≡ Ok trace → trace.first + length trace.rows ≤ most_lines + 1
unfolding most_lines_of
few_lines text trace is = (spelled_if_read true text trace is).1.within

-- ---- from a text that spells a trace

written_reads : (keeps : Bool) (lines : List TextLine) (trace : TraceText) → lines_written (trace_lines trace) lines ≡ true → IsTrace keeps trace → whole (read_lines (start keeps) lines) ≡ Ok trace
unfolding trace_lines version_of size_of
written_reads keeps [] trace written is = cc written
written_reads keeps (first ∷ []) trace written is = search (rules, and_parts)
written_reads keeps (first ∷ second ∷ lines) trace written is =
    let version = trace.header.version in
    let size = trace.header.context_size in
    let p = and_parts (is_written (version_fields version) first) (lines_written (size_fields size ∷ lines_for trace.header.rings trace.rows) (second ∷ lines)) written in
    let q = and_parts (is_written (size_fields size) second) (lines_written (lines_for trace.header.rings trace.rows) lines) p.1 in
    let h = and_parts (list_all (λ x. nat_lt x.id 256 && is_shape x.shape) trace.header.rings) (may_stand_together trace.header.rings) is.headed in
    let shapes = are_line_rings trace.header.rings ∙ and_from (list_all (λ x. nat_lt x.id 256 && is_shape x.shape) trace.header.rings) (are_unmoved trace.header.rings) h.0 is.unmoved in
    let first_is = is.first in
    let within = is.within in
    let read = lines_read trace.header.rings trace.rows lines (behind_size keeps version size) (omega arith) refl shapes h.1 is.rows is.begins is.new_ids q.1 (omega (arith, first_is, within)) in
    let third = read_on (behind_version keeps version) (behind_size keeps version size) second lines None read.end trace.rows (second_read keeps version second size (search (rules, two_words))) read.is in
    let all : read_lines (start keeps) (first ∷ second ∷ lines) ≡ Ok (read.end, trace.rows) =
    read_on (start keeps) (behind_version keeps version) first (second ∷ lines) None read.end trace.rows (first_read keeps first version (search (rules, two_words))) third in
    ap (λ (x : Result (State × List Row) (ℕ × LineFault)). whole x) all
    ∙ (search rules)

-- a valid trace that the text spells is what is read
pub read_if_spelled : (keeps : Bool) (text : List ℕ) (trace : TraceText) → IsTrue (spells trace text) → IsTrace keeps trace → trace_of keeps text ≡ Ok trace
unfolding trace_of spells
read_if_spelled keeps text trace spelled is = written_reads keeps (lines_of text) trace spelled is

-- ---- the law

-- a text spells one valid trace
pub one_trace : (keeps : Bool) (text : List ℕ) (s t : TraceText) → IsTrue (spells s text) → IsTrace keeps s → IsTrue (spells t text) → IsTrace keeps t → s ≡ t
one_trace keeps text s t spells_s is_s spells_t is_t =
    let same : Ok s ≡ Ok t = sym (read_if_spelled keeps text s spells_s is_s) ∙ read_if_spelled keeps text t spells_t is_t in cc same

-- ---- a text that was read whole

pub valid : (keeps : Bool) (text : List ℕ) (st : State) (rows : List Row) → trace_of keeps text ≡ whole (Ok (st, rows)) → 2 ≤ st.lines → IsTrace keeps (text_of (st, rows))
valid keeps text st rows is there = (spelled_if_read keeps text _ (is ∙ header_there st rows there)).1

pub few_rows : (keeps : Bool) (text : List ℕ) (st : State) (rows : List Row) → trace_of keeps text ≡ whole (Ok (st, rows)) → 2 ≤ st.lines → length rows ≤ st.lines
few_rows keeps text st rows is there = let first = (valid keeps text st rows is there).first in omega (arith, first)
