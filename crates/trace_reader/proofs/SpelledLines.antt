-- A line without a fault: what it says, and that it spells it
use Rattle.trace_reader.proofs.LowerLaws.{rules, ◌≡◌, ◌≤◌, ◌||◌, ◌∙◌, ℕ, Bool, true, false, not, nat_lt, Option, Some, None, Ok, Err, is_none, refl, sym, ap, arith, le-ltb, ltb-false, ne_eqb, option_and_then, option_map_or, not-false, or_parts, fields_of, has_empty_field, TextLine, length-fields_of, is_shape, LineFault, Ring, Row, row_fields, Form, most_of, State, next_number, form_in, said_in, is_bad_row, is_bad_number, is_too_much, is_past_limit, is_too_long, is_misplaced, is_bad_shape, row_fault, line_fault, with_said, after, read_line, said_of, Said, SaysRing, AllSound, all_filled, then_there, written_lengths}
use Rattle.trace_reader.proofs.SpelledSaid.{FitsSaid, IsRead, IsSpelled, fields_said, read_from_spelled, spelled_from_read, stands}
use Rattle.trace_reader.proofs.SpelledHeaders.{shape_says}
use Rattle.trace_reader.proofs.SpelledSizes.{row_sound, ring_sound, sub_length, write_length, reg_length, reg_read_length, bell_length, read_length, ring_length, goes_length, withdraws_length}
use Rattle.std.proofs.Common.{List, length, map}
use Rattle.trace_reader.proofs.Words.{Bell, FreeRow, NopRow, Read, Reg, RegRead, RingRow, SaysRow, Sub, Write, printed, spaced_length}
use Rattle.traces.specs.Limits.{most_bytes_of}
use Rattle.traces.specs.declared.version.Version.{Version}

-- the line spells it, and it may stand there
pub record IsGood (st : State) (line : TextLine) (s : Said) : Type 0 where
  pub ended : line.is_ended ≡ true
  pub spelled : IsSpelled s (fields_of line.content)
  pub ordered : stands st.version st.begun s ≡ true
  pub within : next_number st ≤ most_of st
  pub few : is_too_much st.version s ≡ false
  pub placed : is_misplaced st.rings st.later s ≡ false

-- ---- from no fault

record NoFaults (st : State) (line : TextLine) : Type 0 where
  short : is_too_long (most_bytes_of st.version) line ≡ false
  row : is_bad_row st line ≡ false
  number : is_bad_number st line ≡ false
  limit : is_past_limit st line ≡ false
  shape : is_bad_shape st line ≡ false

no_faults : (st : State) (line : TextLine) → row_fault st line ≡ None → NoFaults st line
unfolding row_fault
no_faults st line none = search rules

no_row_fault : (st : State) (line : TextLine) → NoFaults st line → row_fault st line ≡ None
unfolding row_fault
no_row_fault st line none = rw (none.short, none.row, none.number, none.limit, none.shape) refl

pub there : {A : Type 0} (o : Option A) → is_none o ≡ false → (a : A) × (o ≡ Some a)
there o is = search rules

record RowTests (st : State) (line : TextLine) : Type 0 where
  ended : line.is_ended ≡ true
  filled : has_empty_field (fields_of line.content) ≡ false
  formed : is_none (form_in st line) ≡ false

row_tests : (st : State) (line : TextLine) → is_bad_row st line ≡ false → RowTests st line
unfolding is_bad_row
row_tests st line good = search (rules, or_parts)

no_bad_row : (st : State) (line : TextLine) → RowTests st line → is_bad_row st line ≡ false
unfolding is_bad_row
no_bad_row st line is = rw (is.formed, is.filled, is.ended) refl

-- a line that says something has its form, and may stand there
record SaidBy (st : State) (line : TextLine) (s : Said) : Type 0 where
  form : Form
  formed : form_in st line ≡ Some form
  says : said_of form ≡ Some s
  spelled : IsSpelled s (fields_of line.content)
  ordered : stands st.version st.begun s ≡ true

said_by : (st : State) (line : TextLine) (s : Said) → said_in st line ≡ Some s → SaidBy st line s
unfolding said_in form_in
said_by st line s says =
    let p = then_there said_of (form_in st line) s says in
    let q = spelled_from_read st.version st.begun (fields_of line.content) p.0 s p.1 p.2 in
    record { form = p.0; formed = p.1; says = p.2; spelled = q.0; ordered = q.1 }

-- behind a row no line says a ring of the header
pub no_ring_behind : (st : State) (line : TextLine) (ring : Ring) → st.begun ≡ true → said_in st line ≡ Some (SaysRing ring) → ⊥
no_ring_behind st line ring begun says = let both : not true ≡ true = ap not (sym begun) ∙ (said_by st line (SaysRing ring) says).ordered in cc both

pub good_from_none : (st : State) (line : TextLine) → row_fault st line ≡ None → (s : Said) × (said_in st line ≡ Some s) × IsGood st line s
unfolding is_bad_number is_past_limit is_bad_shape
good_from_none st line none =
    let n = no_faults st line none in
    let is = there (said_in st line) n.number in
    let limits = or_parts (nat_lt (most_of st) (next_number st)) (option_map_or (is_too_much st.version) (said_in st line) false) n.limit in (
      is.0,
      is.1,
      record {
        ended = (row_tests st line n.row).ended;
        spelled = (said_by st line is.0 is.1).spelled;
        ordered = (said_by st line is.0 is.1).ordered;
        within = ltb-false (most_of st) (next_number st) limits.0;
        few = rw is.1 at limits.1;
        placed = rw is.1 at n.shape;
      },
    )

-- ---- to no fault

pub said_sound : (s : Said) → AllSound (fields_said s)
said_sound s = search (rules, row_sound, ring_sound)

allowed : (ring : Ring) (other : Bool) → (not (is_shape ring.shape) || other) ≡ false → is_shape ring.shape ≡ true
allowed ring other placed = not-false (is_shape ring.shape) ((or_parts (not (is_shape ring.shape)) other placed).0)

short_said : (version : Version) (rings : List Ring) (later : List ℕ) (s : Said) → FitsSaid s → is_too_much version s ≡ false → is_misplaced rings later s ≡ false →
    spaced_length (map printed (fields_said s)) ≤ most_bytes_of version
unfolding row_fields
short_said version rings later (SaysRow (Sub ring blocks)) fits few placed = sub_length version ring blocks fits.0.1 few
short_said version rings later (SaysRow (Write at word)) fits few placed = write_length version at word
short_said version rings later (SaysRow (Reg register value)) fits few placed = reg_length version register value
short_said version rings later (SaysRow (Bell slot target)) fits few placed = bell_length version slot target
short_said version rings later (SaysRow (Read event)) fits few placed = read_length version event fits.0
short_said version rings later (SaysRow (RingRow ring)) fits few placed = ring_length version ring (shape_says ring.shape (allowed ring _ placed)).few
short_said version rings later (SaysRow (FreeRow ring)) fits few placed = goes_length version ring
short_said version rings later (SaysRow (NopRow ring position)) fits few placed = withdraws_length version ring position
short_said version rings later (SaysRow (RegRead register value)) fits few placed = reg_read_length version register value
short_said version rings later (SaysRing ring) fits few placed = ring_length version ring (shape_says ring.shape (allowed ring _ placed)).few

short_line : (st : State) (line : TextLine) (s : Said) → IsGood st line s → is_too_long (most_bytes_of st.version) line ≡ false
unfolding is_too_long
short_line st line s good =
    le-ltb (most_bytes_of st.version) (length line.content) (omega (
      arith,
      length-fields_of line.content,
      written_lengths (fields_said s) (fields_of line.content) good.spelled.written,
      short_said st.version st.rings st.later s good.spelled.fits good.few good.placed,
    ))

read_in : (st : State) (line : TextLine) (s : Said) → IsRead st.version st.begun s (fields_of line.content) → said_in st line ≡ Some s
unfolding said_in form_in
read_in st line s is = ap (λ (o : Option Form). option_and_then said_of o) is.formed ∙ is.says

formed_in : (st : State) (line : TextLine) (s : Said) (is : IsRead st.version st.begun s (fields_of line.content)) → form_in st line ≡ Some (is.form)
unfolding form_in
formed_in st line s is = is.formed

pub none_from_good : (st : State) (line : TextLine) (s : Said) → IsGood st line s → (row_fault st line ≡ None) × (said_in st line ≡ Some s)
unfolding is_bad_number is_past_limit is_bad_shape
none_from_good st line s good =
    let read = read_from_spelled st.version st.begun s (fields_of line.content) good.spelled good.ordered in
    let says = read_in st line s read in
    let formed = formed_in st line s read in
    grind (arith, all_filled, fields_said, said_sound, no_bad_row, no_row_fault, short_line, le-ltb)

-- ---- the next line

line_fault_is : (st : State) (line : TextLine) → 2 ≤ st.lines → line_fault st line ≡ row_fault st line
unfolding line_fault
line_fault_is st line behind = rw (ne_eqb st.lines 0 (λ e. omega (arith, e)), ne_eqb st.lines 1 (λ e. omega (arith, e))) refl

after_is : (st : State) (line : TextLine) → 2 ≤ st.lines → after st line ≡ with_said st (said_in st line)
unfolding after
after_is st line behind = rw (ne_eqb st.lines 0 (λ e. omega (arith, e)), ne_eqb st.lines 1 (λ e. omega (arith, e))) refl

pub ok_there : {A : Type 0} (fault : Option LineFault) (a b : A) → option_map_or (λ f. Err f) fault (Ok a) ≡ Ok b → (fault ≡ None) × (a ≡ b)
ok_there fault a b is = search rules

pub step_from_read : (st : State) (line : TextLine) (p : State × Option Row) → 2 ≤ st.lines → read_line st line ≡ Ok p → (s : Said) × IsGood st line s × (with_said st (Some s) ≡ p)
unfolding read_line
step_from_read st line p behind is = search (rules, ok_there, good_from_none, line_fault_is, after_is)

pub read_from_good : (st : State) (line : TextLine) (s : Said) → 2 ≤ st.lines → IsGood st line s → read_line st line ≡ Ok (with_said st (Some s))
unfolding read_line
read_from_good st line s behind good = search (rules, none_from_good, line_fault_is, after_is)
