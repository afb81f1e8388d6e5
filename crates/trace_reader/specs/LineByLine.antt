-- How a text is read whose lines behind the header don't depend on each other
use Rattle.std.specs.Prelude.{ℕ, ◌+◌, ◌||◌, Bool, not, List, [], ◌∷◌, Option, Result, Ok, Err, is_none, if◌then◌else◌}
use Rattle.std.specs.Option.{option_and_then, option_map_or}
use Rattle.line_text.specs.Lines.{TextLine}
use Rattle.line_text.specs.Fields.{fields_of, has_empty_field}
use Rattle.trace_reader.specs.declared.fault.LineFault.{LineFault}
use Rattle.trace_reader.specs.declared.fault.LineFault.TheVariants.{Row as BadRow, Number, Limit}
use Rattle.traces.specs.Limits.{most_bytes}
use Rattle.trace_reader.specs.Reading.{is_too_long}

-- 2 Row: no line feed at the end, an empty field, or no form
abbrev pub has_no_form : {Form : Type 0} → (List (List ℕ) → Option Form) → TextLine → Bool
has_no_form form_of line = not line.is_ended || has_empty_field (fields_of line.content) || is_none (form_of (fields_of line.content))

-- what the numbers of a line say, where it has a form; None: 3 Number
abbrev pub value_in : {Form Value : Type 0} → (List (List ℕ) → Option Form) → (Form → Option Value) → TextLine → Option Value
value_in form_of value_of line = option_and_then value_of (form_of (fields_of line.content))

-- 4 Limit and 5 Shape are faults of what a line says
abbrev pub unless_fault : {Value : Type 0} → (Value → Option LineFault) → Value → Result Value LineFault
unless_fault fault_of value = option_map_or Err (fault_of value) (Ok value)

-- what a line says, or its least fault; a line of too many bytes has that fault alone
unfoldable pub line_says : {Form Value : Type 0} → (List (List ℕ) → Option Form) → (Form → Option Value) → (Value → Option LineFault) → TextLine → Result Value LineFault
line_says form_of value_of fault_of line =
    if is_too_long most_bytes line then Err Limit
    else if has_no_form form_of line then Err BadRow
    else option_map_or (unless_fault fault_of) (value_in form_of value_of line) (Err Number)

abbrev pub next_value : {Value : Type 0} → ℕ → Result Value LineFault → Result (List Value) (ℕ × LineFault) → Result (List Value) (ℕ × LineFault)
next_value number (Ok value) (Ok values) = Ok (value ∷ values)
next_value number (Ok value) (Err fault) = Err fault
next_value number (Err fault) later = Err (number, fault)

-- what lines say that are numbered from this number on, or the first bad line and its least fault
unfoldable pub lines_say : {Value : Type 0} → (ℕ → TextLine → Result Value LineFault) → ℕ → List TextLine → Result (List Value) (ℕ × LineFault)
lines_say says number [] = Ok []
lines_say says number (line ∷ lines) = next_value number (says number line) (lines_say says (number + 1) lines)
