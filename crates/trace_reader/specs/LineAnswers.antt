-- What the functions answer that read one line by itself, in the words of LineByLine
use Rattle.std.specs.Prelude.{◌≡◌, ℕ, List, Option, Some, None, Result, Ok, Err, if◌then◌else◌}
use Rattle.std.specs.Option.{option_map_or}
use Rattle.trace_reader.specs.declared.fault.LineFault.{LineFault}
use Rattle.trace_reader.specs.declared.fault.LineFault.TheVariants.{Row as BadRow, Number}
use Rattle.trace_reader.specs.declared.fault.LineError.{LineError}
use Rattle.trace_reader.specs.declared.fault.LineError.TheVariants.{Fault, Memory}
use Rattle.trace_reader.specs.Grammar.{Kind, Tail, Values, are_fields, values}
use Rattle.trace_reader.specs.LineByLine.{unless_fault}

-- the answer says the wanted value, or it is the wanted fault, or memory was wanting
abbrev pub AnswersBy : {Answer Value : Type 0} → (Answer → Value) → Result Answer LineError → Result Value LineFault → Type 0
AnswersBy value (Ok answer) wanted = wanted ≡ Ok (value answer)
AnswersBy value (Err (Fault fault)) wanted = wanted ≡ Err fault
AnswersBy value (Err Memory) wanted = Unit {0}

-- a line of this form, by its numbers
abbrev pub valued_by : {Form Value : Type 0} → (Form → Option Value) → Option Form → Result Value LineFault
valued_by value_of None = Err BadRow
valued_by value_of (Some form) = option_map_or Ok (value_of form) (Err Number)

-- what fields of these kinds say, and those that come last
abbrev pub fields_say : (ks : List Kind) (tail : Tail) → List (List ℕ) → Result (Values ks tail) LineFault
fields_say ks tail fields = if are_fields ks tail fields then option_map_or Ok (values ks tail fields) (Err Number) else Err BadRow

-- unless what it says is a fault by itself
abbrev pub faulted_by : {Value : Type 0} → (Value → Option LineFault) → Result Value LineFault → Result Value LineFault
faulted_by fault_of (Ok value) = unless_fault fault_of value
faulted_by fault_of (Err fault) = Err fault
