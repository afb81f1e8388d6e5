-- One line more of a text whose lines don't depend on each other
use Rattle.trace_reader.proofs.LowerLaws.{rules, ◌≡◌, ◌+◌, ◌∷◌, ◌++◌, ◌∙◌, ℕ, List, [], Option, Some, None, Result, Ok, Err, refl, ap, length, arith, common_steps, fields_of, TextLine, lines_of, LineError, LineFault, IfBadLine, at_line, content_fault, AnswersBy, faulted_by, valued_by, line_says, lines_say, next_value, by_content}
use Rattle.traces.specs.Limits.{most_bytes}

-- ---- a line

module _ {Form Value : Type 0} (form_of : List (List ℕ) → Option Form) (value_of : Form → Option Value) (fault_of : Value → Option LineFault) where
  -- a fault of its content is the line's
  pub content_faulty : (line : TextLine) (fault : LineFault) → content_fault most_bytes line ≡ Some fault → line_says form_of value_of fault_of line ≡ Err fault
  content_faulty line fault is = search (rules, by_content)

  pub content_whole : (line : TextLine) (content : List ℕ) → content_fault most_bytes line ≡ None → content ≡ line.content →
      line_says form_of value_of fault_of line ≡ faulted_by fault_of (valued_by value_of (form_of (fields_of content)))
  content_whole line content whole is = search (rules, by_content)

-- a fault of the fields is the line's
pub passed_by : {A B V : Type 0} (f : A → V) (g : B → V) (fault_of : V → Option LineFault) (e : LineError) (wanted : Result V LineFault) → AnswersBy f (Err e) wanted → AnswersBy g (Err e) (faulted_by fault_of wanted)
passed_by f g fault_of e wanted is = search rules

pub faulted : {V : Type 0} (fault_of : V → Option LineFault) (wanted : Result V LineFault) (value : V) (fault : LineFault) → wanted ≡ Ok value → fault_of value ≡ Some fault →
    faulted_by fault_of wanted ≡ Err fault
faulted fault_of wanted value fault is faulty = rw (is, faulty) refl

pub unfaulted : {V : Type 0} (fault_of : V → Option LineFault) (wanted : Result V LineFault) (value : V) → wanted ≡ Ok value → fault_of value ≡ None → faulted_by fault_of wanted ≡ Ok value
unfaulted fault_of wanted value is faultless = rw (is, faultless) refl

-- ---- the lines so far

module _ {Value : Type 0} where
  pub prepended : List Value → Result (List Value) (ℕ × LineFault) → Result (List Value) (ℕ × LineFault)
  prepended values (Ok later) = Ok (values ++ later)
  prepended values (Err fault) = Err fault

  pub at_start : (r : Result (List Value) (ℕ × LineFault)) → prepended [] r ≡ r
  unfolding prepended
  at_start r = search rules

  one_later : (values : List Value) (value : Value) (number : ℕ) (r : Result (List Value) (ℕ × LineFault)) → prepended values (next_value number (Ok value) r) ≡ prepended (values ++ value ∷ []) r
  unfolding prepended
  one_later values value number r = grind (arith, common_steps)

  module _ (says : ℕ → TextLine → Result Value LineFault) (whole : Result (List Value) (ℕ × LineFault)) (values : List Value) (number : ℕ) where
    pub one_line_more : (text rest : List ℕ) (line : TextLine) (value : Value) → whole ≡ prepended values (lines_say says number (lines_of text)) → lines_of text ≡ line ∷ lines_of rest →
        says number line ≡ Ok value → whole ≡ prepended (values ++ value ∷ []) (lines_say says (number + 1) (lines_of rest))
    unfolding lines_say
    one_line_more text rest line value so_far are is =
        so_far ∙ ap (λ ls. prepended values (lines_say says number ls)) are ∙ ap (λ one. prepended values (next_value number one (lines_say says (number + 1) (lines_of rest)))) is
        ∙ one_later values value number (lines_say says (number + 1) (lines_of rest))

    pub bad_line_there : (text rest : List ℕ) (line : TextLine) (e : LineError) → whole ≡ prepended values (lines_say says number (lines_of text)) → lines_of text ≡ line ∷ lines_of rest →
        AnswersBy {Answer = Value} (λ v. v) (Err e) (says number line) → IfBadLine (at_line number e) (λ n code. whole ≡ Err (n, code))
    unfolding lines_say prepended
    bad_line_there text rest line e so_far are is = search (rules, prepended)

    pub lines_ended : (text : List ℕ) → whole ≡ prepended values (lines_say says number (lines_of text)) → length text ≡ 0 → whole ≡ Ok values
    unfolding lines_say lines_of prepended
    lines_ended text so_far short = grind (arith, common_steps)
