-- Lines that don't depend on each other: what they say, and that they spell it
use Rattle.trace_reader.proofs.Words.{rules, ◌≡◌, ◌+◌, ◌≤◌, ◌∷◌, ℕ, true, false, List, [], length, map, Option, Some, None, Result, Ok, Err, All, refl, arith, le-ltb, option_map_or, and_parts, and_from, All-cons, All-head, All-nil, All-tail, fields_of, has_empty_field, TextLine, length-fields_of, spaced_length, LineFault, content_fault, most_bytes, faulted_by, valued_by, line_says, lines_say, next_value, is_too_long, Field, are_written, is_written, lines_written, printed}
use Rattle.trace_reader.proofs.SpelledFields.{AllSound, all_filled, written_lengths}

module _ {Form Value : Type 0} (form_of : List (List ℕ) → Option Form) (value_of : Form → Option Value) (fault_of : Value → Option LineFault) where
  -- ---- by its content and its fields

  pub by_content : (line : TextLine) →
      line_says form_of value_of fault_of line ≡ option_map_or Err (content_fault most_bytes line) (faulted_by fault_of (valued_by value_of (form_of (fields_of line.content))))
  unfolding line_says content_fault is_too_long
  by_content line = search rules

  -- ---- a line without a fault

  record IsGoodLine (line : TextLine) (value : Value) : Type 0 where
    short : is_too_long most_bytes line ≡ false
    ended : line.is_ended ≡ true
    filled : has_empty_field (fields_of line.content) ≡ false
    form : Form
    formed : form_of (fields_of line.content) ≡ Some form
    valued : value_of form ≡ Some value
    faultless : fault_of value ≡ None

  good_from_ok : (line : TextLine) (value : Value) → line_says form_of value_of fault_of line ≡ Ok value → IsGoodLine line value
  unfolding line_says
  good_from_ok line value is = search rules

  ok_from_good : (line : TextLine) (value : Value) → IsGoodLine line value → line_says form_of value_of fault_of line ≡ Ok value
  unfolding line_says
  ok_from_good line value good = rw (good.short, good.ended, good.filled, good.formed, good.valued, good.faultless) refl

  -- ---- how it is spelled

  -- what forms say is spelled by the fields, and fields that spell it have a form that says it
  pub record IsSpelling (fields_said : Value → List Field) (Fits : Value → Type 0) : Type 0 where
    pub to_fields : (fields : List (List ℕ)) (form : Form) (value : Value) → form_of fields ≡ Some form → value_of form ≡ Some value →
        (are_written (fields_said value) fields ≡ true) × Fits value
    pub to_form : (fields : List (List ℕ)) (value : Value) → Fits value → are_written (fields_said value) fields ≡ true →
        (form : Form) × (form_of fields ≡ Some form) × (value_of form ≡ Some value)
    pub sound : (value : Value) → AllSound (fields_said value)
    pub short : (value : Value) → Fits value → fault_of value ≡ None → spaced_length (map printed (fields_said value)) ≤ most_bytes

  module _ (fields_said : Value → List Field) (Fits : Value → Type 0) (spelling : IsSpelling fields_said Fits) where
    pub line_spells : (line : TextLine) (value : Value) → line_says form_of value_of fault_of line ≡ Ok value →
        (is_written (fields_said value) line ≡ true) × Fits value × (fault_of value ≡ None)
    line_spells line value is =
        let good = good_from_ok line value is in
        let p = spelling.to_fields (fields_of line.content) good.form value good.formed good.valued in
        (and_from line.is_ended (are_written (fields_said value) (fields_of line.content)) good.ended p.0, p.1, good.faultless)

    pub line_read : (line : TextLine) (value : Value) → is_written (fields_said value) line ≡ true → Fits value → fault_of value ≡ None → line_says form_of value_of fault_of line ≡ Ok value
    unfolding is_too_long
    line_read line value written fits faultless =
        let w = and_parts line.is_ended (are_written (fields_said value) (fields_of line.content)) written in
        let p = spelling.to_form (fields_of line.content) value fits w.1 in
        let few = spelling.short value fits faultless in
        ok_from_good line value (record {
          short = le-ltb most_bytes (length line.content) (omega (arith, length-fields_of line.content, written_lengths (fields_said value) (fields_of line.content) w.1, few));
          ended = w.0;
          filled = all_filled (fields_said value) (fields_of line.content) (spelling.sound value) w.1;
          form = p.0;
          formed = p.1;
          valued = p.2;
          faultless = faultless;
        })

-- ---- lines

module _ {Value : Type 0} (says : ℕ → TextLine → Result Value LineFault) (fields_said : Value → List Field) (Fits : Value → Type 0) (most : ℕ) where
  -- so is each line, up to the last number
  pub record AreSpelled : Type 0 where
    pub spells : (number : ℕ) (line : TextLine) (value : Value) → says number line ≡ Ok value → (is_written (fields_said value) line ≡ true) × Fits value × (number ≤ most)
    pub reads : (number : ℕ) (line : TextLine) (value : Value) → is_written (fields_said value) line ≡ true → Fits value → number ≤ most → says number line ≡ Ok value

  next_there : (number : ℕ) (one : Result Value LineFault) (later : Result (List Value) (ℕ × LineFault)) (values : List Value) → next_value number one later ≡ Ok values →
      (value : Value) × (rest : List Value) × (one ≡ Ok value) × (later ≡ Ok rest) × (value ∷ rest ≡ values)
  next_there number one later values is = search rules

  module _ (are : AreSpelled) where
    pub lines_spell : (lines : List TextLine) (number : ℕ) (values : List Value) → number ≤ most + 1 → lines_say says number lines ≡ Ok values →
        (lines_written (map fields_said values) lines ≡ true) × All Fits values × (number + length values ≤ most + 1)
    unfolding lines_say
    lines_spell [] number values before is = search (rules, All-nil)
    lines_spell (line ∷ lines) number values before is =
        let p = next_there number (says number line) (lines_say says (number + 1) lines) values is in
        let here = are.spells number line p.0 p.2 in
        grind (arith, and_from, All-cons, lines_spell lines (number + 1) p.1 (omega (arith, here.2)) p.3)

    pub lines_read : (values : List Value) (lines : List TextLine) (number : ℕ) → lines_written (map fields_said values) lines ≡ true → All Fits values → number + length values ≤ most + 1 →
        lines_say says number lines ≡ Ok values
    unfolding lines_say
    lines_read [] [] number written fit within = refl
    lines_read [] (line ∷ lines) number written fit within = cc written
    lines_read (value ∷ values) [] number written fit within = cc written
    lines_read (value ∷ values) (line ∷ lines) number written fit within =
        let p = and_parts (is_written (fields_said value) line) (lines_written (map fields_said values) lines) written in
        grind (arith, All-tail, All-head, lines_read values lines (number + 1) p.1 (All-tail Fits value values fit) (omega (arith, within)))
