-- What is read of a text is the valid schedule that the text spells
use Rattle.trace_reader.proofs.UpperLaws.{rules, ◌≡◌, ◌∷◌, ℕ, inl, inr, true, List, [], map, Ok, IsTrue, refl, arith, codes, le-ltb, ltb-false, and_parts, and_from, cases_Bool, fields_of, TextLine, lines_of, Step, NextRow, Look, Report, Finish, Other, Scribble, most_schedule_lines, IsStep, finish_line, is_schedule_version, look_line, other_line, report_line, row_line, schedule_in, schedule_of, scrib_line, step_fault, step_form_of, step_line, step_lines, step_value, IsSchedule, printed_schedule, schedule_lines, schedule_version_fields, spells_schedule, step_fields, are_written, is_written, lines_written, IsSaid, table_read, table_written, AreSpelled, IsSpelling, line_read, line_spells, lines_read, lines_spell, two_words, words_written, AllSound, are_same_bytes, block_length, block_sound, digits_32, digits_64, digits_8, eight_digits, sixteen_digits, sound_named, two_digits, Halt, halt_line}
use Rattle.trace_reader.proofs.Printed.{AllSoundLines, IsSoundLine, printed_lines, sound_lines_map}

-- ---- each step's line

each_is_said : (step : Step) → IsSaid step_fields IsStep step_lines step
unfolding step_fields
each_is_said NextRow = record { line = row_line; says = tt; makes = λ _. refl; named = refl; spelled = refl; fits = λ is. is }
each_is_said (Look ring) = record { line = look_line; says = (ring, tt); makes = λ _. refl; named = refl; spelled = refl; fits = λ is. (is, tt) }
each_is_said (Report event) = record { line = report_line; says = event; makes = λ _. refl; named = refl; spelled = refl; fits = λ is. is }
each_is_said (Finish event) = record { line = finish_line; says = event; makes = λ _. refl; named = refl; spelled = refl; fits = λ is. is }
each_is_said (Other event) = record { line = other_line; says = event; makes = λ _. refl; named = refl; spelled = refl; fits = λ is. is }
each_is_said (Scribble at word) = record { line = scrib_line; says = (at, (word, tt)); makes = λ _. refl; named = refl; spelled = refl; fits = λ is. (is.0, (is.1, tt)) }
each_is_said Halt = record { line = halt_line; says = tt; makes = λ _. refl; named = refl; spelled = refl; fits = λ is. is }

-- ---- a line

step_sound : (step : Step) → AllSound (step_fields step)
unfolding step_fields
step_sound step = search (rules, sound_named, digits_8, block_sound, digits_64, digits_32)

step_spelling : (number : ℕ) → IsSpelling step_form_of step_value (step_fault number) step_fields IsStep
unfolding step_form_of step_value step_fields
step_spelling number = record {
  to_fields = table_written step_fields IsStep step_lines (grind arith);
  to_form = table_read step_fields IsStep step_lines each_is_said;
  sound = step_sound;
  short = λ step is none. (search (rules, two_digits, block_length, sixteen_digits, eight_digits));
}

steps_are_spelled : AreSpelled step_line step_fields IsStep most_schedule_lines
steps_are_spelled = record {
  spells = λ number line step is.
      let p = line_spells step_form_of step_value (step_fault number) step_fields IsStep (step_spelling number) line step is in
      (p.0, p.1, ltb-false most_schedule_lines number (search rules));
  reads = λ number line step written is within.
      line_read step_form_of step_value (step_fault number) step_fields IsStep (step_spelling number) line step written is (rw (le-ltb most_schedule_lines number within) refl);
}

-- ---- the text

version_words : are_written schedule_version_fields (fields_of (codes "xsched 1")) ≡ true
unfolding fields_of
version_words = refl

version_written : (line : TextLine) → is_schedule_version line ≡ true → is_written schedule_version_fields line ≡ true
unfolding is_schedule_version
version_written line is = words_written schedule_version_fields (codes "xsched 1") line version_words is

read_spells : (lines : List TextLine) (steps : List Step) → schedule_in lines ≡ Ok steps → (lines_written (schedule_lines steps) lines ≡ true) × IsSchedule steps
unfolding schedule_lines
read_spells [] steps is = cc is
read_spells (first ∷ lines) steps is =
    elim (cases_Bool (is_schedule_version first)) [
      | inl version ↦
          let rest = lines_spell step_line step_fields IsStep most_schedule_lines steps_are_spelled lines 2 steps (omega arith) (rw version at is) in (
            and_from (is_written schedule_version_fields first) (lines_written (map step_fields steps) lines) (version_written first version) rest.0,
            record { steps = rest.1; within = omega (arith, rest.2) },
          )
      | inr other ↦ cc (rw other at is)
    ]

-- what is read is spelled by the text, and valid
pub schedule_spelled_if_read : (text : List ℕ) (steps : List Step) → schedule_of text ≡ Ok steps → IsTrue (spells_schedule steps text) × IsSchedule steps
unfolding schedule_of spells_schedule
schedule_spelled_if_read text steps is = read_spells (lines_of text) steps is

-- a valid schedule that the text spells is what is read
pub schedule_read_if_spelled : (text : List ℕ) (steps : List Step) → IsTrue (spells_schedule steps text) → IsSchedule steps → schedule_of text ≡ Ok steps
unfolding schedule_of spells_schedule schedule_lines is_schedule_version
schedule_read_if_spelled text steps spelled is = search (rules, and_parts, lines_read, steps_are_spelled, two_words, and_from, are_same_bytes)

-- a text spells one valid schedule
pub one_schedule : (text : List ℕ) (s t : List Step) → IsTrue (spells_schedule s text) → IsSchedule s → IsTrue (spells_schedule t text) → IsSchedule t → s ≡ t
one_schedule text s t spells_s is_s spells_t is_t = search (rules, schedule_read_if_spelled)

-- ---- what is printed

step_sound_line : (step : Step) → IsSoundLine (step_fields step)
unfolding step_fields
step_sound_line step = record { some = (search rules); sound = step_sound step }

version_line : IsSoundLine schedule_version_fields
version_line = record { some = omega arith; sound = (sound_named (codes "xsched") (omega arith) refl, (sound_named (codes "1") (omega arith) refl, tt)) }

schedule_sound : (steps : List Step) → AllSoundLines (schedule_lines steps)
unfolding schedule_lines
schedule_sound steps = (version_line, sound_lines_map step_fields step_sound_line steps)

-- what is printed spells the schedule, also one that isn't valid
pub schedule_printed_spells : (steps : List Step) → IsTrue (spells_schedule steps (printed_schedule steps))
unfolding spells_schedule printed_schedule
schedule_printed_spells steps = printed_lines (schedule_lines steps) (schedule_sound steps)

-- a valid schedule is read as it was printed
pub schedule_printed_reads : (steps : List Step) → IsSchedule steps → schedule_of (printed_schedule steps) ≡ Ok steps
schedule_printed_reads steps is = schedule_read_if_spelled (printed_schedule steps) steps (schedule_printed_spells steps) is
