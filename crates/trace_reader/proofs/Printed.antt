-- What is printed of a trace spells the trace
use Rattle.trace_reader.proofs.UpperLaws.{common_steps, rules, ◌≡◌, ◌<◌, ◌∷◌, ◌++◌, ℕ, Bool, true, false, List, [], length, map, Ok, All, IsTrue, refl, arith, ne_eqb, flat_map, join_with_byte, and_from, All-weaker, fields_of, is_line_feed, lines_of, All-join, AreFields, fields_of-join, lines_of-ended, lines_of-nothing, Ring, Row, row_fields, TraceText, trace_of, Field, lines_written, printed, printed_line, printed_trace, ring_fields, spells, trace_lines, IsTrace, AllSound, plain_fields, written_as_printed, ring_sound, sound_named, row_sound, read_if_spelled}

-- ---- one line

not_line_feed : (c : ℕ) → 32 < c → is_line_feed c ≡ false
not_line_feed c above = ne_eqb c 10 (λ same. omega (arith, same))

are_fields : (texts : List (List ℕ)) → All (λ text. All (λ c. 32 < c) text) texts → AreFields texts
are_fields texts plain = search (rules, All-weaker)

without_line_feed : (texts : List (List ℕ)) → All (λ text. All (λ c. 32 < c) text) texts → All (λ c. is_line_feed c ≡ false) (join_with_byte 32 texts)
without_line_feed texts plain = search (rules, All-join, not_line_feed)

-- a line of fields, at least one
pub record IsSoundLine (fields : List Field) : Type 0 where
  pub some : 0 < length fields
  pub sound : AllSound fields

-- the fields of a printed line are the printed fields
pub printed_fields : (fields : List Field) → IsSoundLine fields → fields_of (join_with_byte 32 (map printed fields)) ≡ map printed fields
printed_fields [] is = absurd (omega (arith, is.some))
printed_fields (field ∷ fields) is = fields_of-join (printed field) (map printed fields) (are_fields (map printed (field ∷ fields)) (plain_fields (field ∷ fields) is.sound))

-- ---- lines

abbrev pub AllSoundLines : List (List Field) → Type 0
AllSoundLines [] = Unit {0}
AllSoundLines (line ∷ lines) = IsSoundLine line × AllSoundLines lines

sound_lines_append : (xs ys : List (List Field)) → AllSoundLines xs → AllSoundLines ys → AllSoundLines (xs ++ ys)
sound_lines_append [] ys of_xs of_ys = of_ys
sound_lines_append (x ∷ xs) ys of_xs of_ys = (of_xs.0, sound_lines_append xs ys of_xs.1 of_ys)

pub sound_lines_map : {A : Type 0} (f : A → List Field) → ((a : A) → IsSoundLine (f a)) → (xs : List A) → AllSoundLines (map f xs)
sound_lines_map f sound [] = tt
sound_lines_map f sound (x ∷ xs) = (sound x, sound_lines_map f sound xs)

pub printed_lines : (lines : List (List Field)) → AllSoundLines lines → lines_written lines (lines_of (flat_map printed_line lines)) ≡ true
unfolding printed_line
printed_lines [] sound = rw lines_of-nothing refl
printed_lines (line ∷ lines) sound = grind (arith, printed_fields, written_as_printed, common_steps, lines_of-ended, without_line_feed, plain_fields, and_from, printed_lines lines sound.1)

-- ---- the lines of a trace

row_line : (row : Row) → IsSoundLine (row_fields row)
unfolding row_fields ring_fields
row_line row = record { some = (search rules); sound = row_sound row }

ring_line : (ring : Ring) → IsSoundLine (ring_fields ring)
unfolding ring_fields
ring_line ring = record { some = omega arith; sound = ring_sound ring }

trace_sound : (trace : TraceText) → AllSoundLines (trace_lines trace)
unfolding trace_lines
trace_sound trace = (
  (search (rules, sound_named)),
  (
    (search (rules, sound_named)),
    sound_lines_append (map ring_fields trace.header.rings) (map row_fields trace.rows) (sound_lines_map ring_fields ring_line trace.header.rings)
        (sound_lines_map row_fields row_line trace.rows),
  ),
)

-- what is printed spells the trace, also one that isn't valid
pub printed_spells : (trace : TraceText) → IsTrue (spells trace (printed_trace trace))
unfolding spells printed_trace
printed_spells trace = printed_lines (trace_lines trace) (trace_sound trace)

-- a valid trace is read as it was printed
pub printed_reads : (keeps : Bool) (trace : TraceText) → IsTrace keeps trace → trace_of keeps (printed_trace trace) ≡ Ok trace
printed_reads keeps trace is = read_if_spelled keeps (printed_trace trace) trace (printed_spells trace) is
