-- What is read of a text is the valid plan that the text spells
use Rattle.trace_reader.proofs.UpperLaws.{rules, ◌≡◌, ◌<◌, ◌≤◌, ◌^◌, ◌∷◌, ◌∙◌, ℕ, inl, inr, true, false, List, [], length, map, None, Result, Ok, All, IsTrue, refl, sym, ap, arith, codes, le-ltb, and_parts, and_from, cases_Bool, or_parts, fields_of, TextLine, lines_of, is_shape, IsBlock, RingKind, Evt, LineFault, PlanLine, Ret, Ring, is_event_kind, most_lines, lines_say, PlanText, plans_too_much, is_plan_version, plan_form_of, plan_in, plan_line, plan_line_fault, plan_of, plan_ring, plan_ring_fault, plan_value, ret_line, ring_alone, ring_line_form, ring_value, plan_sub_line, with_ring, IsPlan, plan_line_fields, plan_text_lines, plan_version_fields, spells_plan, IsPlanLine, are_written, is_written, lines_written, ring_fields, AreLines, IsSaid, table_read, table_written, AreSpelled, IsSpelling, line_read, line_spells, lines_read, lines_spell, two_words, words_written, are_same_bytes, FitsRing, ring_of_line, ring_fits, shape_says, blocks_length, blocks_sound, digits_64, digits_8, ring_length, ring_sound, sixteen_digits, sound_named, two_digits}
use Rattle.trace_reader.proofs.Limits.{few_blocks}
use Rattle.traces.specs.Limits.{most_bytes_of}
use Rattle.traces.specs.declared.version.Version.TheVariants.{One}
use Rattle.traces.specs.declared.plan.PlanLine.TheVariants.{Sub}

-- ---- the ring's line

plan_ring_tests : (ring : Ring) → plan_ring_fault ring ≡ None → (is_shape ring.shape ≡ true) × (is_event_kind ring.shape.kind ≡ false)
plan_ring_tests ring none = search (rules, or_parts)

ring_is_line : AreLines ring_fields FitsRing (ring_alone ∷ [])
unfolding ring_fields
ring_is_line = ((λ v. (refl, (λ fits. record { id = fits.0; some = fits.1.1.1; segments = fits.1.1.0; unmoved = refl }))), tt)

ring_is_said : (ring : Ring) → IsSaid ring_fields FitsRing (ring_alone ∷ []) ring
unfolding ring_fields
ring_is_said ring =
    record { line = ring_alone; says = (ring.id, (ring.shape.kind, ring.shape.segments)); makes = λ is. ring_of_line ring is.unmoved; named = refl; spelled = refl; fits = λ is. (is.id, (tt, (is.segments, is.some))) }

ring_spelling : IsSpelling ring_line_form ring_value plan_ring_fault ring_fields FitsRing
unfolding ring_line_form ring_value most_bytes_of
ring_spelling = record {
  to_fields = table_written ring_fields FitsRing (ring_alone ∷ []) ring_is_line;
  to_form = table_read ring_fields FitsRing (ring_alone ∷ []) ring_is_said;
  sound = ring_sound;
  short = λ ring fits none. ring_length One ring ((shape_says ring.shape ((plan_ring_tests ring none).0)).few);
}

-- ---- the other lines

FitsPlanLine : PlanLine → Type 0
FitsPlanLine (Sub ring blocks) = (ring < 256) × All IsBlock blocks × (0 < length blocks)
FitsPlanLine (Ret upto) = upto < 2 ^ 64

plan_are_lines : AreLines plan_line_fields FitsPlanLine (plan_sub_line ∷ ret_line ∷ [])
unfolding plan_line_fields FitsPlanLine
plan_are_lines = ((λ v. (refl, (λ fits. (fits.0, fits.1.0, fits.1.1)))), ((λ v. (refl, (λ fits. fits.0))), tt))

each_is_said : (line : PlanLine) → IsSaid plan_line_fields FitsPlanLine (plan_sub_line ∷ ret_line ∷ []) line
unfolding plan_line_fields FitsPlanLine
each_is_said (Sub ring blocks) = record { line = plan_sub_line; says = (ring, blocks); makes = λ _. refl; named = refl; spelled = refl; fits = λ is. (is.0, (is.1, is.2)) }
each_is_said (Ret upto) = record { line = ret_line; says = (upto, tt); makes = λ _. refl; named = refl; spelled = refl; fits = λ is. (is, tt) }

line_limits : (number : ℕ) (line : PlanLine) → plan_line_fault number line ≡ None → (number ≤ most_lines) × (plans_too_much line ≡ false)
line_limits number line none = search (rules, or_parts)

line_spelling : (number : ℕ) → IsSpelling plan_form_of plan_value (plan_line_fault number) plan_line_fields FitsPlanLine
unfolding plan_form_of plan_value plan_line_fields FitsPlanLine
line_spelling number = record {
  to_fields = table_written plan_line_fields FitsPlanLine (plan_sub_line ∷ ret_line ∷ []) plan_are_lines;
  to_form = table_read plan_line_fields FitsPlanLine (plan_sub_line ∷ ret_line ∷ []) each_is_said;
  sound = (search (rules, sound_named, digits_8, blocks_sound, digits_64));
  short = (search (rules, few_blocks, line_limits, two_digits, blocks_length, sixteen_digits));
}

fits_from_line : (line : PlanLine) → IsPlanLine line → FitsPlanLine line × (plans_too_much line ≡ false)
unfolding FitsPlanLine
fits_from_line line is = search rules

lines_are_spelled : AreSpelled plan_line plan_line_fields IsPlanLine most_lines
unfolding FitsPlanLine
lines_are_spelled = record {
  spells = λ number line value is.
      let p = line_spells plan_form_of plan_value (plan_line_fault number) plan_line_fields FitsPlanLine (line_spelling number) line value is in
      (p.0, (search (rules, few_blocks)), (line_limits number value p.2).0);
  reads = λ number line value written is within.
      let none : plan_line_fault number value ≡ None = rw (le-ltb most_lines number within, (fits_from_line value is).1) refl in
      line_read plan_form_of plan_value (plan_line_fault number) plan_line_fields FitsPlanLine (line_spelling number) line value written (fits_from_line value is).0 none;
}

-- ---- the text

version_words : are_written plan_version_fields (fields_of (codes "xplan 1")) ≡ true
unfolding fields_of
version_words = refl

version_written : (line : TextLine) → is_plan_version line ≡ true → is_written plan_version_fields line ≡ true
unfolding is_plan_version
version_written line is = words_written plan_version_fields (codes "xplan 1") line version_words is

not_event : (kind : RingKind) → is_event_kind kind ≡ false → kind ≡ Evt → ⊥
not_event kind other is = cc (sym (ap is_event_kind is) ∙ other)

driven : (kind : RingKind) → (kind ≡ Evt → ⊥) → is_event_kind kind ≡ false
driven kind is = search rules

with_ring_there : (one : Result Ring LineFault) (later : Result (List PlanLine) (ℕ × LineFault)) (plan : PlanText) → with_ring one later ≡ Ok plan →
    (one ≡ Ok plan.ring) × (later ≡ Ok plan.lines)
with_ring_there one later plan is = search rules

read_spells : (lines : List TextLine) (plan : PlanText) → plan_in lines ≡ Ok plan → (lines_written (plan_text_lines plan) lines ≡ true) × IsPlan plan
unfolding plan_text_lines
read_spells [] plan is = cc is
read_spells (first ∷ []) plan is = search rules
read_spells (first ∷ second ∷ lines) plan is =
    elim (cases_Bool (is_plan_version first)) [
      | inl version ↦
          let p = with_ring_there (plan_ring second) (lines_say plan_line 3 lines) plan (rw version at is) in
          let ring = line_spells ring_line_form ring_value plan_ring_fault ring_fields FitsRing ring_spelling second plan.ring p.0 in
          let tests = plan_ring_tests plan.ring ring.2 in
          let rest = lines_spell plan_line plan_line_fields IsPlanLine most_lines lines_are_spelled lines 3 plan.lines (omega arith) p.1 in (
            and_from (is_written plan_version_fields first) _ (version_written first version)
                (and_from (is_written (ring_fields plan.ring) second) (lines_written (map plan_line_fields plan.lines) lines) ring.0 rest.0),
            record { id = ring.1.id; shape = tests.0; unmoved = ring.1.unmoved; driven = not_event plan.ring.shape.kind tests.1; lines = rest.1; within = omega (arith, rest.2) },
          )
      | inr other ↦ cc (rw other at is)
    ]

-- what is read is spelled by the text, and valid
pub plan_spelled_if_read : (text : List ℕ) (plan : PlanText) → plan_of text ≡ Ok plan → IsTrue (spells_plan plan text) × IsPlan plan
unfolding plan_of spells_plan
plan_spelled_if_read text plan is = read_spells (lines_of text) plan is

-- a valid plan that the text spells is what is read
pub plan_read_if_spelled : (text : List ℕ) (plan : PlanText) → IsTrue (spells_plan plan text) → IsPlan plan → plan_of text ≡ Ok plan
unfolding plan_of spells_plan plan_text_lines is_plan_version
plan_read_if_spelled text plan spelled is = grind (arith, and_parts, driven, line_read, ring_spelling, ring_fits, lines_read, lines_are_spelled, two_words, and_from, are_same_bytes)

-- a text spells one valid plan
pub one_plan : (text : List ℕ) (s t : PlanText) → IsTrue (spells_plan s text) → IsPlan s → IsTrue (spells_plan t text) → IsPlan t → s ≡ t
one_plan text s t spells_s is_s spells_t is_t = search (rules, plan_read_if_spelled)
