-- What a line of a trace says, and how it is written
use Rattle.trace_reader.proofs.LowerLaws.{rules, ◌≡◌, ◌<◌, ◌&&◌, ◌||◌, ◌∷◌, ℕ, Bool, true, not, List, [], length, Some, All, refl, sym, ap, FitsLine, IsRow, Ring, Row, Sub, Write, Reg, Bell, Read, RingRow, FreeRow, NopRow, Version, begins_with_ring, is_of_version, Field, are_written, row_fields, ring_fields, Form, form_of, said_of, sub_line, write_line, reg_line, bell_line, event_line, ring_line, ring_as, comes_line, goes_line, withdraws_line, Said, SaysRow, SaysRing, FitsSegment, reg_read_line, said_lines, RegRead, has_runs, KindOfRing}
use Rattle.trace_reader.proofs.Grammar.{AreLines, Fits, IsSaid, said_read, table_written}

-- its numbers fit the digits for them, and it hasn't grown
pub record FitsRing (ring : Ring) : Type 0 where
  pub id : ring.id < 256
  pub some : 0 < length ring.shape.segments
  pub segments : All FitsSegment ring.shape.segments
  pub unmoved : ring.shape.offset ≡ 0

-- it is the ring of its line
pub ring_of_line : (ring : Ring) → ring.shape.offset ≡ 0 → ring_as (ring.id, (ring.shape.kind, ring.shape.segments)) ≡ ring
ring_of_line ring unmoved = ap (λ n. record ring { shape = record ring.shape { offset = n } }) (sym unmoved)

abbrev pub FitsRow : Row → Type 0
FitsRow (RingRow ring) = FitsRing ring
FitsRow row = IsRow row × FitsLine row

abbrev pub FitsSaid : Said → Type 0
FitsSaid (SaysRow row) = FitsRow row
FitsSaid (SaysRing ring) = FitsRing ring

abbrev pub fields_said : Said → List Field
fields_said (SaysRow row) = row_fields row
fields_said (SaysRing ring) = ring_fields ring

-- it may be said in this version, where rows have begun, or not
abbrev pub stands : Version → Bool → Said → Bool
stands version begun (SaysRing ring) = not begun
stands version begun (SaysRow row) = is_of_version version row && (not (begins_with_ring (row ∷ [])) || begun)

-- the fields spell it
pub record IsSpelled (s : Said) (fields : List (List ℕ)) : Type 0 where
  pub written : are_written (fields_said s) fields ≡ true
  pub fits : FitsSaid s

-- the fields have a form that says it
pub record IsRead (version : Version) (begun : Bool) (s : Said) (fields : List (List ℕ)) : Type 0 where
  pub form : Form
  pub formed : form_of version begun fields ≡ Some form
  pub says : said_of form ≡ Some s

-- its numbers fit, and it may stand there
abbrev FitsThere : Version → Bool → Said → Type 0
FitsThere version begun s = FitsSaid s × (stands version begun s ≡ true)

said_are_lines : (version : Version) (begun : Bool) → AreLines fields_said (FitsThere version begun) (said_lines version begun)
unfolding row_fields ring_fields
said_are_lines version begun = search rules

kind_fits : (version : Version) (begun : Bool) (ring : Ring) → stands version begun (SaysRow (RingRow ring)) ≡ true → Fits (KindOfRing (has_runs version)) ring.shape.kind
kind_fits version begun ring there = search rules

each_is_said : (version : Version) (begun : Bool) (s : Said) → stands version begun s ≡ true → IsSaid fields_said (FitsThere version begun) (said_lines version begun) s
unfolding ring_fields row_fields
each_is_said version begun (SaysRow (Sub ring blocks)) there = record { line = sub_line; says = (ring, blocks); makes = λ _. refl; named = refl; spelled = refl; fits = λ is. (is.0.0.0, (is.0.0.1, is.0.1)) }
each_is_said version begun (SaysRow (Write at word)) there = record { line = write_line; says = (at, (word, tt)); makes = λ _. refl; named = refl; spelled = refl; fits = λ is. (is.0.0.0, (is.0.0.1, tt)) }
each_is_said version begun (SaysRow (Reg register value)) there = record { line = reg_line; says = (register, value); makes = λ _. refl; named = refl; spelled = refl; fits = λ is. is.0 }
each_is_said version begun (SaysRow (Bell slot target)) there = record { line = bell_line; says = (slot, (target, tt)); makes = λ _. refl; named = refl; spelled = refl; fits = λ is. (is.0.0.0, (is.0.0.1, tt)) }
each_is_said version begun (SaysRow (Read event)) there = record { line = event_line; says = event; makes = λ _. refl; named = refl; spelled = refl; fits = λ is. is.0.0 }
each_is_said version begun (SaysRow (RingRow ring)) there =
    record { line = comes_line (has_runs version); says = (ring.id, (ring.shape.kind, ring.shape.segments)); makes = λ is. ap (λ r. SaysRow (RingRow r)) (ring_of_line ring is.0.unmoved); named = (search rules); spelled = refl; fits = λ is. (is.0.id, (kind_fits version begun ring is.1, (is.0.segments, is.0.some))) }
each_is_said version begun (SaysRow (FreeRow ring)) there = record { line = goes_line; says = (ring, tt); makes = λ _. refl; named = (search rules); spelled = refl; fits = λ is. (is.0.0, tt) }
each_is_said version begun (SaysRow (NopRow ring position)) there = record { line = withdraws_line; says = (ring, (position, tt)); makes = λ _. refl; named = (search rules); spelled = refl; fits = λ is. (is.0.0.0, (is.0.0.1, tt)) }
each_is_said version begun (SaysRow (RegRead register value)) there = record { line = reg_read_line; says = (register, value); makes = λ _. refl; named = (search rules); spelled = refl; fits = λ is. is.0 }
each_is_said version begun (SaysRing ring) there =
    record { line = ring_line; says = (ring.id, (ring.shape.kind, ring.shape.segments)); makes = λ is. ap SaysRing (ring_of_line ring is.0.unmoved); named = (search rules); spelled = refl; fits = λ is. (is.0.id, (tt, (is.0.segments, is.0.some))) }

module _ (version : Version) (begun : Bool) where
  -- the fields of a form spell what it says, and it may stand there
  pub spelled_from_read : (fields : List (List ℕ)) (form : Form) (s : Said) → form_of version begun fields ≡ Some form → said_of form ≡ Some s →
      IsSpelled s fields × (stands version begun s ≡ true)
  unfolding form_of said_of
  spelled_from_read fields form s is says =
      let p = table_written fields_said (FitsThere version begun) (said_lines version begun) (said_are_lines version begun) fields form s is says in
      (record { written = p.0; fits = p.1.0 }, p.1.1)

  -- fields that spell it have a form that says it
  pub read_from_spelled : (s : Said) (fields : List (List ℕ)) → IsSpelled s fields → stands version begun s ≡ true → IsRead version begun s fields
  unfolding form_of said_of
  read_from_spelled s fields is there =
      let p = said_read fields_said (FitsThere version begun) (said_lines version begun) s (each_is_said version begun s there) fields (is.fits, there) is.written in
      record { form = p.0; formed = p.1; says = p.2 }
