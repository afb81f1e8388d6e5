-- What is read of a text's lines, and what the lines spell
use Rattle.trace_reader.proofs.MiddleLaws.{common_steps, rules, ◌≡◌, ◌+◌, ◌≤◌, ◌==◌, ◌&&◌, ◌∷◌, ◌++◌, ◌∙◌, ℕ, Bool, true, false, not, List, [], length, map, nat_lt, Option, Some, None, Result, Ok, refl, sym, ap, arith, append_assoc, append-nil, ltb-true, eqb-true, list_any, list_all, and_parts, and_from, not-true, or_parts, or_from, All-head, All-tail, fields_of, TextLine, is_shape, LineFault, Ring, Row, AreRowsOf, IsRowOf, are_unmoved, begins_with_ring, has_no_shape, has_used_id, have_new_ids, ids_with, behind_row, clash, may_stand_together, most_of, State, next_number, read_line, read_lines, with_said, Field, are_written, lines_written, ring_fields, row_fields, Said, SaysRow, SaysRing, no_clash, ring_fits, together_with, IsGood, read_from_good, step_from_read}

-- ---- rows

-- a ring with an ID of its field and an allowed shape, that hasn't grown
abbrev pub is_line_ring : Ring → Bool
is_line_ring r = nat_lt r.id 256 && is_shape r.shape && r.shape.offset == 0

-- so are those of a header by whose rings a trace begins
pub are_line_rings : (rings : List Ring) → list_all is_line_ring rings ≡ (list_all (λ r. nat_lt r.id 256 && is_shape r.shape) rings && are_unmoved rings)
are_line_rings [] = refl
are_line_rings (ring ∷ rings) = rw (are_line_rings rings) (swap (nat_lt ring.id 256 && is_shape ring.shape) (ring.shape.offset == 0) (list_all (λ r. nat_lt r.id 256 && is_shape r.shape) rings) (are_unmoved rings))
  where
    swap : (a b c d : Bool) → (a && b && (c && d)) ≡ (a && c && (b && d))
    swap a b c d = search rules

-- ---- what lines are spelled as, from one state to another

abbrev pub lines_for : List Ring → List Row → List (List Field)
lines_for rings rows = map ring_fields rings ++ map row_fields rows

pub record IsSpelledAs (st end : State) (rings : List Ring) (rows : List Row) (lines : List TextLine) : Type 0 where
  pub written : lines_written (lines_for rings rows) lines ≡ true
  pub rings_are : end.rings ≡ st.rings ++ rings
  pub size_is : end.size ≡ st.size
  pub version_is : end.version ≡ st.version
  pub count : end.lines ≡ st.lines + (length rings + length rows)
  pub fit : AreRowsOf st.version rows
  pub begins : st.begun ≡ false → begins_with_ring rows ≡ false
  pub new_ids : have_new_ids (st.rings ++ rings) st.later rows ≡ true
  pub shapes : list_all is_line_ring rings ≡ true
  pub ordered : st.begun ≡ true → rings ≡ []
  pub within : st.lines ≤ most_of st → end.lines ≤ most_of st
  pub together : may_stand_together st.rings ≡ true → may_stand_together (st.rings ++ rings) ≡ true

-- the state behind a ring's line
abbrev behind_ring : State → Ring → State
behind_ring st ring = record st { lines = next_number st; rings = st.rings ++ ring ∷ [] }

-- ---- from what is read

-- the row in front of rows, where there is one
abbrev pub with_front : Option Row → List Row → List Row
with_front None rows = rows
with_front (Some row) rows = row ∷ rows

pub record GoesOn (step : Result (State × Option Row) LineFault) (rest : State → Result (State × List Row) (ℕ × LineFault)) (r : State × List Row) : Type 0 where
  pub next : State × Option Row
  pub others : State × List Row
  pub step_is : step ≡ Ok next
  pub rest_is : rest next.0 ≡ Ok others
  pub end_is : others.0 ≡ r.0
  pub rows_are : with_front next.1 others.1 ≡ r.1

pub lines_go_on : (st : State) (line : TextLine) (lines : List TextLine) (r : State × List Row) → read_lines st (line ∷ lines) ≡ Ok r →
    GoesOn (read_line st line) (λ next. read_lines next lines) r
unfolding read_lines
lines_go_on st line lines r is = search rules

-- what is spelled by what was read
pub record Spells (st : State) (lines : List TextLine) (r : State × List Row) : Type 0 where
  pub rings : List Ring
  pub are : IsSpelledAs st r.0 rings r.1 lines

spells_on : (st : State) (line : TextLine) (lines : List TextLine) (s : Said) (others : State × List Row) → IsGood st line s →
    Spells ((with_said st (Some s)).0) lines others → Spells st (line ∷ lines) (others.0, with_front ((with_said st (Some s)).1) others.1)
spells_on st line lines (SaysRow row) others good rest = search rules
spells_on st line lines (SaysRing ring) others good rest = record { rings = ring ∷ rest.rings; are = grind (arith, common_steps, and_from, and_from, together_with, or_parts) }

pub spells_from_read : (lines : List TextLine) (st : State) (r : State × List Row) → 2 ≤ st.lines → read_lines st lines ≡ Ok r → Spells st lines r
unfolding read_lines
spells_from_read [] st r behind is = search rules
spells_from_read (line ∷ lines) st r behind is =
    let g = lines_go_on st line lines r is in
    let step = step_from_read st line g.next behind g.step_is in
    let next_is : with_said st (Some step.0) ≡ g.next = step.2 in
    let row_is : (with_said st (Some step.0)).1 ≡ g.next.1 = ap (λ (x : State × Option Row). x.1) next_is in
    let later : 2 ≤ ((with_said st (Some step.0)).0).lines = counted st step.0 behind in
    let ih : Spells ((with_said st (Some step.0)).0) lines g.others =
    spells_from_read lines ((with_said st (Some step.0)).0) g.others later (ap (λ (x : State). read_lines x lines) (ap (λ (x : State × Option Row). x.0) next_is) ∙ g.rest_is) in
    let same : (g.others.0, with_front ((with_said st (Some step.0)).1) g.others.1) ≡ r = λ k. (g.end_is k, (ap (λ (o : Option Row). with_front o g.others.1) row_is ∙ g.rows_are) k) in
    rw same at (spells_on st line lines step.0 g.others step.1 ih)
  where
    counted : (st : State) (s : Said) → 2 ≤ st.lines → 2 ≤ ((with_said st (Some s)).0).lines
    counted st (SaysRow row) behind = omega arith
    counted st (SaysRing ring) behind = omega arith

-- ---- to what is read

pub record IsReadAs (st : State) (lines : List TextLine) (rings : List Ring) (rows : List Row) : Type 0 where
  pub end : State
  pub is : read_lines st lines ≡ Ok (end, rows)
  pub rings_are : end.rings ≡ st.rings ++ rings
  pub size_is : end.size ≡ st.size
  pub version_is : end.version ≡ st.version
  pub count : end.lines ≡ st.lines + (length rings + length rows)

pub read_on : (st next : State) (line : TextLine) (lines : List TextLine) (row : Option Row) (end : State) (rows : List Row) → read_line st line ≡ Ok (next, row) →
    read_lines next lines ≡ Ok (end, rows) → read_lines st (line ∷ lines) ≡ Ok (end, with_front row rows)
unfolding read_lines
read_on st next line lines row end rows step rest = search rules

pub written_line : (fields : List Field) (line : TextLine) (rest : List (List Field)) (lines : List TextLine) → lines_written (fields ∷ rest) (line ∷ lines) ≡ true →
    (line.is_ended ≡ true) × (are_written fields (fields_of line.content) ≡ true) × (lines_written rest lines ≡ true)
written_line fields line rest lines written = search (rules, and_parts)

pub rows_read : (rows : List Row) (lines : List TextLine) (st : State) → 2 ≤ st.lines → AreRowsOf st.version rows → (st.begun ≡ false → begins_with_ring rows ≡ false) →
    have_new_ids st.rings st.later rows ≡ true → lines_written (map row_fields rows) lines ≡ true → st.lines + length rows ≤ most_of st → IsReadAs st lines [] rows
unfolding read_lines
rows_read [] [] st behind fit begins new_ids written within = record { end = st; is = refl; rings_are = sym (append-nil st.rings); size_is = refl; version_is = refl; count = omega arith }
rows_read [] (line ∷ lines) st behind fit begins new_ids written within = cc written
rows_read (row ∷ rows) [] st behind fit begins new_ids written within = cc written
rows_read (row ∷ rows) (line ∷ lines) st behind fit begins new_ids written within =
    let w = written_line (row_fields row) line (map row_fields rows) lines written in
    let is = All-head (IsRowOf st.version) row rows fit in
    let ids = and_parts (not (has_used_id st.rings st.later row)) (have_new_ids st.rings (ids_with st.later row) rows) new_ids in
    let good : IsGood st line (SaysRow row) = record {
      ended = w.0;
      spelled = record { written = w.1; fits = (search (rules, ring_fits)) };
      ordered = (search (rules, and_from));
      within = omega (arith, within);
      few = is.2;
      placed = or_from (has_no_shape row) (has_used_id st.rings st.later row) (search rules) (not-true (has_used_id st.rings st.later row) ids.0);
    } in
    let ih = rows_read rows lines (behind_row st row) (omega arith) (All-tail (IsRowOf st.version) row rows fit) (λ e. cc e) ids.1 w.2 (omega (arith, within)) in
    record {
      end = ih.end;
      is = read_on st (behind_row st row) line lines (Some row) ih.end rows (read_from_good st line (SaysRow row) behind good) ih.is;
      rings_are = ih.rings_are;
      size_is = ih.size_is;
      version_is = ih.version_is;
      count = omega (arith, ih.count);
    }

pub lines_read : (rings : List Ring) (rows : List Row) (lines : List TextLine) (st : State) → 2 ≤ st.lines → st.begun ≡ false → list_all is_line_ring rings ≡ true →
    may_stand_together (st.rings ++ rings) ≡ true → AreRowsOf st.version rows → begins_with_ring rows ≡ false → have_new_ids (st.rings ++ rings) st.later rows ≡ true → lines_written (lines_for rings rows) lines ≡ true → st.lines + (length rings + length rows) ≤ most_of st →
    IsReadAs st lines rings rows
lines_read [] rows lines st behind fresh shapes together fit begins new_ids written within = rows_read rows lines st behind fit (λ e. begins) (rw (append-nil st.rings) at new_ids) written (omega (arith, within))
lines_read (ring ∷ rings) rows [] st behind fresh shapes together fit begins new_ids written within = cc written
lines_read (ring ∷ rings) rows (line ∷ lines) st behind fresh shapes together fit begins new_ids written within =
    let w = written_line (ring_fields ring) line (lines_for rings rows) lines written in
    let p = and_parts (is_line_ring ring) (list_all is_line_ring rings) shapes in
    let own = and_parts (nat_lt ring.id 256 && is_shape ring.shape) (ring.shape.offset == 0) p.0 in
    let q = and_parts (nat_lt ring.id 256) (is_shape ring.shape) own.0 in
    let good : IsGood st line (SaysRing ring) = record {
      ended = w.0;
      spelled = record { written = w.1; fits = ring_fits ring (ltb-true ring.id 256 q.0) q.1 (eqb-true ring.shape.offset 0 own.1) };
      ordered = ap not fresh;
      within = omega (arith, within);
      few = refl;
      placed = or_from (not (is_shape ring.shape)) (list_any (clash ring) st.rings) (ap not q.1) (no_clash st.rings ring rings together);
    } in
    let ih = lines_read rings rows lines (behind_ring st ring) (omega arith) fresh p.1 (rw (append_assoc st.rings (ring ∷ []) rings) together) fit begins (rw (append_assoc st.rings (ring ∷ []) rings) new_ids) w.2 (omega (arith, within)) in
    record {
      end = ih.end;
      is = read_on st (behind_ring st ring) line lines None ih.end rows (read_from_good st line (SaysRing ring) behind good) ih.is;
      rings_are = ih.rings_are ∙ append_assoc st.rings (ring ∷ []) rings;
      size_is = ih.size_is;
      version_is = ih.version_is;
      count = omega (arith, ih.count);
    }
