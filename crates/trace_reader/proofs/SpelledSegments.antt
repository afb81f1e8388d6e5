-- Fields that say segments, and how segments are written
use Rattle.trace_reader.proofs.Words.{rules, ◌≡◌, ◌<◌, ◌^◌, ◌∷◌, ◌++◌, ◌∙◌, ℕ, suc, true, List, [], length, slice_index, take, drop, map, Some, All, refl, sym, ap, arith, length-append, append_assoc, codes, eq-eqb, w16, w64, take_at, drop_at, to_ascii_lowercase, str_to_ascii_lowercase, and_parts, and_from, nat_tests, length-map, map-append, take-map, drop-map, get_or_at, get_or-map, All-cons, All-nil, All-head, All-tail, digits_of, number_of, bytes_of_16, bytes_of_64, length-digits_of, said, spelled, Segment, may_be_written, are_written, segment_field, segments_of}
use Rattle.trace_reader.specs.Values.{segment_of}
use Rattle.trace_reader.proofs.SpelledFields.{same_bytes, are_same_bytes, both_there, both_of}

-- ---- a segment

-- its numbers fit the digits for them
abbrev pub FitsSegment : Segment → Type 0
FitsSegment segment = (segment.base < 2 ^ 64) × (segment.count < 2 ^ 16)

lower_parts : (xs ys : List ℕ) → str_to_ascii_lowercase (xs ++ 58 ∷ ys) ≡ str_to_ascii_lowercase xs ++ 58 ∷ str_to_ascii_lowercase ys
lower_parts xs ys = map-append to_ascii_lowercase xs (58 ∷ ys)

digits_are : (base count : ℕ) → digits_of w64 base ++ codes ":" ++ digits_of w16 count ≡ digits_of w64 base ++ 58 ∷ digits_of w16 count
digits_are base count = append_assoc (digits_of w64 base) (codes ":") (digits_of w16 count)

segment_tests : (field : List ℕ) (segment : Segment) → segment_of field ≡ Some segment →
    (length field ≡ 21) × (slice_index field 16 ≡ 58) × (number_of w64 (take 16 field) ≡ Some segment.base) × (number_of w16 (drop 17 field) ≡ Some segment.count)
unfolding segment_of
segment_tests field segment says = search (rules, and_parts, both_there)

pub segment_written : (field : List ℕ) (segment : Segment) → segment_of field ≡ Some segment → (may_be_written (segment_field segment) field ≡ true) × FitsSegment segment
segment_written field segment says =
    let p = segment_tests field segment says in
    let base = said w64 bytes_of_64 (take 16 field) segment.base p.2 in
    let count = said w16 bytes_of_16 (drop 17 field) segment.count p.3 in
    let parts : str_to_ascii_lowercase field ≡ str_to_ascii_lowercase (take 16 field) ++ 58 ∷ str_to_ascii_lowercase (drop 17 field) =
    ap (λ (xs : List ℕ). str_to_ascii_lowercase xs) (search rules) ∙ lower_parts (take 16 field) (drop 17 field) in
    let named : str_to_ascii_lowercase (take 16 field) ++ 58 ∷ str_to_ascii_lowercase (drop 17 field) ≡ digits_of w64 segment.base ++ 58 ∷ digits_of w16 segment.count =
    rw (base.0, count.0) refl in
    (are_same_bytes (str_to_ascii_lowercase field) _ (parts ∙ named ∙ sym (digits_are segment.base segment.count)), (base.1, count.1))

lower_colon : (c : ℕ) → to_ascii_lowercase c ≡ 58 → c ≡ 58
lower_colon c is = grind (arith, nat_tests)

pub segment_read : (field : List ℕ) (segment : Segment) → FitsSegment segment → may_be_written (segment_field segment) field ≡ true → segment_of field ≡ Some segment
unfolding segment_of
segment_read field segment fits written =
    let bases = digits_of w64 segment.base in
    let counts = digits_of w16 segment.count in
    let is : str_to_ascii_lowercase field ≡ bases ++ 58 ∷ counts = same_bytes (str_to_ascii_lowercase field) _ written ∙ digits_are segment.base segment.count in
    let sixteen : length bases ≡ 16 = length-digits_of w64 segment.base in
    let four : length counts ≡ 4 = length-digits_of w16 segment.count in
    let long : length field ≡ 21 = omega (arith, sym (length-map field to_ascii_lowercase), ap length is, length-append bases (58 ∷ counts), sixteen, four) in
    let at : slice_index (str_to_ascii_lowercase field) 16 ≡ to_ascii_lowercase (slice_index field 16) = get_or-map to_ascii_lowercase field 16 0 0 (omega (arith, long)) in
    let colon : slice_index field 16 ≡ 58 = lower_colon (slice_index field 16) (sym at ∙ ap (λ (xs : List ℕ). slice_index xs 16) is ∙ (get_or_at bases 58 counts 0 16 sixteen)) in
    let front : str_to_ascii_lowercase (take 16 field) ≡ bases = sym (take-map to_ascii_lowercase 16 field) ∙ ap (λ (xs : List ℕ). take 16 xs) is ∙ take_at bases (58 ∷ counts) 16 sixteen in
    let count = spelled w16 bytes_of_16 (drop 17 field) segment.count fits.1 (sym (drop-map to_ascii_lowercase 17 field) ∙ ap (λ (xs : List ℕ). drop 17 xs) is ∙ past bases counts sixteen) in
    rw (eq-eqb (length field) 21 long, eq-eqb (slice_index field 16) 58 colon, spelled w64 bytes_of_64 (take 16 field) segment.base fits.0 front, count) refl
  where
    past : (xs ys : List ℕ) → length xs ≡ 16 → drop 17 (xs ++ 58 ∷ ys) ≡ ys
    past xs ys l = ap (λ (zs : List ℕ). drop 17 zs) (sym (append_assoc xs (58 ∷ []) ys)) ∙ drop_at (xs ++ 58 ∷ []) ys 17 (omega (arith, length-append xs (58 ∷ [])))

-- ---- segments

segments_next : (field : List ℕ) (fields : List (List ℕ)) (segments : List Segment) → segments_of (field ∷ fields) ≡ Some segments →
    (segment : Segment) × (rest : List Segment) × (segment_of field ≡ Some segment) × (segments_of fields ≡ Some rest) × (segment ∷ rest ≡ segments)
unfolding segments_of
segments_next field fields segments says = both_there (λ x rest. x ∷ rest) (segment_of field) (segments_of fields) segments says

pub segments_written : (fields : List (List ℕ)) (segments : List Segment) → segments_of fields ≡ Some segments →
    (are_written (map segment_field segments) fields ≡ true) × All FitsSegment segments × (length fields ≡ length segments)
unfolding segments_of
segments_written [] segments says = search (rules, All-nil)
segments_written (field ∷ fields) segments says =
    let p = segments_next field fields segments says in
    let ih = segments_written fields p.1 p.3 in
    let here = segment_written field p.0 p.2 in
    rw (← p.4)
    (and_from (may_be_written (segment_field p.0) field) (are_written (map segment_field p.1) fields) here.0 ih.0, All-cons FitsSegment p.0 p.1 here.1 ih.1, ap suc ih.2)

pub segments_read : (segments : List Segment) (fields : List (List ℕ)) → All FitsSegment segments → are_written (map segment_field segments) fields ≡ true →
    segments_of fields ≡ Some segments
unfolding segments_of
segments_read [] [] fit written = refl
segments_read [] (field ∷ fields) fit written = cc written
segments_read (segment ∷ segments) [] fit written = cc written
segments_read (segment ∷ segments) (field ∷ fields) fit written =
    let parts = and_parts (may_be_written (segment_field segment) field) (are_written (map segment_field segments) fields) written in
    grind (arith, All-tail, both_of, segment_read, All-head, segments_read segments fields (All-tail FitsSegment segment segments fit) parts.1)
