-- A text that spells a trace is, in lower case, what is printed of the trace
use Rattle.trace_reader.proofs.Words.{rules, ◌≡◌, ◌∷◌, ◌++◌, ◌∙◌, ℕ, List, [], true, false, IsTrue, refl, sym, ap, cond, map, arith, w32, to_ascii_lowercase, flat_map, join_with_byte, slice_split, str_to_ascii_lowercase, and_parts, common_steps, map-append, join_with_byte-slice_split, TextLine, is_line_feed, lines_between, lines_of, digits_of, join-fields_of, Segment, Block, Ring, Row, row_fields, TraceText, Field, Word, Digits, are_written, block_fields, is_written, lines_written, may_be_written, printed, printed_line, printed_trace, ring_fields, segment_field, spells, trace_lines}
use Rattle.trace_reader.proofs.SpelledFields.{same_bytes}

-- ---- a text by its lines

-- a line with its line feed
abbrev whole_line : TextLine → List ℕ
whole_line line = line.content ++ cond line.is_ended (10 ∷ []) []

pieces_whole : (pieces : List (List ℕ)) → flat_map whole_line (lines_between pieces) ≡ join_with_byte 10 pieces
pieces_whole [] = refl
pieces_whole (piece ∷ []) = search rules
pieces_whole (piece ∷ next ∷ rest) = let later = pieces_whole (next ∷ rest) in grind (arith, common_steps, later)

lines_whole : (text : List ℕ) → flat_map whole_line (lines_of text) ≡ text
unfolding lines_of
lines_whole text = pieces_whole (slice_split is_line_feed text) ∙ join_with_byte-slice_split 10 text

-- ---- lower case

lower_append : (xs ys : List ℕ) → str_to_ascii_lowercase (xs ++ ys) ≡ str_to_ascii_lowercase xs ++ str_to_ascii_lowercase ys
lower_append xs ys = map-append to_ascii_lowercase xs ys

-- a word is lower case
abbrev IsLow : Field → Type 0
IsLow (Word text) = str_to_ascii_lowercase text ≡ text
IsLow (Digits text) = Unit {0}

abbrev AreLow : List Field → Type 0
AreLow [] = Unit {0}
AreLow (field ∷ fields) = IsLow field × AreLow fields

abbrev AreLowLines : List (List Field) → Type 0
AreLowLines [] = Unit {0}
AreLowLines (fields ∷ rest) = AreLow fields × AreLowLines rest

lowered_field : (field : Field) (text : List ℕ) → IsLow field → may_be_written field text ≡ true → str_to_ascii_lowercase text ≡ printed field
lowered_field field text low written = search (rules, same_bytes)

lowered_fields : (fields : List Field) (texts : List (List ℕ)) → AreLow fields → are_written fields texts ≡ true → str_to_ascii_lowercase (join_with_byte 32 texts) ≡ join_with_byte 32 (map printed fields)
lowered_fields [] [] low written = refl
lowered_fields [] (text ∷ texts) low written = cc written
lowered_fields (field ∷ fields) [] low written = cc written
lowered_fields (field ∷ []) (text ∷ []) low written = lowered_field field text low.0 (and_parts (may_be_written field text) true written).0
lowered_fields (field ∷ []) (text ∷ next ∷ texts) low written = let parts = and_parts (may_be_written field text) false written in cc parts.1
lowered_fields (field ∷ next ∷ fields) (text ∷ []) low written = let parts = and_parts (may_be_written field text) false written in cc parts.1
lowered_fields (field ∷ next ∷ fields) (text ∷ other ∷ texts) low written =
    let parts = and_parts (may_be_written field text) (are_written (next ∷ fields) (other ∷ texts)) written in
    let first : str_to_ascii_lowercase text ≡ printed field = lowered_field field text low.0 parts.0 in
    lower_append text (32 ∷ join_with_byte 32 (other ∷ texts)) ∙ ap (λ (xs : List ℕ). xs ++ 32 ∷ str_to_ascii_lowercase (join_with_byte 32 (other ∷ texts))) first
    ∙ ap (λ (xs : List ℕ). printed field ++ 32 ∷ xs) (lowered_fields (next ∷ fields) (other ∷ texts) low.1 parts.1)

lowered_lines : (rest : List (List Field)) (lines : List TextLine) → AreLowLines rest → lines_written rest lines ≡ true →
    str_to_ascii_lowercase (flat_map whole_line lines) ≡ flat_map printed_line rest
unfolding printed_line
lowered_lines [] [] low written = refl
lowered_lines [] (line ∷ lines) low written = cc written
lowered_lines (fields ∷ rest) [] low written = cc written
lowered_lines (fields ∷ rest) (line ∷ lines) low written =
    let parts = and_parts (is_written fields line) (lines_written rest lines) written in
    let later = lowered_lines rest lines low.1 parts.1 in
    lower_append (whole_line line) (flat_map whole_line lines)
    ∙ ap (λ (xs : List ℕ). xs ++ str_to_ascii_lowercase (flat_map whole_line lines)) (search (rules, and_parts, lower_append, join-fields_of, lowered_fields)) ∙ ap (λ (xs : List ℕ). printed_line fields ++ xs) later

-- ---- the words of a trace

low_append : (xs ys : List Field) → AreLow xs → AreLow ys → AreLow (xs ++ ys)
low_append [] ys xs-low ys-low = ys-low
low_append (x ∷ xs) ys xs-low ys-low = (xs-low.0, low_append xs ys xs-low.1 ys-low)

low_words : (words : List ℕ) → AreLow (map (λ w. Digits (digits_of w32 w)) words)
low_words [] = tt
low_words (w ∷ words) = (tt, low_words words)

low_blocks : (blocks : List Block) → AreLow (flat_map block_fields blocks)
low_blocks [] = tt
low_blocks (block ∷ blocks) = low_append (block_fields block) (flat_map block_fields blocks) (low_words block.w) (low_blocks blocks)

low_segments : (segments : List Segment) → AreLow (map segment_field segments)
low_segments [] = tt
low_segments (segment ∷ segments) = (tt, low_segments segments)

low_ring : (ring : Ring) → AreLow (ring_fields ring)
unfolding ring_fields
low_ring ring = (refl, (tt, ((search rules), low_segments ring.shape.segments)))

low_rows : (rows : List Row) → AreLowLines (map row_fields rows)
unfolding row_fields
low_rows [] = tt
low_rows (row ∷ rows) = ((search (rules, low_blocks, low_words, low_ring)), low_rows rows)

low_lines : (rings : List Ring) (rows : List Row) → AreLowLines (map ring_fields rings ++ map row_fields rows)
low_lines [] rows = low_rows rows
low_lines (ring ∷ rings) rows = (low_ring ring, low_lines rings rows)

pub lowered : (text : List ℕ) (trace : TraceText) → IsTrue (spells trace text) → str_to_ascii_lowercase text ≡ printed_trace trace
unfolding spells printed_trace trace_lines
lowered text trace spelled =
    let low : AreLowLines (trace_lines trace) = ((search rules), ((search rules), low_lines trace.header.rings trace.rows)) in
    ap str_to_ascii_lowercase (sym (lines_whole text)) ∙ lowered_lines (trace_lines trace) (lines_of text) low spelled
