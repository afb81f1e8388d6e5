-- A line by its fields in a row
use Rattle.trace_reader.proofs.Words.{◌≡◌, ◌∷◌, ◌++◌, List, [], refl, ap, map, arith, flat_map, join_with_byte, common_steps, in_a_row, Field, printed, printed_line, printed_trace, ring_fields, row_fields, size_fields, trace_lines, version_fields, TraceText}

joined : (fields : List Field) → join_with_byte 32 (map printed fields) ≡ in_a_row fields
joined [] = refl
joined (field ∷ []) = grind (arith, common_steps)
joined (field ∷ next ∷ fields) = let rest = joined (next ∷ fields) in ap (λ xs. printed field ++ 32 ∷ xs) rest

pub line_of : (fields : List Field) → printed_line fields ≡ in_a_row fields ++ 10 ∷ []
unfolding printed_line
line_of fields = ap (λ xs. xs ++ 10 ∷ []) (joined fields)

several : (a b : List (List Field)) → flat_map printed_line (a ++ b) ≡ flat_map printed_line a ++ flat_map printed_line b
several a b = grind (arith, common_steps)

pub whole_text : (trace : TraceText) →
    printed_trace trace ≡ (printed_line (version_fields trace.header.version) ++ printed_line (size_fields trace.header.context_size) ++ flat_map printed_line (map ring_fields trace.header.rings))
    ++ flat_map printed_line (map row_fields trace.rows)
unfolding printed_trace trace_lines
whole_text trace = let rest = several (map ring_fields trace.header.rings) (map row_fields trace.rows) in grind (arith, common_steps, rest)
