-- How a trace is spelled: each line by its fields
use Rattle.std.specs.Prelude.{ℕ, ◌&&◌, Bool, true, false, List, [], ◌∷◌, ◌++◌, map, codes}
use Rattle.std.specs.List.{flat_map, join_with_byte}
use Rattle.std.specs.Int.{w8, w16, w32, w64}
use Rattle.std.specs.Str.{bytes_eq, str_to_ascii_lowercase}
use Rattle.contexts.specs.declared.size.ContextSize.{ContextSize}
use Rattle.contexts.specs.declared.size.ContextSize.TheVariants.{Bytes32, Bytes64}
use Rattle.line_text.specs.Fields.{fields_of}
use Rattle.line_text.specs.Lines.{TextLine, lines_of}
use Rattle.line_text.specs.Numbers.{digits_of}
use Rattle.segments.specs.declared.segment.Segment.{Segment}
use Rattle.trb.specs.declared.block.Block.{Block}
use Rattle.trb.specs.RingKind.{ring_name}
use Rattle.traces.specs.declared.ring.Ring.{Ring}
use Rattle.traces.specs.declared.row.Row.{Row}
use Rattle.traces.specs.declared.row.Row.TheVariants.{Sub, Write, Reg, Bell, Read, Ring as RingRow, Free as FreeRow, Nop as NopRow, RegRead}
use Rattle.traces.specs.Register.{register_name}
use Rattle.traces.specs.declared.version.Version.{Version}
use Rattle.traces.specs.declared.version.Version.TheVariants.{One, Two, Three, Four}
use Rattle.trace_reader.specs.TraceOfText.{TraceText}

-- a word stands as it is; the letters of a number's digits may be of either case, and are lower case where it is printed
pub data Field : Type 0 where
  Word : (text : List ℕ) → Field
  Digits : (text : List ℕ) → Field

abbrev pub printed : Field → List ℕ
printed (Word text) = text
printed (Digits text) = text

-- the field may be written so
abbrev pub may_be_written : Field → List ℕ → Bool
may_be_written (Word text) written = bytes_eq written text
may_be_written (Digits text) written = bytes_eq (str_to_ascii_lowercase written) text

abbrev pub block_fields : Block → List Field
block_fields block = map (λ w. Digits (digits_of w32 w)) block.w

abbrev pub segment_field : Segment → Field
segment_field segment = Digits (digits_of w64 segment.base ++ codes ":" ++ digits_of w16 segment.count)

unfoldable pub ring_fields : Ring → List Field
ring_fields ring =
    Word (codes "ring") ∷ Digits (digits_of w8 ring.id) ∷ Word (ring_name ring.shape.kind) ∷ map segment_field ring.shape.segments

-- a ring that comes is spelled as one of the header
unfoldable pub row_fields : Row → List Field
row_fields (Sub ring blocks) = Word (codes "sub") ∷ Digits (digits_of w8 ring) ∷ flat_map block_fields blocks
row_fields (Write at word) = Word (codes "w") ∷ Digits (digits_of w64 at) ∷ Digits (digits_of w32 word) ∷ []
row_fields (Reg register value) = Word (codes "reg") ∷ Word (register_name register) ∷ Digits (digits_of w64 value) ∷ []
row_fields (Bell slot target) = Word (codes "db") ∷ Digits (digits_of w8 slot) ∷ Digits (digits_of w8 target) ∷ []
row_fields (Read event) = Word (codes "ev") ∷ block_fields event
row_fields (RingRow ring) = ring_fields ring
row_fields (FreeRow ring) = Word (codes "free") ∷ Digits (digits_of w8 ring) ∷ []
row_fields (NopRow ring position) = Word (codes "nop") ∷ Digits (digits_of w8 ring) ∷ Digits (digits_of w64 position) ∷ []
row_fields (RegRead register value) = Word (codes "rd") ∷ Word (register_name register) ∷ Digits (digits_of w64 value) ∷ []

abbrev pub size_word : ContextSize → List ℕ
size_word Bytes32 = codes "20"
size_word Bytes64 = codes "40"

abbrev pub version_word : Version → List ℕ
version_word One = codes "1"
version_word Two = codes "2"
version_word Three = codes "3"
version_word Four = codes "4"

abbrev pub version_fields : Version → List Field
version_fields version = Word (codes "xtrace") ∷ Word (version_word version) ∷ []

abbrev pub size_fields : ContextSize → List Field
size_fields size = Word (codes "ctx") ∷ Word (size_word size) ∷ []

-- the lines of a trace by their fields
unfoldable pub trace_lines : TraceText → List (List Field)
trace_lines trace =
    version_fields trace.header.version ∷ size_fields trace.header.context_size ∷ (map ring_fields trace.header.rings ++ map row_fields trace.rows)

-- a line as it is printed: one space between the fields, and a line feed at the end
unfoldable pub printed_line : List Field → List ℕ
printed_line fields = join_with_byte 32 (map printed fields) ++ 10 ∷ []

-- the text of a trace as it is printed
unfoldable pub printed_trace : TraceText → List ℕ
printed_trace trace = flat_map printed_line (trace_lines trace)

-- each of the fields may be written so, one by one
abbrev pub are_written : List Field → List (List ℕ) → Bool
are_written [] [] = true
are_written (field ∷ fields) (text ∷ texts) = may_be_written field text && are_written fields texts
are_written fields texts = false

abbrev pub is_written : List Field → TextLine → Bool
is_written fields line = line.is_ended && are_written fields (fields_of line.content)

-- each of the lines is written so, one by one
abbrev pub lines_written : List (List Field) → List TextLine → Bool
lines_written [] [] = true
lines_written (fields ∷ rest) (line ∷ lines) = is_written fields line && lines_written rest lines
lines_written rest lines = false

-- the text spells the trace
unfoldable pub spells : TraceText → List ℕ → Bool
spells trace text = lines_written (trace_lines trace) (lines_of text)
