-- Texts that are read and printed, on literals
use Rattle.trace_reader.proofs.Words.{◌≡◌, ℕ, false, ⊤, List, [], ◌∷◌, ◌++◌, Result, Ok, Err, codes, refl, Bytes32, Evt, Xfer, lines_of, fields_of, number_of, digits_of, LineFault, Number, Shape, Usbcmd, Usbsts, Crcr, Ring, One, Two, Version, Row, RingRow, FreeRow, NopRow, Sub, Write, Reg, Bell, Read, most_lines_of, kind_named, register_named, form_of, said_of, block_of, blocks_of, register_value_of, segments_of, word_address_of, TraceText, after, form_in, is_bad_number, is_bad_row, is_bad_shape, is_past_limit, is_too_long, line_fault, read_line, read_lines, row_fault, said_in, size_of, trace_of, version_of, printed_line, printed_trace, ring_fields, row_fields, trace_lines, hex_on_literals, BadHeader, BadRow, version_word, RegRead, Three, Four}
use Rattle.trace_reader.specs.Values.{segment_of}
use Rattle.traces.specs.Limits.{most_bytes_of, most_declared_of}

unfoldable texts_on_literals : ⊤
unfolding most_lines_of most_bytes_of most_declared_of trace_of read_lines read_line line_fault row_fault after lines_of fields_of number_of hex_on_literals form_of kind_named register_named block_of blocks_of register_value_of said_of segment_of segments_of word_address_of form_in is_bad_number is_bad_row is_bad_shape is_past_limit is_too_long version_of said_in size_of printed_trace trace_lines printed_line row_fields ring_fields digits_of
texts_on_literals = tt

-- what is read in this version behind the header of one transfer ring
abbrev behind_header : Version → List ℕ → Result TraceText (ℕ × LineFault)
behind_header version text = trace_of false (codes "xtrace " ++ version_word version ++ codes "\nctx 20\nring 02 xfer 0000000000030000:0004\n" ++ text)

abbrev ring_2 : Ring
ring_2 = record { id = 2; shape = record { kind = Xfer; segments = record { base = 0x30000; count = 4 } ∷ []; offset = 0 } }

-- a trace of that header, in this version, with these rows
abbrev with_rows : Version → List Row → TraceText
with_rows version rows = record { header = record { version = version; context_size = Bytes32; rings = ring_2 ∷ [] }; first = 4; rows = rows }

abbrev ring_3 : Ring
ring_3 = record { id = 3; shape = record { kind = Xfer; segments = record { base = 0x30000; count = 4 } ∷ []; offset = 0 } }

pub no_rows : behind_header One [] ≡ Ok (with_rows One [])
unfolding texts_on_literals
no_rows = refl

pub a_declaration : behind_header One (codes "sub 02 00000000 00000000 00000000 00002020\n") ≡ Ok (with_rows One (Sub 2 (record { w = 0 ∷ 0 ∷ 0 ∷ 0x2020 ∷ [] } ∷ []) ∷ []))
unfolding texts_on_literals
a_declaration = refl

pub a_write_in_upper_case : behind_header One (codes "w 000000000003000C 0000AbCd\n") ≡ Ok (with_rows One (Write 0x3000c 0xabcd ∷ []))
unfolding texts_on_literals
a_write_in_upper_case = refl

pub registers : behind_header One (codes "reg usbcmd 0000000000000001\nreg crcr 0000000100010001\n") ≡ Ok (with_rows One (Reg Usbcmd 1 ∷ Reg Crcr 0x100010001 ∷ []))
unfolding texts_on_literals
registers = refl

pub a_doorbell : behind_header One (codes "db 01 1f\n") ≡ Ok (with_rows One (Bell 1 31 ∷ []))
unfolding texts_on_literals
a_doorbell = refl

pub an_event : behind_header One (codes "ev 00030000 00000000 01000000 01018001\n") ≡ Ok (with_rows One (Read (record { w = 0x30000 ∷ 0 ∷ 0x1000000 ∷ 0x1018001 ∷ [] }) ∷ []))
unfolding texts_on_literals
an_event = refl

pub no_text : trace_of false [] ≡ Err (1, BadHeader)
unfolding texts_on_literals
no_text = refl

pub one_line : trace_of false (codes "xtrace 1\n") ≡ Err (2, BadHeader)
unfolding texts_on_literals
one_line = refl

pub no_line_feed : behind_header One (codes "db 01 01") ≡ Err (4, BadRow)
unfolding texts_on_literals
no_line_feed = refl

pub two_spaces : behind_header One (codes "db 01  01\n") ≡ Err (4, BadRow)
unfolding texts_on_literals
two_spaces = refl

pub upper_case_word : behind_header One (codes "DB 01 01\n") ≡ Err (4, BadRow)
unfolding texts_on_literals
upper_case_word = refl

pub unknown_register : behind_header One (codes "reg ersts 0000000000000001\n") ≡ Err (4, BadRow)
unfolding texts_on_literals
unknown_register = refl

pub short_number : behind_header One (codes "db 1 01\n") ≡ Err (4, Number)
unfolding texts_on_literals
short_number = refl

pub unaligned_address : behind_header One (codes "w 000000000003000e 00000000\n") ≡ Err (4, Number)
unfolding texts_on_literals
unaligned_address = refl

pub wide_value : behind_header One (codes "reg usbcmd 0000000100000000\n") ≡ Err (4, Number)
unfolding texts_on_literals
wide_value = refl

pub ring_behind_a_row : behind_header One (codes "db 01 01\nring 03 xfer 0000000000040000:000\n") ≡ Err (5, BadRow)
unfolding texts_on_literals
ring_behind_a_row = refl

pub number_before_shape : behind_header One (codes "ring 02 xfer 0000000000040000:000\n") ≡ Err (4, Number)
unfolding texts_on_literals
number_before_shape = refl

pub id_in_use : behind_header One (codes "ring 02 xfer 0000000000040000:0004\n") ≡ Err (4, Shape)
unfolding texts_on_literals
id_in_use = refl

pub rings_overlap : behind_header One (codes "ring 03 cmd 0000000000030000:0004\n") ≡ Err (4, Shape)
unfolding texts_on_literals
rings_overlap = refl

pub the_first_bad_line : behind_header One (codes "db 1 01\ndb\n") ≡ Err (4, Number)
unfolding texts_on_literals
the_first_bad_line = refl

pub printed : printed_trace (with_rows One (Write 0x3000c 0xabcd ∷ Bell 1 31 ∷ [])) ≡ codes "xtrace 1\nctx 20\nring 02 xfer 0000000000030000:0004\nw 000000000003000c 0000abcd\ndb 01 1f\n"
unfolding texts_on_literals
printed = refl

-- ---- rings that come and go

pub a_ring_goes_and_one_comes : behind_header Two (codes "free 02\nring 03 xfer 0000000000030000:0004\n") ≡ Ok (with_rows Two (FreeRow 2 ∷ RingRow ring_3 ∷ []))
unfolding texts_on_literals
a_ring_goes_and_one_comes = refl

pub a_withdrawal : behind_header Two (codes "nop 02 0000000000000001\n") ≡ Ok (with_rows Two (NopRow 2 1 ∷ []))
unfolding texts_on_literals
a_withdrawal = refl

pub a_used_id : behind_header Two (codes "free 02\nring 02 xfer 0000000000030000:0004\n") ≡ Err (5, Shape)
unfolding texts_on_literals
a_used_id = refl

pub an_id_used_twice : behind_header Two (codes "free 02\nring 03 xfer 0000000000030000:0004\nring 03 xfer 0000000000040000:0004\n") ≡ Err (6, Shape)
unfolding texts_on_literals
an_id_used_twice = refl

pub a_later_ring_of_one_place : behind_header Two (codes "free 02\nring 03 xfer 0000000000030000:0002\n") ≡ Err (5, Shape)
unfolding texts_on_literals
a_later_ring_of_one_place = refl

pub a_later_command_ring : behind_header Two (codes "free 02\nring 03 cmd 0000000000030000:000\n") ≡ Err (5, BadRow)
unfolding texts_on_literals
a_later_command_ring = refl

pub a_short_position : behind_header Two (codes "nop 02 1\n") ≡ Err (4, Number)
unfolding texts_on_literals
a_short_position = refl

pub no_row_of_a_ring : behind_header One (codes "free 02\n") ≡ Err (4, BadRow)
unfolding texts_on_literals
no_row_of_a_ring = refl

pub no_withdrawal : behind_header One (codes "nop 02 1\n") ≡ Err (4, BadRow)
unfolding texts_on_literals
no_withdrawal = refl

pub printed_rows_of_rings : printed_trace (with_rows Two (FreeRow 2 ∷ RingRow ring_3 ∷ NopRow 3 0x1f ∷ [])) ≡ codes "xtrace 2\nctx 20\nring 02 xfer 0000000000030000:0004\nfree 02\nring 03 xfer 0000000000030000:0004\nnop 03 000000000000001f\n"
unfolding texts_on_literals
printed_rows_of_rings = refl

-- ---- a controller that runs again

pub a_register_is_read : behind_header Four (codes "rd usbsts 0000000000000001\n") ≡ Ok (with_rows Four (RegRead Usbsts 1 ∷ []))
unfolding texts_on_literals
a_register_is_read = refl

pub a_wide_value_is_read : behind_header Four (codes "rd usbsts 0000000100000000\n") ≡ Err (4, Number)
unfolding texts_on_literals
a_wide_value_is_read = refl

pub no_register_is_read : behind_header Three (codes "rd usbsts 1\n") ≡ Err (4, BadRow)
unfolding texts_on_literals
no_register_is_read = refl

abbrev ring_of_events : Ring
ring_of_events = record { id = 3; shape = record { kind = Evt; segments = record { base = 0x40000; count = 16 } ∷ []; offset = 0 } }

pub an_event_ring_comes : behind_header Four (codes "db 00 00\nring 03 evt 0000000000040000:0010\n") ≡ Ok (with_rows Four (Bell 0 0 ∷ RingRow ring_of_events ∷ []))
unfolding texts_on_literals
an_event_ring_comes = refl

pub a_later_event_ring : behind_header Three (codes "db 00 00\nring 03 evt 0000000000040000:001\n") ≡ Err (5, BadRow)
unfolding texts_on_literals
a_later_event_ring = refl

pub printed_rows_of_runs : printed_trace (with_rows Four (RegRead Usbsts 1 ∷ RingRow ring_of_events ∷ [])) ≡ codes "xtrace 4\nctx 20\nring 02 xfer 0000000000030000:0004\nrd usbsts 0000000000000001\nring 03 evt 0000000000040000:0010\n"
unfolding texts_on_literals
printed_rows_of_runs = refl
