-- The fields of rows and rings: none is empty or has a space, and all fit a line
use Rattle.trace_reader.proofs.LowerLaws.{rules, common_steps, ◌≡◌, ◌*◌, ◌<◌, ◌≤◌, ◌∷◌, ◌∙◌, ℕ, true, false, List, [], length, map, All, refl, ap, arith, codes, nat_lt, w8, w32, w64, ltb-true, flat_map, list_all, map-append, AllPass-from_list_all, All-weaker, All-append, All-head, All-tail, digits_of, digits_stay_lower, length-digits_of, spaced_length, IsBlock, ring_name, Block, RingKind, Segment, register_name, Word, Digits, printed, block_fields, segment_field, row_fields, ring_fields, Register, Ring, Sub, Write, Reg, Bell, Read, Row, FreeRow, NopRow, IsSound, AllSound, sound_word, sound_digits, sound_append, sound_map, plain_digits, are_same_bytes, spaced_length-append, word_field, RegRead}
use Rattle.traces.specs.Limits.{most_bytes_of, most_declared_of}
use Rattle.traces.specs.declared.version.Version.{Version}
use Rattle.trace_reader.proofs.Limits.{blocks_fit, bytes_within}

-- ---- soundness

plain_word : (word : List ℕ) → list_all (λ c. nat_lt 32 c) word ≡ true → All (λ c. 32 < c) word
plain_word word plain = All-weaker (λ c. nat_lt 32 c ≡ true) (λ c. 32 < c) (λ c above. ltb-true 32 c above) word (AllPass-from_list_all (λ c. nat_lt 32 c) word plain)

pub sound_named : (word : List ℕ) → 0 < length word → list_all (λ c. nat_lt 32 c) word ≡ true → IsSound (Word word)
sound_named word some plain = sound_word word some (plain_word word plain)

pub digits_8 : (n : ℕ) → IsSound (Digits (digits_of w8 n))
digits_8 n = sound_digits w8 n (omega arith)

pub digits_32 : (n : ℕ) → IsSound (Digits (digits_of w32 n))
digits_32 n = sound_digits w32 n (omega arith)

pub digits_64 : (n : ℕ) → IsSound (Digits (digits_of w64 n))
digits_64 n = sound_digits w64 n (omega arith)

segment_length : (segment : Segment) → length (printed (segment_field segment)) ≡ 21
segment_length segment = grind (arith, common_steps, length-digits_of)

segment_sound : (segment : Segment) → IsSound (segment_field segment)
segment_sound segment = grind (arith, common_steps, digits_stay_lower, segment_length, All-append, plain_digits, plain_word, are_same_bytes)

pub block_sound : (block : Block) → AllSound (block_fields block)
block_sound block = sound_map word_field digits_32 block.w

pub blocks_sound : (blocks : List Block) → AllSound (flat_map block_fields blocks)
blocks_sound [] = tt
blocks_sound (block ∷ blocks) = sound_append (block_fields block) (flat_map block_fields blocks) (block_sound block) (blocks_sound blocks)

pub ring_sound : (ring : Ring) → AllSound (ring_fields ring)
unfolding ring_fields
ring_sound ring = (
  sound_named (codes "ring") (omega arith) refl,
  (digits_8 ring.id, ((search (rules, sound_named)), sound_map segment_field segment_sound ring.shape.segments)),
)

pub row_sound : (row : Row) → AllSound (row_fields row)
unfolding row_fields
row_sound row = search (rules, sound_named, digits_8, blocks_sound, digits_64, digits_32, block_sound, ring_sound)

-- ---- lengths

words_length : (words : List ℕ) → spaced_length (map printed (map word_field words)) ≡ 9 * length words
words_length [] = refl
words_length (x ∷ words) = grind (arith, w32, length-digits_of, words_length words)

pub block_length : (block : Block) → IsBlock block → spaced_length (map printed (block_fields block)) ≡ 36
block_length block is = let l = words_length block.w in omega (arith, l, is.0)

pub blocks_length : (blocks : List Block) → All IsBlock blocks → spaced_length (map printed (flat_map block_fields blocks)) ≡ 36 * length blocks
blocks_length [] are = refl
blocks_length (block ∷ blocks) are =
    let parts = map-append printed (block_fields block) (flat_map block_fields blocks) in
    let all = ap (λ (xs : List (List ℕ)). spaced_length xs) parts ∙ spaced_length-append (map printed (block_fields block)) (map printed (flat_map block_fields blocks)) in
    omega (arith, block_length block (All-head IsBlock block blocks are), blocks_length blocks (All-tail IsBlock block blocks are), all)

segments_length : (segments : List Segment) → spaced_length (map printed (map segment_field segments)) ≡ 22 * length segments
segments_length [] = refl
segments_length (segment ∷ segments) = let ih = segments_length segments in omega (arith, ih, segment_length segment)

register_length : (register : Register) → length (register_name register) ≤ 6
register_length register = search rules

kind_length : (kind : RingKind) → length (ring_name kind) ≤ 4
kind_length kind = search rules

pub two_digits : (n : ℕ) → length (digits_of w8 n) ≡ 2
two_digits n = length-digits_of w8 n

pub eight_digits : (n : ℕ) → length (digits_of w32 n) ≡ 8
eight_digits n = length-digits_of w32 n

pub sixteen_digits : (n : ℕ) → length (digits_of w64 n) ≡ 16
sixteen_digits n = length-digits_of w64 n

pub sub_length : (version : Version) (ring : ℕ) (blocks : List Block) → All IsBlock blocks → nat_lt (most_declared_of version) (length blocks) ≡ false → spaced_length (map printed (row_fields (Sub ring blocks))) ≤ most_bytes_of version
unfolding row_fields
sub_length version ring blocks are few = omega (arith, two_digits ring, blocks_length blocks are, blocks_fit version (length blocks) few)

pub write_length : (version : Version) (at word : ℕ) → spaced_length (map printed (row_fields (Write at word))) ≤ most_bytes_of version
unfolding row_fields
write_length version at word = omega (arith, bytes_within version, sixteen_digits at, eight_digits word)

pub reg_length : (version : Version) (register : Register) (value : ℕ) → spaced_length (map printed (row_fields (Reg register value))) ≤ most_bytes_of version
unfolding row_fields
reg_length version register value = omega (arith, bytes_within version, register_length register, sixteen_digits value)

pub reg_read_length : (version : Version) (register : Register) (value : ℕ) → spaced_length (map printed (row_fields (RegRead register value))) ≤ most_bytes_of version
unfolding row_fields
reg_read_length version register value = omega (arith, bytes_within version, register_length register, sixteen_digits value)

pub bell_length : (version : Version) (slot target : ℕ) → spaced_length (map printed (row_fields (Bell slot target))) ≤ most_bytes_of version
unfolding row_fields
bell_length version slot target = omega (arith, bytes_within version, two_digits slot, two_digits target)

pub read_length : (version : Version) (event : Block) → IsBlock event → spaced_length (map printed (row_fields (Read event))) ≤ most_bytes_of version
unfolding row_fields
read_length version event is = omega (arith, bytes_within version, block_length event is)

pub ring_length : (version : Version) (ring : Ring) → length ring.shape.segments ≤ 64 → spaced_length (map printed (ring_fields ring)) ≤ most_bytes_of version
unfolding ring_fields
ring_length version ring few = omega (arith, bytes_within version, two_digits ring.id, kind_length ring.shape.kind, segments_length ring.shape.segments)

pub goes_length : (version : Version) (ring : ℕ) → spaced_length (map printed (row_fields (FreeRow ring))) ≤ most_bytes_of version
unfolding row_fields
goes_length version ring = omega (arith, bytes_within version, two_digits ring)

pub withdraws_length : (version : Version) (ring position : ℕ) → spaced_length (map printed (row_fields (NopRow ring position))) ≤ most_bytes_of version
unfolding row_fields
withdraws_length version ring position = omega (arith, bytes_within version, two_digits ring, sixteen_digits position)
