-- Fields that spaces join, and lines that line feeds end
use Rattle.line_text.proofs.Words.{◌≡◌, ℕ, ◌+◌, ◌<◌, true, false, List, [], ◌∷◌, ◌++◌, length, All, refl, sym, ap, ◌∙◌, arith, length-append, slice_split, join_with_byte, All-append, All-cons, All-head, All-nil, All-tail, join_with_byte-slice_split, length-slice_split, slice_split_at, slice_split_none, fields_of, is_space, is_line_feed, lines_between, lines_of, rules}

-- no field has a space
abbrev pub AreFields : List (List ℕ) → Type 0
AreFields fields = All (λ field. All (λ c. is_space c ≡ false) field) fields

-- fields that spaces join are the fields of the line
pub fields_of-join : (field : List ℕ) (fields : List (List ℕ)) → AreFields (field ∷ fields) → fields_of (join_with_byte 32 (field ∷ fields)) ≡ field ∷ fields
unfolding fields_of
fields_of-join field [] are = slice_split_none is_space field (All-head (λ x. All (λ c. is_space c ≡ false) x) field [] are)
fields_of-join field (next ∷ rest) are = search (rules, slice_split_at, All-head, fields_of-join next rest (All-tail (λ x. All (λ c. is_space c ≡ false) x) field (next ∷ rest) are))

-- the fields of a line, joined, are the line
pub join-fields_of : (content : List ℕ) → join_with_byte 32 (fields_of content) ≡ content
unfolding fields_of
join-fields_of content = join_with_byte-slice_split 32 content

pub fields_of-some : (content : List ℕ) → 0 < length (fields_of content)
unfolding fields_of
fields_of-some content = omega (arith, length-slice_split is_space content)

-- what holds of the characters of each field, and of a space, holds of the line
pub All-join : (P : ℕ → Type 0) → P 32 → (fields : List (List ℕ)) → All (λ field. All P field) fields → All P (join_with_byte 32 fields)
All-join P space [] are = All-nil P
All-join P space (field ∷ []) are = All-head (λ x. All P x) field [] are
All-join P space (field ∷ next ∷ rest) are =
    All-append P field (32 ∷ join_with_byte 32 (next ∷ rest)) (All-head (λ x. All P x) field (next ∷ rest) are)
    (All-cons P 32 (join_with_byte 32 (next ∷ rest)) space (All-join P space (next ∷ rest) (All-tail (λ x. All P x) field (next ∷ rest) are)))

-- how many characters fields have, with one more behind each
abbrev pub spaced_length : List (List ℕ) → ℕ
spaced_length [] = 0
spaced_length (field ∷ fields) = length field + 1 + spaced_length fields

pub length-join : (field : List ℕ) (fields : List (List ℕ)) → length (join_with_byte 32 (field ∷ fields)) + 1 ≡ spaced_length (field ∷ fields)
length-join field [] = omega arith
length-join field (next ∷ rest) = search (rules, length-join next rest, length-append, join_with_byte)

length_of_all : (fields : List (List ℕ)) → 0 < length fields → length (join_with_byte 32 fields) + 1 ≡ spaced_length fields
length_of_all [] some = absurd (omega arith)
length_of_all (field ∷ fields) some = length-join field fields

-- a line is as long as its fields
pub length-fields_of : (content : List ℕ) → length content + 1 ≡ spaced_length (fields_of content)
length-fields_of content =
    ap (λ xs. length xs + 1) (sym (join-fields_of content)) ∙ length_of_all (fields_of content) (fields_of-some content)

pub ended_first : (piece : List ℕ) (pieces : List (List ℕ)) → 0 < length pieces → lines_between (piece ∷ pieces) ≡ record { content = piece; is_ended = true } ∷ lines_between pieces
ended_first piece pieces some = grind arith

-- a line feed behind what has none ends the first line
pub lines_of-ended : (content rest : List ℕ) → All (λ c. is_line_feed c ≡ false) content →
    lines_of (content ++ 10 ∷ rest) ≡ record { content = content; is_ended = true } ∷ lines_of rest
unfolding lines_of
lines_of-ended content rest without = search (rules, lines_between, slice_split_at, is_line_feed, ended_first, slice_split, length-slice_split)

pub lines_of-nothing : lines_of [] ≡ []
unfolding lines_of
lines_of-nothing = refl
