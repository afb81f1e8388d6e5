-- Lines whose fields stand at fixed places
use Rattle.trace_reader.proofs.LowerLaws.{rules, ◌≡◌, ◌+◌, ◌≤◌, ◌<◌, ◌∷◌, ◌++◌, ◌∙◌, ℕ, suc, Bool, true, false, List, [], length, slice_index, take, drop, nat_lt, Some, Ok, All, refl, ap, sym, subst, arith, codes, w8, w32, w64, digits_without_space, take-append-drop, slice_split_at, slice_split_none, SaysAlone, HasBytes, Width, byte_len, bytes_of_8, bytes_of_32, bytes_of_64, length-digits_of, number_of, said, fields_of, has_empty_field, is_empty, is_space, All-cons, All-nil, All-head, All-tail, nat_tests, common_steps, slice_split, str_to_ascii_lowercase, to_ascii_lowercase, content_fault, said_by_fields, most_bytes, form_of, said_of, block_of, word_address_of, Block, blocks_of, register_value_of, Row, Sub, Write, Bell, Read, Reg, Register, register_name, append_assoc, bytes_eq, SaysRow, Version, drop-cons, drop-drop, get_or-drop, length-drop, then_there, words_there}
use Rattle.trace_reader.proofs.SpelledWords.{value_there, word_register}
use Rattle.trace_reader.proofs.Limits.{short_in_each}

-- ---- a number is a field

pub record IsField (field : List ℕ) : Type 0 where
  pub spaceless : All (λ c. is_space c ≡ false) field
  pub some : is_empty field ≡ false

spaceless_if_lower : (field : List ℕ) → All (λ c. is_space c ≡ false) (str_to_ascii_lowercase field) → All (λ c. is_space c ≡ false) field
spaceless_if_lower [] are = All-nil (λ c. is_space c ≡ false)
spaceless_if_lower (x ∷ xs) are = grind (arith, All-cons, nat_tests, All-head, All-tail, spaceless_if_lower xs (All-tail (λ c. is_space c ≡ false) (to_ascii_lowercase x) (str_to_ascii_lowercase xs) are))

some_if_long : (field : List ℕ) → 0 < length (str_to_ascii_lowercase field) → is_empty field ≡ false
some_if_long field long = search rules

number_field : (w : Width) → HasBytes w → 0 < byte_len w → (field : List ℕ) (n : ℕ) → number_of w field ≡ Some n → IsField field
number_field w has wide field n says =
    let spelled = (said w has field n says).0 in
    record {
      spaceless = spaceless_if_lower field (subst (λ (xs : List ℕ). All (λ c. is_space c ≡ false) xs) (sym spelled) (digits_without_space w n));
      some = some_if_long field (omega (arith, wide, ap length spelled, length-digits_of w n));
    }

pub byte_field : (field : List ℕ) (n : ℕ) → number_of w8 field ≡ Some n → IsField field
byte_field field n says = number_field w8 bytes_of_8 (omega arith) field n says

word_field : (field : List ℕ) (n : ℕ) → number_of w32 field ≡ Some n → IsField field
word_field field n says = number_field w32 bytes_of_32 (omega arith) field n says

address_field : (field : List ℕ) (at : ℕ) → word_address_of field ≡ Some at → IsField field
unfolding word_address_of
address_field field at says = search (rules, then_there, number_field, bytes_of_64)

-- ---- places

cut_here : (content : List ℕ) (n : ℕ) → n < length content → slice_index content n ≡ 32 → content ≡ take n content ++ 32 ∷ drop (suc n) content
cut_here content n inside is = sym (take-append-drop n content) ∙ ap (λ l. take n content ++ l) (drop-cons content n 0 inside ∙ ap (λ b. b ∷ drop (suc n) content) is)

-- a field of so many bytes from one place on, and a space at another
pub field_from : (content : List ℕ) (m n e : ℕ) → e ≡ m + n → e < length content → slice_index content e ≡ 32 → All (λ c. is_space c ≡ false) (take n (drop m content)) →
    fields_of (drop m content) ≡ take n (drop m content) ∷ fields_of (drop (suc e) content)
unfolding fields_of
field_from content m n e sum inside is spaceless =
    let here : slice_index (drop m content) n ≡ 32 = get_or-drop m content n 0 ∙ ap (λ k. slice_index content k) (sym sum) ∙ is in
    let behind : m + suc n ≡ suc e = omega (arith, sum) in
    rw (← behind, ← drop-drop (suc n) m content) (ap (slice_split is_space) (cut_here (drop m content) n (omega (arith, length-drop m content, sum, inside)) here)
    ∙ slice_split_at is_space (take n (drop m content)) 32 (drop (suc n) (drop m content)) spaceless refl)

-- a field from one place to the end
pub last_from : (content : List ℕ) (m n : ℕ) → m + n ≡ length content → All (λ c. is_space c ≡ false) (take n (drop m content)) → fields_of (drop m content) ≡ take n (drop m content) ∷ []
unfolding fields_of
last_from content m n whole spaceless = grind (arith, common_steps, slice_split_none)

first_bytes : (content : List ℕ) (c d : ℕ) → 1 < length content → slice_index content 0 ≡ c → slice_index content 1 ≡ d → take 2 content ≡ c ∷ d ∷ []
first_bytes content c d some is next = search rules

-- two fields
fields_behind : (content name field : List ℕ) → content ≡ name ++ 32 ∷ field → All (λ c. is_space c ≡ false) name → All (λ c. is_space c ≡ false) field → fields_of content ≡ name ∷ field ∷ []
unfolding fields_of
fields_behind content name field whole first second =
    ap (slice_split is_space) whole ∙ slice_split_at is_space name 32 field first refl ∙ ap (λ fields. name ∷ fields) (slice_split_none is_space field second)

-- a row's line: its name, of so many bytes, a space, and these fields behind it
pub by_name : (content name : List ℕ) (n : ℕ) (fields : List (List ℕ)) (row : Row) → nat_lt most_bytes (length content) ≡ false → n < length content → take n content ≡ name → All (λ c. is_space c ≡ false) name →
    slice_index content n ≡ 32 → fields_of (drop (suc n) content) ≡ fields → has_empty_field (name ∷ fields) ≡ false →
    ((version : Version) (begun : Bool) → said_by_fields version begun (name ∷ fields) ≡ Ok (SaysRow row)) → SaysAlone row content
unfolding content_fault
by_name content name n fields row short inside is plain space behind full says = λ version begun.
    let few = short_in_each version (length content) short in
    rw few (grind (arith, field_from, rw (is, behind) at (field_from content 0 n n (omega arith) inside space (rw is plain))))

same_name : (register : Register) → bytes_eq (register_name register) (register_name register) ≡ true
same_name register = search rules

name_field : (register : Register) → IsField (register_name register)
name_field register = record { spaceless = (search (rules, All-cons, All-nil)); some = (search rules) }

pub register_says : (content field : List ℕ) (register : Register) (value : ℕ) → length content ≤ 27 → content ≡ (codes "reg " ++ register_name register ++ 32 ∷ []) ++ field →
    register_value_of register field ≡ Some value → SaysAlone (Reg register value) content
unfolding said_by_fields form_of said_of
register_says content field register value short whole says =
    let name = register_name register in
    let p = name_field register in
    let q = number_field w64 bytes_of_64 (omega arith) field value (value_there register field value says).0 in
    let known = word_register name register (same_name register) in
    let behind : fields_of (drop 4 content) ≡ name ∷ field ∷ [] = fields_behind (drop 4 content) name field (ap (drop 4) whole ∙ append_assoc name (32 ∷ []) field) p.spaceless q.spaceless in
    by_name content (codes "reg") 3 (name ∷ field ∷ []) (Reg register value) (grind (arith, nat_tests, short)) (rw whole (omega arith)) (rw whole refl) (search (rules, All-cons, All-nil)) (rw whole refl) behind
    (rw (p.some, q.some) refl) (λ version begun. rw (known, known, says) refl)

pub write_says : (content : List ℕ) (at word : ℕ) → length content ≡ 27 → slice_index content 0 ≡ 119 → slice_index content 1 ≡ 32 → slice_index content 18 ≡ 32 →
    word_address_of (take 16 (drop 2 content)) ≡ Some at → number_of w32 (take 8 (drop 19 content)) ≡ Some word → SaysAlone (Write at word) content
unfolding said_by_fields form_of said_of
write_says content at word long first s1 s18 ha hb =
    let a = take 16 (drop 2 content) in
    let pa = address_field a at ha in
    let pb = word_field (take 8 (drop 19 content)) word hb in
    by_name content (codes "w") 1 (a ∷ take 8 (drop 19 content) ∷ []) (Write at word) (rw long refl) (omega (arith, long)) (search rules)
    (search (rules, All-cons, All-nil)) s1
    (field_from content 2 16 18 refl (omega (arith, long)) s18 pa.spaceless ∙ ap (λ fields. a ∷ fields) (last_from content 19 8 (sym long) pb.spaceless))
    (rw (pa.some, pb.some) refl) (λ version begun. rw (ha, hb) refl)

pub bell_says : (content : List ℕ) (slot target : ℕ) → length content ≡ 8 → slice_index content 0 ≡ 100 → slice_index content 1 ≡ 98 → slice_index content 2 ≡ 32 → slice_index content 5 ≡ 32 →
    number_of w8 (take 2 (drop 3 content)) ≡ Some slot → number_of w8 (take 2 (drop 6 content)) ≡ Some target → SaysAlone (Bell slot target) content
unfolding said_by_fields form_of said_of
bell_says content slot target long first second s2 s5 ha hb =
    let a = take 2 (drop 3 content) in
    let pa = byte_field a slot ha in
    let pb = byte_field (take 2 (drop 6 content)) target hb in
    by_name content (codes "db") 2 (a ∷ take 2 (drop 6 content) ∷ []) (Bell slot target) (rw long refl) (omega (arith, long)) (first_bytes content 100 98 (omega (arith, long)) first second)
    (search (rules, All-cons, All-nil)) s2
    (field_from content 3 2 5 refl (omega (arith, long)) s5 pa.spaceless ∙ ap (λ fields. a ∷ fields) (last_from content 6 2 (sym long) pb.spaceless))
    (rw (pa.some, pb.some) refl) (λ version begun. rw (ha, hb) refl)

-- the four words of a block that begins at this place, the spaces between them, and the fields behind them
pub words_then : (content : List ℕ) (m p q r : ℕ) (event : Block) (more : List (List ℕ)) → p ≡ m + 8 → q ≡ suc p + 8 → r ≡ suc q + 8 → r < length content →
    slice_index content p ≡ 32 → slice_index content q ≡ 32 → slice_index content r ≡ 32 →
    block_of (take 8 (drop m content)) (take 8 (drop (suc p) content)) (take 8 (drop (suc q) content)) (take 8 (drop (suc r) content)) ≡ Some event →
    (All (λ c. is_space c ≡ false) (take 8 (drop (suc r) content)) → fields_of (drop (suc r) content) ≡ take 8 (drop (suc r) content) ∷ more) →
    (fields_of (drop m content) ≡ take 8 (drop m content) ∷ take 8 (drop (suc p) content) ∷ take 8 (drop (suc q) content) ∷ take 8 (drop (suc r) content) ∷ more)
    × (has_empty_field (take 8 (drop m content) ∷ take 8 (drop (suc p) content) ∷ take 8 (drop (suc q) content) ∷ take 8 (drop (suc r) content) ∷ more) ≡ has_empty_field more)
words_then content m p q r event more hp hq hr inside sp sq sr says last =
    let a = take 8 (drop m content) in
    let b = take 8 (drop (suc p) content) in
    let c = take 8 (drop (suc q) content) in
    let w = words_there a b c (take 8 (drop (suc r) content)) event says in
    let pd = word_field (take 8 (drop (suc r) content)) w.u w.fourth in (
      field_from content m 8 p hp (omega (arith, inside, hq, hr)) sp (word_field a w.x w.first).spaceless ∙ ap (λ fields. a ∷ fields)
          (field_from content (suc p) 8 q hq (omega (arith, inside, hr)) sq (word_field b w.y w.second).spaceless ∙ ap (λ fields. b ∷ fields)
          (field_from content (suc q) 8 r hr inside sr (word_field c w.z w.third).spaceless ∙ ap (λ fields. c ∷ fields) (last pd.spaceless))),
      rw ((word_field a w.x w.first).some, (word_field b w.y w.second).some, (word_field c w.z w.third).some, pd.some) refl,
    )

pub event_says : (content : List ℕ) (event : Block) → length content ≡ 38 → slice_index content 0 ≡ 101 → slice_index content 1 ≡ 118 → slice_index content 2 ≡ 32 →
    slice_index content 11 ≡ 32 → slice_index content 20 ≡ 32 → slice_index content 29 ≡ 32 →
    block_of (take 8 (drop 3 content)) (take 8 (drop 12 content)) (take 8 (drop 21 content)) (take 8 (drop 30 content)) ≡ Some event → SaysAlone (Read event) content
unfolding said_by_fields form_of said_of
event_says content event long first second s2 s11 s20 s29 says =
    let words = take 8 (drop 3 content) ∷ take 8 (drop 12 content) ∷ take 8 (drop 21 content) ∷ take 8 (drop 30 content) ∷ [] in
    let p = words_then content 3 11 20 29 event [] refl refl refl (omega (arith, long)) s11 s20 s29 says (last_from content 30 8 (sym long)) in
    by_name content (codes "ev") 2 words (Read event) (rw long refl) (omega (arith, long)) (first_bytes content 101 118 (omega (arith, long)) first second)
    (search (rules, All-cons, All-nil)) s2 p.0 p.1 (λ version begun. rw says refl)

pub sub_says : (content : List ℕ) (ring : ℕ) (block : Block) → length content ≡ 42 → slice_index content 0 ≡ 115 → slice_index content 1 ≡ 117 → slice_index content 2 ≡ 98 → slice_index content 3 ≡ 32 →
    slice_index content 6 ≡ 32 → slice_index content 15 ≡ 32 → slice_index content 24 ≡ 32 → slice_index content 33 ≡ 32 → number_of w8 (take 2 (drop 4 content)) ≡ Some ring →
    block_of (take 8 (drop 7 content)) (take 8 (drop 16 content)) (take 8 (drop 25 content)) (take 8 (drop 34 content)) ≡ Some block → SaysAlone (Sub ring (block ∷ [])) content
unfolding said_by_fields form_of said_of blocks_of
sub_says content ring block long first second third s3 s6 s15 s24 s33 hi says =
    let id = take 2 (drop 4 content) in
    let words = take 8 (drop 7 content) ∷ take 8 (drop 16 content) ∷ take 8 (drop 25 content) ∷ take 8 (drop 34 content) ∷ [] in
    let p = words_then content 7 15 24 33 block [] refl refl refl (omega (arith, long)) s15 s24 s33 says (last_from content 34 8 (sym long)) in
    by_name content (codes "sub") 3 (id ∷ words) (Sub ring (block ∷ [])) (rw long refl) (omega (arith, long)) (search rules)
    (search (rules, All-cons, All-nil)) s3 (field_from content 4 2 6 refl (omega (arith, long)) s6 (byte_field id ring hi).spaceless ∙ ap (λ fields. id ∷ fields) p.0)
    (rw (byte_field id ring hi).some p.1) (λ version begun. rw (hi, says) refl)
