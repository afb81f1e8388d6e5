-- Declarations of any number of blocks, by the places of their words
use Rattle.trace_reader.proofs.LowerLaws.{rules, ◌≡◌, ◌*◌, ◌≤◌, ◌<◌, ◌∷◌, ◌∙◌, ℕ, false, List, [], length, slice_index, take, drop, Some, All, refl, ap, sym, arith, nat_tests, w8, SaysAlone, number_of, fields_of, has_empty_field, is_space, All-cons, All-nil, codes, said_by_fields, form_of, said_of, blocks_of, Block, Sub, drop-cons, get_or-drop, length-drop, AreBlocks, BeginsWithBlock}
use Rattle.trace_reader.proofs.SpelledValues.{blocks_written}
use Rattle.trace_reader.proofs.SpelledWords.{four_for_each}
use Rattle.trace_reader.proofs.FixedPlaces.{by_name, byte_field, field_from, last_from, words_then}

-- the fields behind a space; none where nothing stands there
abbrev behind_space : List ℕ → List (List ℕ)
behind_space [] = []
behind_space (byte ∷ rest) = fields_of rest

begins_with_space : (text : List ℕ) (block : Block) → BeginsWithBlock block text → text ≡ 32 ∷ drop 1 text
begins_with_space text block is = drop-cons text 0 0 (omega (arith, is.long)) ∙ ap (λ byte. byte ∷ drop 1 text) is.s0

-- a block's last word, before these blocks
last_word : (text : List ℕ) (blocks : List Block) → 36 ≤ length text → AreBlocks blocks (drop 36 text) → All (λ c. is_space c ≡ false) (take 8 (drop 28 text)) →
    fields_of (drop 28 text) ≡ take 8 (drop 28 text) ∷ behind_space (drop 36 text)
last_word text [] long none plain = rw none (last_from text 28 8 (omega (arith, long, ap length none, length-drop 36 text)) plain)
last_word text (block ∷ blocks) long are plain =
    let inside : 36 < length text = omega (arith, are.0.long, length-drop 36 text) in
    field_from text 28 8 36 refl inside (sym (get_or-drop 36 text 0 0) ∙ are.0.s0) plain ∙ ap (λ fields. take 8 (drop 28 text) ∷ fields) (sym (ap behind_space (drop-cons text 36 0 inside)))

record SaysBlocks (blocks : List Block) (text : List ℕ) : Type 0 where
  says : blocks_of (behind_space text) ≡ Some blocks
  full : has_empty_field (behind_space text) ≡ false
  long : length text ≡ 36 * length blocks

blocks_there : (blocks : List Block) (text : List ℕ) → AreBlocks blocks text → SaysBlocks blocks text
unfolding blocks_of
blocks_there [] text none = rw none (record { says = refl; full = refl; long = refl })
blocks_there (block ∷ blocks) text are =
    let is = are.0 in
    let later = blocks_there blocks (drop 36 text) are.1 in
    let w = words_then text 1 9 18 27 block (behind_space (drop 36 text)) refl refl refl (omega (arith, is.long)) is.s9 is.s18 is.s27 is.says (last_word text blocks is.long are.1) in
    let words = ap behind_space (begins_with_space text block is) ∙ w.0 in
    record {
      says = ap blocks_of words ∙ (rw (is.says, later.says) refl);
      full = ap has_empty_field words ∙ w.1 ∙ later.full;
      long = omega (arith, is.long, later.long, length-drop 36 text);
    }

pub blocks_within : (content : List ℕ) (blocks : List Block) → 6 < length content → length content ≤ 9222 → AreBlocks blocks (drop 6 content) → length blocks ≤ 256
blocks_within content blocks some short are = let there = blocks_there blocks (drop 6 content) are in omega (arith, some, short, there.long, length-drop 6 content)

pub subs_say : (content : List ℕ) (ring : ℕ) (blocks : List Block) → 6 < length content → length content ≤ 9222 → slice_index content 0 ≡ 115 → slice_index content 1 ≡ 117 → slice_index content 2 ≡ 98 →
    slice_index content 3 ≡ 32 → number_of w8 (take 2 (drop 4 content)) ≡ Some ring → AreBlocks blocks (drop 6 content) → SaysAlone (Sub ring blocks) content
unfolding said_by_fields form_of said_of
subs_say content ring [] some short first second third s3 hi none = absurd (omega (arith, some, ap length none, length-drop 6 content))
subs_say content ring (block ∷ blocks) some short first second third s3 hi are =
    let id = take 2 (drop 4 content) in
    let words = behind_space (drop 6 content) in
    let there = blocks_there (block ∷ blocks) (drop 6 content) are in
    let known = four_for_each words (block ∷ blocks) (omega arith) (blocks_written words (block ∷ blocks) there.says).count in
    let p = byte_field id ring hi in
    let fields = field_from content 4 2 6 refl some (sym (get_or-drop 6 content 0 0) ∙ are.0.s0) p.spaceless ∙ ap (λ rest. id ∷ rest) (sym (ap behind_space (drop-cons content 6 0 some))) in
    by_name content (codes "sub") 3 (id ∷ words) (Sub ring (block ∷ blocks)) (grind (arith, nat_tests, short)) (omega (arith, some)) (search rules) (search (rules, All-cons, All-nil)) s3 fields
    (rw (p.some, there.full) refl) (λ version begun. rw (known, hi, there.says) refl)
