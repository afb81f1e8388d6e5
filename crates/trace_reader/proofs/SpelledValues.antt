-- What number fields say, and how the numbers are written
use Rattle.trace_reader.proofs.Words.{rules, ◌≡◌, ◌*◌, ◌<◌, ◌^◌, ◌∷◌, ◌++◌, ◌∙◌, ℕ, true, List, [], length, slice_index, map, Some, All, refl, ap, arith, append-nil, w32, flat_map, and_parts, All-cons, All-nil, All-head, All-tail, digits_of, number_of, bytes_of_32, IsBlock, Block, Field, Digits, may_be_written, are_written, block_fields, block_of, blocks_of, event_of}
use Rattle.trace_reader.proofs.SpelledFields.{both_there, both_of, mapped_there, number_written, number_read}

-- the digits of a word
abbrev pub word_field : ℕ → Field
word_field n = Digits (digits_of w32 n)

-- ---- a block

-- four fields that say the four words of a block
pub record Words (a b c d : List ℕ) (block : Block) : Type 0 where
  pub x : ℕ
  pub y : ℕ
  pub z : ℕ
  pub u : ℕ
  pub first : number_of w32 a ≡ Some x
  pub second : number_of w32 b ≡ Some y
  pub third : number_of w32 c ≡ Some z
  pub fourth : number_of w32 d ≡ Some u
  pub are : record { w = x ∷ y ∷ z ∷ u ∷ [] } ≡ block

pub words_there : (a b c d : List ℕ) (block : Block) → block_of a b c d ≡ Some block → Words a b c d block
unfolding block_of
words_there a b c d block says = search (rules, mapped_there, both_there)

four_written : (x y z u : ℕ) (a b c d : List ℕ) (fields : List Field) (texts : List (List ℕ)) →
    may_be_written (word_field x) a ≡ true → may_be_written (word_field y) b ≡ true → may_be_written (word_field z) c ≡ true → may_be_written (word_field u) d ≡ true →
    are_written fields texts ≡ true → are_written (word_field x ∷ word_field y ∷ word_field z ∷ word_field u ∷ fields) (a ∷ b ∷ c ∷ d ∷ texts) ≡ true
four_written x y z u a b c d fields texts ha hb hc hd rest = rw (ha, hb, hc, hd) rest

-- what a block's fields say is written so
pub block_written : (a b c d : List ℕ) (block : Block) (fields : List Field) (texts : List (List ℕ)) → block_of a b c d ≡ Some block → are_written fields texts ≡ true →
    (are_written (block_fields block ++ fields) (a ∷ b ∷ c ∷ d ∷ texts) ≡ true) × IsBlock block
block_written a b c d block fields texts says rest =
    let p = words_there a b c d block says in
    let hb = number_written w32 bytes_of_32 b p.y p.second in
    let hc = number_written w32 bytes_of_32 c p.z p.third in
    let hd = number_written w32 bytes_of_32 d p.u p.fourth in
    let ha = number_written w32 bytes_of_32 a p.x p.first in
    rw (← p.are) (four_written p.x p.y p.z p.u a b c d fields texts ha.0 hb.0 hc.0 hd.0 rest, (refl, (search rules)))

-- four fields that are written so
record FourWritten (x y z u : ℕ) (fields : List Field) (texts : List (List ℕ)) : Type 0 where
  a : List ℕ
  b : List ℕ
  c : List ℕ
  d : List ℕ
  rest : List (List ℕ)
  are : texts ≡ a ∷ b ∷ c ∷ d ∷ rest
  first : may_be_written (word_field x) a ≡ true
  second : may_be_written (word_field y) b ≡ true
  third : may_be_written (word_field z) c ≡ true
  fourth : may_be_written (word_field u) d ≡ true
  others : are_written fields rest ≡ true

-- the fields that say a block, and the rest
pub record BlockRead (block : Block) (fields : List Field) (texts : List (List ℕ)) : Type 0 where
  pub a : List ℕ
  pub b : List ℕ
  pub c : List ℕ
  pub d : List ℕ
  pub rest : List (List ℕ)
  pub are : texts ≡ a ∷ b ∷ c ∷ d ∷ rest
  pub says : block_of a b c d ≡ Some block
  pub others : are_written fields rest ≡ true

read_of : (x y z u : ℕ) (fields : List Field) (texts : List (List ℕ)) → x < 2 ^ 32 → y < 2 ^ 32 → z < 2 ^ 32 → u < 2 ^ 32 →
    FourWritten x y z u fields texts → BlockRead (record { w = x ∷ y ∷ z ∷ u ∷ [] }) fields texts
unfolding block_of
read_of x y z u fields texts hx hy hz hu p = search (rules, number_read, bytes_of_32)

words_read : (words : List ℕ) (fields : List Field) (texts : List (List ℕ)) → length words ≡ 4 → ((i : ℕ) → slice_index words i < 2 ^ 32) →
    are_written (map word_field words ++ fields) texts ≡ true → BlockRead (record { w = words }) fields texts
words_read [] fields texts four small written = absurd (omega arith)
words_read (x ∷ []) fields texts four small written = absurd (omega arith)
words_read (x ∷ y ∷ []) fields texts four small written = absurd (omega arith)
words_read (x ∷ y ∷ z ∷ []) fields texts four small written = absurd (omega arith)
words_read (x ∷ y ∷ z ∷ u ∷ []) fields texts four small written = read_of x y z u fields texts (small 0) (small 1) (small 2) (small 3) (search (rules, and_parts))
words_read (x ∷ y ∷ z ∷ u ∷ v ∷ more) fields texts four small written = absurd (omega arith)

pub block_read : (block : Block) (fields : List Field) (texts : List (List ℕ)) → IsBlock block → are_written (block_fields block ++ fields) texts ≡ true → BlockRead block fields texts
block_read block fields texts is written = words_read block.w fields texts is.0 is.1 written

-- ---- blocks

blocks_four : (a b c d : List ℕ) (words : List (List ℕ)) (blocks : List Block) → blocks_of (a ∷ b ∷ c ∷ d ∷ words) ≡ Some blocks →
    (block : Block) × (rest : List Block) × (block_of a b c d ≡ Some block) × (blocks_of words ≡ Some rest) × (block ∷ rest ≡ blocks)
unfolding blocks_of
blocks_four a b c d words blocks says = both_there (λ x rest. x ∷ rest) (block_of a b c d) (blocks_of words) blocks says

pub record BlocksWritten (words : List (List ℕ)) (blocks : List Block) : Type 0 where
  pub written : are_written (flat_map block_fields blocks) words ≡ true
  pub fit : All IsBlock blocks
  pub count : length words ≡ 4 * length blocks

pub blocks_written : (words : List (List ℕ)) (blocks : List Block) → blocks_of words ≡ Some blocks → BlocksWritten words blocks
unfolding blocks_of
blocks_written [] blocks says = search (rules, All-nil)
blocks_written (a ∷ []) blocks says = cc says
blocks_written (a ∷ b ∷ []) blocks says = cc says
blocks_written (a ∷ b ∷ c ∷ []) blocks says = cc says
blocks_written (a ∷ b ∷ c ∷ d ∷ words) blocks says =
    let p = blocks_four a b c d words blocks says in
    let ih = blocks_written words p.1 p.3 in
    let here = block_written a b c d p.0 (flat_map block_fields p.1) words p.2 ih.written in
    rw (← p.4) (record { written = here.0; fit = All-cons IsBlock p.0 p.1 here.1 ih.fit; count = omega (arith, ih.count) })

pub blocks_read : (blocks : List Block) (words : List (List ℕ)) → All IsBlock blocks → are_written (flat_map block_fields blocks) words ≡ true →
    (blocks_of words ≡ Some blocks) × (length words ≡ 4 * length blocks)
unfolding blocks_of
blocks_read [] [] fit written = (refl, refl)
blocks_read [] (word ∷ words) fit written = cc written
blocks_read (block ∷ blocks) words fit written =
    let p = block_read block (flat_map block_fields blocks) words (All-head IsBlock block blocks fit) written in
    let ih = blocks_read blocks p.rest (All-tail IsBlock block blocks fit) p.others in
    (ap blocks_of p.are ∙ (both_of (λ x rest. x ∷ rest) (block_of p.a p.b p.c p.d) (blocks_of p.rest) block blocks p.says ih.0), omega (arith, ap length p.are, ih.1))

-- ---- an event

pub event_written : (words : List (List ℕ)) (event : Block) → event_of words ≡ Some event → (are_written (block_fields event) words ≡ true) × IsBlock event
event_written [] event says = cc says
event_written (a ∷ []) event says = cc says
event_written (a ∷ b ∷ []) event says = cc says
event_written (a ∷ b ∷ c ∷ []) event says = cc says
event_written (a ∷ b ∷ c ∷ d ∷ []) event says = (rw append-nil at (block_written a b c d event [] [] says refl).0, (block_written a b c d event [] [] says refl).1)
event_written (a ∷ b ∷ c ∷ d ∷ e ∷ rest) event says = cc says

pub only : (texts : List (List ℕ)) → are_written [] texts ≡ true → texts ≡ []
only texts written = search rules

pub event_read : (event : Block) (words : List (List ℕ)) → IsBlock event → are_written (block_fields event) words ≡ true → (event_of words ≡ Some event) × (length words ≡ 4)
event_read event words is written =
    let p = block_read event [] words is (rw append-nil written) in
    let four : words ≡ p.a ∷ p.b ∷ p.c ∷ p.d ∷ [] = p.are ∙ ap (λ (rest : List (List ℕ)). p.a ∷ p.b ∷ p.c ∷ p.d ∷ rest) (only p.rest p.others) in
    (ap (λ (xs : List (List ℕ)). event_of xs) four ∙ p.says, ap length four)
