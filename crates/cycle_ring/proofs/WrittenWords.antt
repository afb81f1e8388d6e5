-- Which words a descriptor's writes write: those of its blocks and of the Links before them, and each of these
use Rattle.cycle_ring.proofs.Words.{rules, ◌≡◌, ◌+◌, ◌-◌, ◌*◌, ◌<◌, ◌∷◌, ◌++◌, ◌⊎◌, ℕ, zero, suc, Bool, true, false, List, [], arith, refl, inl, inr, Some, nat_lt, Contains, slice_get, nat_tests, Contains-append_left, Contains-append_right, Contains-append_cases, Block, word, Shape, address_of, cycle_of, link_crossed, link_address, cases_option, link_block, low_writes, control_write, block_writes, block_at_position, way_writes, later_writes, writes_of}
use Rattle.cycle_ring.proofs.PlayedLemmas.{same_address, same_word}

-- v is word w of block b at a, and x is its address
pub record IsWordOf (a : ℕ) (b : Block) (x v : ℕ) : Type 0 where
  pub w : ℕ
  pub small : w < 4
  pub at : x ≡ a + 4 * w
  pub value : v ≡ word b w

-- a block's writes write its words
pub low_writes-words : (a : ℕ) (b : Block) (x v : ℕ) → Contains (low_writes a b) (x, v) → IsWordOf a b x v
low_writes-words a b x v x4 = search (rules, same_address, same_word)

pub control_write-words : (a : ℕ) (b : Block) (x v : ℕ) → Contains (control_write a b) (x, v) → IsWordOf a b x v
control_write-words a b x v x4 = search (rules, same_address, same_word)

pub block_writes-words : (a : ℕ) (b : Block) (x v : ℕ) → Contains (block_writes a b) (x, v) → IsWordOf a b x v
block_writes-words a b x v contained = search (rules, Contains-append_cases, low_writes-words, control_write-words)

-- and each of them: words 0 to 2 first, word 3 last
pub word_written : (a : ℕ) (b : Block) (x v : ℕ) → IsWordOf a b x v → Contains (low_writes a b) (x, v) ⊎ Contains (control_write a b) (x, v)
word_written a b x v is_word = by_number is_word.w is_word.small is_word.at is_word.value
  where
    by_number : (w : ℕ) → w < 4 → x ≡ a + 4 * w → v ≡ word b w → Contains (low_writes a b) (x, v) ⊎ Contains (control_write a b) (x, v)
    by_number zero small at value = let first : x ≡ a = omega arith in inl (0, omega arith, cc)
    by_number (suc zero) small at value = inl (1, omega arith, cc)
    by_number (suc (suc zero)) small at value = inl (2, omega arith, cc)
    by_number (suc (suc (suc zero))) small at value = inr (0, omega arith, cc)
    by_number (suc (suc (suc (suc w)))) small at value = absurd (omega arith)

pub block_word_written : (a : ℕ) (b : Block) (x v : ℕ) → IsWordOf a b x v → Contains (block_writes a b) (x, v)
block_word_written a b x v is_word = search (rules, word_written, Contains-append_left, Contains-append_right)

-- v is a word of the Link that is crossed on the way to position q
pub record IsWordOfLink (shape : Shape) (q : ℕ) (chain : Bool) (x v : ℕ) : Type 0 where
  pub i : ℕ
  pub crossed : link_crossed shape q ≡ Some i
  pub of : IsWordOf (link_address shape q) (link_block shape i (cycle_of shape (q - 1)) chain) x v

pub way_writes-words : (shape : Shape) (q : ℕ) (chain : Bool) (x v : ℕ) → Contains (way_writes shape q chain) (x, v) → IsWordOfLink shape q chain x v
way_writes-words shape q chain x v contained = search (rules, cases_option, block_writes-words)

pub link_word_written : (shape : Shape) (q : ℕ) (chain : Bool) (x v : ℕ) → IsWordOfLink shape q chain x v → Contains (way_writes shape q chain) (x, v)
link_word_written shape q chain x v is_word = search (rules, block_word_written)

-- v is a word of the block at position q, or of the Link before it
abbrev pub IsWordAt : Shape → ℕ → Bool → Block → ℕ → ℕ → Type 0
IsWordAt shape q chain b x v = IsWordOf (address_of shape q) (block_at_position shape q b) x v ⊎ IsWordOfLink shape q chain x v

-- v is such a word of one of the blocks from position p on, of a descriptor that begins at position first
pub record IsWritten (shape : Shape) (first p : ℕ) (blocks : List Block) (x v : ℕ) : Type 0 where
  pub j : ℕ
  pub q : ℕ
  pub b : Block
  pub position : q ≡ p + j
  pub block : slice_get blocks j ≡ Some b
  pub is_word : IsWordAt shape q (nat_lt first q) b x v

written_here :
    (shape : Shape) (first p : ℕ) (b : Block) (rest : List Block) (x v : ℕ)
    → IsWordAt shape p (nat_lt first p) b x v → IsWritten shape first p (b ∷ rest) x v
written_here shape first p b rest x v is_word =
    record { j = 0; q = p; b = b; position = omega arith; block = refl; is_word = is_word }

written_later :
    (shape : Shape) (first p : ℕ) (b : Block) (rest : List Block) (x v : ℕ)
    → IsWritten shape first (p + 1) rest x v → IsWritten shape first p (b ∷ rest) x v
written_later shape first p b rest x v later =
    let behind : later.q ≡ (p + 1) + later.j = later.position in
    record { j = suc later.j; q = later.q; b = later.b; position = omega arith; block = later.block; is_word = later.is_word }

chained : (first p : ℕ) → first < p → nat_lt first p ≡ true
chained first p behind = grind (arith, nat_tests)

unchained : (first : ℕ) → nat_lt first first ≡ false
unchained first = grind (arith, nat_tests)

pub later_writes-words :
    (shape : Shape) (first p : ℕ) (blocks : List Block) (x v : ℕ) → first < p
    → Contains (later_writes shape p blocks) (x, v) → IsWritten shape first p blocks x v
later_writes-words shape first p [] x v behind (k, within, same) = absurd (omega arith)
later_writes-words shape first p (b ∷ rest) x v behind contained =
    let way = way_writes shape p true in
    let this = block_writes (address_of shape p) (block_at_position shape p b) in
    elim (Contains-append_cases (way ++ this) (later_writes shape (p + 1) rest) (x, v) contained) [
      | inl here ↦
          elim (Contains-append_cases way this (x, v) here) [
            | inl in_way ↦ written_here shape first p b rest x v (inr (rw (chained first p behind) (way_writes-words shape p true x v in_way)))
            | inr in_this ↦ written_here shape first p b rest x v (inl (block_writes-words (address_of shape p) (block_at_position shape p b) x v in_this))
          ]
      | inr later ↦ written_later shape first p b rest x v (later_writes-words shape first (p + 1) rest x v (omega arith) later)
    ]

-- a descriptor's writes write words of its blocks and of the Links before them
pub writes_of-words :
    (shape : Shape) (first : ℕ) (blocks : List Block) (x v : ℕ)
    → Contains (writes_of shape first blocks) (x, v) → IsWritten shape first first blocks x v
writes_of-words shape first [] x v (k, within, same) = absurd (omega arith)
writes_of-words shape first (b ∷ rest) x v contained =
    let a = address_of shape first in
    let head = block_at_position shape first b in
    let way = way_writes shape first false in
    let later = later_writes shape (first + 1) rest in
    elim (Contains-append_cases (way ++ low_writes a head ++ later) (control_write a head) (x, v) contained) [
      | inl before ↦
          elim (Contains-append_cases (way ++ low_writes a head) later (x, v) before) [
            | inl here ↦
                elim (Contains-append_cases way (low_writes a head) (x, v) here) [
                  | inl in_way ↦ written_here shape first first b rest x v (inr (rw (unchained first) (way_writes-words shape first false x v in_way)))
                  | inr in_low ↦ written_here shape first first b rest x v (inl (low_writes-words a head x v in_low))
                ]
            | inr in_later ↦ written_later shape first first b rest x v (later_writes-words shape first (first + 1) rest x v (omega arith) in_later)
          ]
      | inr control ↦ written_here shape first first b rest x v (inl (control_write-words a head x v control))
    ]

-- the word of a position that is p, of a block that is c
word_here :
    (shape : Shape) (first q p : ℕ) (b c : Block) (x v : ℕ) → q ≡ p → b ≡ c
    → IsWordAt shape q (nat_lt first q) b x v → IsWordAt shape p (nat_lt first p) c x v
word_here shape first q p b c x v here same is_word = search (rules, nat_lt, b, is_word)

-- and each of these words
pub later_word_written :
    (shape : Shape) (first p : ℕ) (blocks : List Block) (j q : ℕ) (b : Block) (x v : ℕ)
    → first < p → q ≡ p + j → slice_get blocks j ≡ Some b → IsWordAt shape q (nat_lt first q) b x v
    → Contains (later_writes shape p blocks) (x, v)
later_word_written shape first p [] j q b x v behind position block is_word = absurd (cc)
later_word_written shape first p (c ∷ rest) zero q b x v behind position block is_word =
    let here : q ≡ p = omega arith in
    let same : b ≡ c = cc in
    let way = way_writes shape p true in
    let this = block_writes (address_of shape p) (block_at_position shape p c) in
    let later = later_writes shape (p + 1) rest in
    let word : IsWordAt shape p true c x v = rw (chained first p behind) at (word_here shape first q p b c x v here same is_word) in
    Contains-append_left (way ++ this) later (x, v)
    (elim word [
      | inl of_block ↦ Contains-append_right way this (x, v) (block_word_written (address_of shape p) (block_at_position shape p c) x v of_block)
      | inr of_link ↦ Contains-append_left way this (x, v) (link_word_written shape p true x v of_link)
    ])
later_word_written shape first p (c ∷ rest) (suc j) q b x v behind position block is_word =
    let this = way_writes shape p true ++ block_writes (address_of shape p) (block_at_position shape p c) in
    Contains-append_right this (later_writes shape (p + 1) rest) (x, v)
    (later_word_written shape first (p + 1) rest j q b x v (omega arith) (omega arith) block is_word)

pub word_of_descriptor_written :
    (shape : Shape) (first : ℕ) (blocks : List Block) (j q : ℕ) (b : Block) (x v : ℕ)
    → q ≡ first + j → slice_get blocks j ≡ Some b → IsWordAt shape q (nat_lt first q) b x v → Contains (writes_of shape first blocks) (x, v)
word_of_descriptor_written shape first [] j q b x v position block is_word = absurd (cc)
word_of_descriptor_written shape first (c ∷ rest) zero q b x v position block is_word =
    let here : q ≡ first = omega arith in
    let same : b ≡ c = cc in
    let a = address_of shape first in
    let head = block_at_position shape first c in
    let way = way_writes shape first false in
    let low = low_writes a head in
    let later = later_writes shape (first + 1) rest in
    let word : IsWordAt shape first false c x v = rw (unchained first) at (word_here shape first q first b c x v here same is_word) in
    elim word [
      | inl of_block ↦
          elim (word_written a head x v of_block) [
            | inl in_low ↦ search (rules, Contains-append_left, Contains-append_right)
            | inr in_control ↦ Contains-append_right (way ++ low ++ later) (control_write a head) (x, v) in_control
          ]
      | inr of_link ↦ search (rules, Contains-append_left, link_word_written)
    ]
word_of_descriptor_written shape first (c ∷ rest) (suc j) q b x v position block is_word =
    let a = address_of shape first in
    let head = block_at_position shape first c in
    let before = way_writes shape first false ++ low_writes a head in
    let later = later_writes shape (first + 1) rest in
    Contains-append_left (before ++ later) (control_write a head) (x, v)
    (Contains-append_right before later (x, v) (later_word_written shape first (first + 1) rest j q b x v (omega arith) (omega arith) block is_word))
