-- Words of a block before and after a write
use Rattle.segments.proofs.Words.{◌≡◌, ◌≢◌, ◌+◌, ◌<◌, ◌==◌, ℕ, true, false, nat_lt, arith, refl, add-zero, eq-eqb, ne_eqb, eqb-true, lt-ltb, cond-true, cond-false, and_from, and_parts, false≢true, put, Block, block_at, same_words, with_cycle, overlap, rules}

pub put_here : (memory : ℕ → ℕ) (a w : ℕ) → put memory a w a ≡ w
put_here memory a w = cond-true (a == a) w (memory a) (eq-eqb a a refl)

pub put_elsewhere : (memory : ℕ → ℕ) (a w x : ℕ) → x ≢ a → put memory a w x ≡ memory x
put_elsewhere memory a w x other = cond-false (x == a) w (memory x) (ne_eqb x a other)

-- the two memories agree in the 16 bytes from b on
abbrev pub SameBlock : (ℕ → ℕ) → (ℕ → ℕ) → ℕ → Type 0
SameBlock memory other b = (k : ℕ) → k < 16 → other (b + k) ≡ memory (b + k)

-- a word that overlaps none of them is none of them
pub same_apart : (memory : ℕ → ℕ) (a w b : ℕ) → overlap a 4 b 16 ≡ false → SameBlock memory (put memory a w) b
same_apart memory a w b apart k h = grind (arith, put_elsewhere, false≢true, and_from, nat_lt, lt-ltb)

pub block_same : (memory other : ℕ → ℕ) (b : ℕ) → SameBlock memory other b → block_at other b ≡ block_at memory b
block_same memory other b same = grind (arith, add-zero)

-- a block of memory with the words of a declared one is it
pub same_words_is : (memory : ℕ → ℕ) (a : ℕ) (d : Block) (c : ℕ) → same_words (block_at memory a) (with_cycle d c) ≡ true → block_at memory a ≡ with_cycle d c
same_words_is memory a d c h = search (rules, and_parts, eqb-true)
