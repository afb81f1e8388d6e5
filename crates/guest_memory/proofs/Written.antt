-- What a word is where its page lies, and after a write there
use Rattle.guest_memory.proofs.LowerLaws.{rules, ℕ, List, [], ◌∷◌, ◌+◌, length, set, get_or, replicate, ◌≡◌, ◌≢◌, ◌<◌, ◌/◌, ◌%◌, refl, ⊎_elim, arith, slice_index, cases_eq, get_or-set_same, get_or-set_other, get_or-replicate, map-set_same, Page, numbers, nexts, IsTree, IsAt, HasNone, page_in, word_of, put, page_in_at, page_in_set, page_in_none, count, number_read}

-- no earlier page shares its number
pub is_first : (pages : List Page) (n i : ℕ) → IsTree (numbers pages) (nexts pages) → IsAt (numbers pages) n i
    → (j : ℕ) → j < i → slice_index (numbers pages) j ≢ n
is_first pages n i tree at j before same = search (rules, length, numbers)

pub page_read : (pages : List Page) (n i : ℕ) (page : Page) → IsTree (numbers pages) (nexts pages) → IsAt (numbers pages) n i
    → page ≡ get_or pages i page → page_in pages n ≡ page.words
page_read pages n i page tree at is = search (rules, length, count, get_or, number_read, page_in_at, is_first)

pub word_read : (pages : List Page) (n index i at : ℕ) (page : Page) → IsTree (numbers pages) (nexts pages) → IsAt (numbers pages) n i
    → page ≡ get_or pages i page → n ≡ at / 64 → index ≡ at / 4 % 16 → at % 4 ≡ 0 → slice_index page.words index ≡ word_of pages at
word_read pages n index i at page tree lies is page_is index_is aligned = search (rules, page_in, page_read)

pub word_absent : (pages : List Page) (n at : ℕ) → HasNone (numbers pages) n → n ≡ at / 64 → 0 ≡ word_of pages at
word_absent pages n at none page_is = search (rules, page_in, replicate, page_in_none, count, slice_index, get_or-replicate)

four : {a b c d e f g h : ℕ} → a ≡ e → b ≡ f → c ≡ g → d ≡ h → ◌≡◌ {A = List ℕ} (a ∷ b ∷ c ∷ d ∷ []) (e ∷ f ∷ g ∷ h ∷ [])
four p q r s = rw (p, q, r, s) refl

-- the words of a block stand side by side on its page
pub block_read : (pages : List Page) (n index i base : ℕ) (page : Page) → IsTree (numbers pages) (nexts pages) → IsAt (numbers pages) n i
    → page ≡ get_or pages i page → n ≡ base / 64 → index ≡ base / 4 % 16 → base % 16 ≡ 0
    → ◌≡◌ {A = List ℕ} (slice_index page.words index ∷ slice_index page.words (index + 1) ∷ slice_index page.words (index + 2) ∷ slice_index page.words (index + 3) ∷ [])
    (word_of pages base ∷ word_of pages (base + 4) ∷ word_of pages (base + 8) ∷ word_of pages (base + 12) ∷ [])
block_read pages n index i base page tree lies is page_is index_is aligned = grind (arith, word_read, four)

pub block_absent : (pages : List Page) (n base : ℕ) → HasNone (numbers pages) n → n ≡ base / 64 → base % 16 ≡ 0
    → ◌≡◌ {A = List ℕ} (0 ∷ 0 ∷ 0 ∷ 0 ∷ []) (word_of pages base ∷ word_of pages (base + 4) ∷ word_of pages (base + 8) ∷ word_of pages (base + 12) ∷ [])
block_absent pages n base none page_is aligned = search (rules, four, word_absent)

pub tree_written : (pages : List Page) (i : ℕ) (old y : Page) → IsTree (numbers pages) (nexts pages) → old ≡ get_or pages i old
    → y.number ≡ old.number → y.next ≡ old.next → IsTree (numbers (set pages i y)) (nexts (set pages i y))
tree_written pages i old y tree is number next = search (rules, numbers, set, map-set_same, nexts)

-- two words are one where their pages and their places there are
pub same_place : (a b : ℕ) → a % 4 ≡ 0 → b % 4 ≡ 0 → a / 64 ≡ b / 64 → a / 4 % 16 ≡ b / 4 % 16 → a ≡ b
same_place a b first second pages places = omega arith

pub word_written : (pages : List Page) (n index i at value : ℕ) (old y : Page) → IsTree (numbers pages) (nexts pages)
    → IsAt (numbers pages) n i → old ≡ get_or pages i old → y.number ≡ old.number → y.words ≡ set old.words index value
    → length old.words ≡ 16 → n ≡ at / 64 → index ≡ at / 4 % 16 → at % 4 ≡ 0
    → (a : ℕ) → word_of (set pages i y) a ≡ put (word_of pages) at value a
word_written pages n index i at value old y tree lies is number words whole page_is index_is aligned a =
    let inside : i < length pages = omega (arith, lies.inside, count pages) in
    search (rules, number_read, page_in, set, page_in_set, is_first, page_read, ⊎_elim, slice_index, get_or-set_same, same_place, cases_eq, get_or-set_other)

pub put_same : (f g : ℕ → ℕ) (at value a : ℕ) → f a ≡ g a → put f at value a ≡ put g at value a
put_same f g at value a same = rw same refl
