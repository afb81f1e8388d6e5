-- The words of a page among pages with numbers of their own
use Rattle.guest_memory.proofs.Words.{rules, ℕ, zero, suc, List, [], ◌∷◌, ◌++◌, length, set, get_or, replicate, ◌≡◌, ◌≢◌, ◌<◌, refl, arith, slice_index, if◌then◌else◌, ◌==◌, get_or-replicate, nat_tests, Page, numbers, page_in, word_of}

-- a page without words changes none
pub page_in_push : (pages : List Page) (page : Page) (n : ℕ) → page.words ≡ replicate 16 0
    → page_in (pages ++ page ∷ []) n ≡ page_in pages n
page_in_push [] page n zeros = grind (arith, nat_tests)
page_in_push (x ∷ pages) page n zeros = let rest = page_in_push pages page n zeros in rw rest

-- no page has the number
pub page_in_none : (pages : List Page) (n : ℕ) → ((i : ℕ) → i < length pages → slice_index (numbers pages) i ≡ n → ⊥)
    → page_in pages n ≡ replicate 16 0
page_in_none [] n none = refl
page_in_none (x ∷ pages) n none = grind (arith, nat_tests, page_in_none pages n, none 0 (omega arith), page_in_none pages n (λ i below. none (suc i) (omega arith)))

-- a page that no earlier one shares its number with
pub page_in_at : (pages : List Page) (i : ℕ) (d : Page) → i < length pages
    → ((j : ℕ) → j < i → slice_index (numbers pages) j ≢ (get_or pages i d).number)
    → page_in pages (get_or pages i d).number ≡ (get_or pages i d).words
page_in_at [] i d below first = absurd (omega arith)
page_in_at (x ∷ pages) zero d below first = grind (arith, nat_tests)
page_in_at (x ∷ pages) (suc i) d below first = grind (arith, nat_tests, page_in_at pages i d (omega arith), first 0 (omega arith), page_in_at pages i d (omega arith) (λ j low. first (suc j) (omega arith)))

-- such a page in the place of one with the same number
pub page_in_set : (pages : List Page) (i : ℕ) (page d : Page) (n : ℕ) → i < length pages → page.number ≡ (get_or pages i d).number
    → ((j : ℕ) → j < i → slice_index (numbers pages) j ≢ page.number)
    → page_in (set pages i page) n ≡ (if page.number == n then page.words else page_in pages n)
page_in_set [] i page d n below same first = absurd (omega arith)
page_in_set (x ∷ pages) zero page d n below same first = grind (arith, nat_tests)
page_in_set (x ∷ pages) (suc i) page d n below same first = grind (arith, nat_tests, page_in_set pages i page d n (omega arith) same, first 0 (omega arith), page_in_set pages i page d n (omega arith) same (λ j low. first (suc j) (omega arith)))

-- with no pages each word is 0
pub word_none : (pages : List Page) (a : ℕ) → pages ≡ [] → word_of pages a ≡ 0
word_none pages a none = search (rules, slice_index, replicate, get_or-replicate)
