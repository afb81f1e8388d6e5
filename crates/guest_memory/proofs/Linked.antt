-- A page at the end of the others, and where it lies noted in one of them
use Rattle.guest_memory.proofs.Words.{rules, ℕ, zero, suc, List, [], ◌∷◌, ◌++◌, length, set, get_or, replicate, ◌≡◌, ◌<◌, ◌≤◌, ◌∙◌, sym, ap, ⊎_elim, arith, length-append, slice_index, cases_eq, cases_lt, length-map, get_or-map, map-set, map-append, get_or-set_same, get_or-set_other, get_or_append_left, get_or_push, get_or-replicate, get_or_past, map-set_same, Page, numbers, nexts, next, IsTree, IsFree, IsAt, page_in}
use Rattle.guest_memory.proofs.Grown.{IsGrown, tree_grown}
use Rattle.guest_memory.proofs.PageWords.{page_in_push}

pub count : (pages : List Page) → length (numbers pages) ≡ length pages
count pages = length-map pages (λ (page : Page). page.number)

pub number_read : (pages : List Page) (i : ℕ) (page : Page) → i < length pages → page ≡ get_or pages i page
    → slice_index (numbers pages) i ≡ page.number
number_read pages i page below is = get_or-map (λ (p : Page). p.number) pages i page 0 below ∙ sym (ap (λ (p : Page). p.number) is)

pub next_read : (pages : List Page) (i digit : ℕ) (page : Page) → i < length pages → page ≡ get_or pages i page
    → next (nexts pages) i digit ≡ slice_index page.next digit
next_read pages i digit page below is = search (rules, slice_index, get_or-map)

-- one way of one page is changed
pub next_set_other : (ts : List (List ℕ)) (i digit v j d : ℕ) → i < length ts → (j ≡ i → d ≡ digit → ⊥)
    → next (set ts i (set (get_or ts i []) digit v)) j d ≡ next ts j d
next_set_other ts i digit v j d below apart = search (rules, ⊎_elim, get_or-set_same, set, get_or, get_or-set_other, cases_eq)

pub next_set_same : (ts : List (List ℕ)) (i digit v : ℕ) → i < length ts → digit < length (get_or ts i [])
    → next (set ts i (set (get_or ts i []) digit v)) i digit ≡ v
next_set_same ts i digit v below wide = search (rules, get_or-set_same, set, get_or)

-- no way is behind a page that is new
pub next_new : (ts : List (List ℕ)) (d : ℕ) → next (ts ++ replicate 8 0 ∷ []) (length ts) d ≡ 0
next_new ts d = search (rules, get_or_push, replicate, length, ⊎_elim, get_or-replicate, get_or_past, cases_lt)

-- the same of the lists of numbers and ways
pub grown_lists : (ns : List ℕ) (ts : List (List ℕ)) (n i digit : ℕ) → length ts ≡ length ns → i ≤ length ns
    → digit < length (get_or (ts ++ replicate 8 0 ∷ []) i [])
    → IsGrown ns ts n i digit (ns ++ n ∷ [])
    (set (ts ++ replicate 8 0 ∷ []) i (set (get_or (ts ++ replicate 8 0 ∷ []) i []) digit (length ns)))
grown_lists ns ts n i digit same there wide =
    search (rules, length, replicate, length-append, get_or_append_left, get_or_push, next_set_other, slice_index, next_new, next_set_same)

-- the numbers and ways of pages of which the last is new, and has been noted in page i, which was old and is y
pub is_grown : (pages : List Page) (page old y : Page) (n i digit : ℕ) → i ≤ length pages → digit < 8 → page.number ≡ n
    → page.next ≡ replicate 8 0 → old ≡ get_or (pages ++ page ∷ []) i old → length old.next ≡ 8 → y.number ≡ old.number
    → y.next ≡ set old.next digit (length pages)
    → IsGrown (numbers pages) (nexts pages) n i digit (numbers (set (pages ++ page ∷ []) i y)) (nexts (set (pages ++ page ∷ []) i y))
is_grown pages page old y n i digit there low number leaf is eight same changed =
    let ways : length (nexts pages) ≡ length (numbers pages) = length-map pages (λ (p : Page). p.next) ∙ sym (count pages) in
    let ns : numbers (set (pages ++ page ∷ []) i y) ≡ numbers pages ++ n ∷ [] = search (rules, map-set_same, map-append, numbers) in
    let all : nexts (pages ++ page ∷ []) ≡ nexts pages ++ replicate 8 0 ∷ [] = search (rules, map-append, nexts) in
    let inside : i < length (pages ++ page ∷ []) = omega (arith, length-append pages (page ∷ [])) in
    let row : get_or (nexts pages ++ replicate 8 0 ∷ []) i [] ≡ old.next = search (rules, get_or-map) in
    let ts : nexts (set (pages ++ page ∷ []) i y)
    ≡ set (nexts pages ++ replicate 8 0 ∷ []) i (set (get_or (nexts pages ++ replicate 8 0 ∷ []) i []) digit (length (numbers pages))) =
    map-set (λ (p : Page). p.next) (pages ++ page ∷ []) i y ∙ rw (row, count pages, ← all) (ap (λ (r : List ℕ). set (nexts (pages ++ page ∷ [])) i r) changed) in
    rw (ns, ts) (grown_lists (numbers pages) (nexts pages) n i digit ways (omega (arith, count pages)) (rw row (omega arith)))

-- which words stand in the pages
pub page_in_linked : (pages : List Page) (i : ℕ) (old y : Page) (n : ℕ) → i < length pages → old ≡ get_or pages i old
    → y.number ≡ old.number → y.words ≡ old.words → page_in (set pages i y) n ≡ page_in pages n
page_in_linked [] i old y n below is number words = absurd (omega arith)
page_in_linked (x ∷ pages) zero old y n below is number words = search rules
page_in_linked (x ∷ pages) (suc i) old y n below is number words = grind (arith, page_in_linked pages i old y n (omega arith) is number words)

-- the tree of such pages
pub tree_linked : (pages all : List Page) (page old y : Page) (n i digit at : ℕ) → IsTree (numbers pages) (nexts pages)
    → IsFree (numbers pages) (nexts pages) n i digit → all ≡ pages ++ page ∷ [] → page.number ≡ n → page.next ≡ replicate 8 0
    → old ≡ get_or all i old → length old.next ≡ 8 → at ≡ length pages → y.number ≡ old.number → y.next ≡ set old.next digit at
    → IsTree (numbers (set all i y)) (nexts (set all i y))
tree_linked pages all page old y n i digit at tree free are number leaf is eight last same changed =
    rw are
    (tree_grown (numbers pages) (nexts pages) n i digit (numbers (set (pages ++ page ∷ []) i y)) (nexts (set (pages ++ page ∷ []) i y))
    tree free
    (is_grown pages page old y n i digit (omega (arith, free.there, count pages)) free.low number leaf (rw are at is) eight same
    (rw last at changed)))

-- where the new page lies
pub at_linked : (pages all : List Page) (page old y : Page) (n i at : ℕ) → all ≡ pages ++ page ∷ [] → page.number ≡ n
    → old ≡ get_or all i old → at ≡ length pages → y.number ≡ old.number → IsAt (numbers (set all i y)) n at
at_linked pages all page old y n i at are number is last same = search (rules, numbers, set, map-set_same, map-append, length-append, count, get_or_push)

-- the words that stand in such pages
pub words_linked : (pages all : List Page) (page old y : Page) (n i : ℕ) → i ≤ length pages → all ≡ pages ++ page ∷ []
    → page.words ≡ replicate 16 0 → old ≡ get_or all i old → y.number ≡ old.number → y.words ≡ old.words
    → page_in (set all i y) n ≡ page_in pages n
words_linked pages all page old y n i there are zeros is number words = search (rules, length, length-append, page_in_linked, page_in_push)
