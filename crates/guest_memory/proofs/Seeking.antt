-- A step of the search for a page, among pages
use Rattle.guest_memory.proofs.LowerLaws.{rules, ℕ, List, [], ◌∷◌, length, get_or, ◌≡◌, ◌≢◌, ◌<◌, ◌≤◌, ◌-◌, refl, arith, slice_index, Page, numbers, nexts, next, IsTree, IsFree, first_of, behind_of, IsOnWay, on_way_down, free_at_end, free_first, count, number_read, next_read}

pub free_behind : (pages : List Page) (n i rest : ℕ) (page : Page) → IsTree (numbers pages) (nexts pages)
    → IsOnWay (numbers pages) (nexts pages) n i rest → i < length pages → page ≡ get_or pages i page → page.number ≢ n
    → slice_index page.next (first_of rest) ≡ 0 → IsFree (numbers pages) (nexts pages) n i (first_of rest)
free_behind pages n i rest page tree on inside is other none = search (rules, free_at_end, numbers, nexts, count, number_read, next_read, first_of)

pub way_behind : (pages : List Page) (n i rest : ℕ) (page : Page) → IsTree (numbers pages) (nexts pages)
    → IsOnWay (numbers pages) (nexts pages) n i rest → i < length pages → page ≡ get_or pages i page → page.number ≢ n
    → slice_index page.next (first_of rest) ≢ 0
    → IsOnWay (numbers pages) (nexts pages) n (slice_index page.next (first_of rest)) (behind_of rest)
way_behind pages n i rest page tree on inside is other some =
    search (rules, next_read pages i (first_of rest) page inside is, first_of, on_way_down, numbers, nexts, count, number_read)

pub later_behind : (pages : List Page) (i digit : ℕ) (page : Page) → IsTree (numbers pages) (nexts pages) → i < length pages
    → page ≡ get_or pages i page → slice_index page.next digit ≢ 0
    → length pages - slice_index page.next digit < length pages - i
later_behind pages i digit page tree inside is some = search (rules, next_read pages i digit page inside is, count, tree.later)

no_next : (pages : List Page) → length pages ≡ 0 → next (nexts pages) 0 0 ≡ 0
no_next [] none = refl
no_next (page ∷ pages) none = absurd (omega arith)

pub free_none : (pages : List Page) (n i rest : ℕ) → IsOnWay (numbers pages) (nexts pages) n i rest → length pages ≤ i
    → IsFree (numbers pages) (nexts pages) n 0 0
free_none pages n i rest on all =
    let none = on.there (omega (arith, count pages)) in
    free_first (numbers pages) (nexts pages) n none (no_next pages (omega (arith, count pages)))
