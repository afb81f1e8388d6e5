-- The tree by which a page is found: behind each page stand up to eight later ones, and the digits of a number in base eight say the way
-- from the first page to the one with this number
use Rattle.std.specs.Prelude.{ℕ, zero, suc, List, [], length, map, Option, Some, None, ◌≡◌, ◌<◌, ◌≤◌, ◌+◌, ◌*◌, ◌^◌, ◌/◌, ◌%◌, ◌==◌, if◌then◌else◌, slice_index, slice_index_or}
use Rattle.guest_memory.specs.declared.page.Page.{Page}
use Rattle.guest_memory.specs.declared.sparse_memory.Way.{Way}
use Rattle.guest_memory.specs.declared.sparse_memory.Way.TheVariants.{Found, Free}

-- the pages' numbers
abbrev pub numbers : List Page → List ℕ
numbers pages = map (λ page. page.number) pages

-- where the pages behind each page lie, 0 where there is none
abbrev pub nexts : List Page → List (List ℕ)
nexts pages = map (λ page. page.next) pages

-- the page behind page i by a digit
abbrev pub next : List (List ℕ) → ℕ → ℕ → ℕ
next ts i digit = slice_index (slice_index_or ts i []) digit

-- the digits of a page's number, as 64 bits from the highest on: first its lower 30, by which it is told from those near it, then the others
abbrev pub digits_of : ℕ → ℕ
digits_of n = n % 2 ^ 30 * 2 ^ 34 + n / 2 ^ 30

-- the first digit, and those behind it
abbrev pub first_of : ℕ → ℕ
first_of rest = rest / 2 ^ 61 % 8

abbrev pub behind_of : ℕ → ℕ
behind_of rest = rest % 2 ^ 61 * 8

-- where the page with number n is found from page i on, by the digits of rest, in less than so many steps
unfoldable pub led : List ℕ → List (List ℕ) → ℕ → ℕ → ℕ → ℕ → Option ℕ
led ns ts n zero i rest = None
led ns ts n (suc steps) i rest =
    if slice_index ns i == n then Some i
    else (if next ts i (first_of rest) == 0 then None else led ns ts n steps (next ts i (first_of rest)) (behind_of rest))

-- each page stands behind earlier ones, and is the only one with its number, which leads to it from the first page
pub record IsTree (ns : List ℕ) (ts : List (List ℕ)) : Type 0 where
  pub inside : (i digit : ℕ) → i < length ns → next ts i digit < length ns
  pub later : (i digit : ℕ) → i < length ns → 0 < next ts i digit → i < next ts i digit
  pub found : (i : ℕ) → i < length ns → led ns ts (slice_index ns i) (length ns) 0 (digits_of (slice_index ns i)) ≡ Some i
  pub distinct : (i j : ℕ) → i < length ns → j < length ns → slice_index ns i ≡ slice_index ns j → i ≡ j

-- a tree that has all of another one, and maybe more
pub record Extends (ns : List ℕ) (ts : List (List ℕ)) (ms : List ℕ) (us : List (List ℕ)) : Type 0 where
  pub number : (i : ℕ) → i < length ns → slice_index ms i ≡ slice_index ns i
  pub way : (i digit : ℕ) → i < length ns → 0 < next ts i digit → next us i digit ≡ next ts i digit

-- the page that lies at i has the number
pub record IsAt (ns : List ℕ) (n i : ℕ) : Type 0 where
  pub inside : i < length ns
  pub same : slice_index ns i ≡ n

-- no page has the number
abbrev pub HasNone : List ℕ → ℕ → Type 0
HasNone ns n = (i : ℕ) → i < length ns → slice_index ns i ≡ n → ⊥

-- number n is of no page, and a page that has it will be found if it is the next one and stands behind page i by this digit
pub record IsFree (ns : List ℕ) (ts : List (List ℕ)) (n i digit : ℕ) : Type 0 where
  pub new : HasNone ns n
  pub low : digit < 8
  pub there : i ≤ length ns
  pub first : i ≡ length ns → i ≡ 0
  pub unused : next ts i digit ≡ 0
  pub joins : (ms : List ℕ) (us : List (List ℕ)) → Extends ns ts ms us → slice_index ms (length ns) ≡ n → next us i digit ≡ length ns → led ms us n (length ns + 1) 0 (digits_of n) ≡ Some (length ns)

-- where the page with a number lies, or where it has to stand if there is none
abbrev pub IsWay : List ℕ → List (List ℕ) → ℕ → Way → Type 0
IsWay ns ts n (Found i) = IsAt ns n i
IsWay ns ts n (Free i digit) = IsFree ns ts n i digit
