-- A tree that grows by one page
use Rattle.guest_memory.proofs.Words.{rules, ℕ, List, length, Some, ◌≡◌, ◌<◌, ◌+◌, inl, inr, arith, slice_index, cases_eq, next, led, IsTree, IsFree, Extends, digits_of}
use Rattle.guest_memory.proofs.Led.{led_kept, led_more}

-- the numbers ms and the ways us are those before, and number n, behind page i by a digit
pub record IsGrown (ns : List ℕ) (ts : List (List ℕ)) (n i digit : ℕ) (ms : List ℕ) (us : List (List ℕ)) : Type 0 where
  pub longer : length ms ≡ length ns + 1
  pub number : (j : ℕ) → j < length ns → slice_index ms j ≡ slice_index ns j
  pub last : slice_index ms (length ns) ≡ n
  pub way : (j d : ℕ) → j < length ns → (j ≡ i → d ≡ digit → ⊥) → next us j d ≡ next ts j d
  pub leaf : (d : ℕ) → (length ns ≡ i → d ≡ digit → ⊥) → next us (length ns) d ≡ 0
  pub joined : next us i digit ≡ length ns

-- a way of the tree is the new one, an old one, or none
pub next_cases : (ns : List ℕ) (ts : List (List ℕ)) (n i digit : ℕ) (ms : List ℕ) (us : List (List ℕ)) → IsGrown ns ts n i digit ms us
    → (P : ℕ → Type 0) (j d : ℕ) → j < length ns + 1
    → (j ≡ i → d ≡ digit → P (length ns)) → (j < length ns → P (next ts j d)) → (j ≡ length ns → P 0) → P (next us j d)
next_cases ns ts n i digit ms us grown P j d below joined old leaf = search (rules, next, cases_eq, length, leaf, joined)

pub extends_grown : (ns : List ℕ) (ts : List (List ℕ)) (n i digit : ℕ) (ms : List ℕ) (us : List (List ℕ)) → IsFree ns ts n i digit
    → IsGrown ns ts n i digit ms us → Extends ns ts ms us
extends_grown ns ts n i digit ms us free grown = grind (arith, next)

pub found_grown : (ns : List ℕ) (ts : List (List ℕ)) (n i digit : ℕ) (ms : List ℕ) (us : List (List ℕ)) → IsTree ns ts
    → IsFree ns ts n i digit → IsGrown ns ts n i digit ms us
    → (j : ℕ) → j < length ms → led ms us (slice_index ms j) (length ms) 0 (digits_of (slice_index ms j)) ≡ Some j
found_grown ns ts n i digit ms us tree free grown j below =
    let extends = extends_grown ns ts n i digit ms us free grown in
    rw grown.longer (elim (cases_eq j (length ns)) [
      | inl is ↦ rw (is, grown.last) (free.joins ms us extends grown.last grown.joined)
      | inr isnt ↦
          let within : j < length ns = omega (arith, grown.longer) in
          let before = led_kept ns ts ms us tree extends (slice_index ns j) (length ns) 0 (digits_of (slice_index ns j)) j (omega arith) (tree.found j within) in
          rw (grown.number j within) (led_more ms us (slice_index ns j) (length ns) (length ns + 1) 0 (digits_of (slice_index ns j)) j (omega arith) before)
    ])

pub distinct_grown : (ns : List ℕ) (ts : List (List ℕ)) (n i digit : ℕ) (ms : List ℕ) (us : List (List ℕ)) → IsTree ns ts
    → IsFree ns ts n i digit → IsGrown ns ts n i digit ms us
    → (j k : ℕ) → j < length ms → k < length ms → slice_index ms j ≡ slice_index ms k → j ≡ k
distinct_grown ns ts n i digit ms us tree free grown j k low high same = search (rules, cases_eq, length, slice_index)

pub tree_grown : (ns : List ℕ) (ts : List (List ℕ)) (n i digit : ℕ) (ms : List ℕ) (us : List (List ℕ)) → IsTree ns ts
    → IsFree ns ts n i digit → IsGrown ns ts n i digit ms us → IsTree ms us
tree_grown ns ts n i digit ms us tree free grown = search (rules, next_cases, length, found_grown, distinct_grown)
