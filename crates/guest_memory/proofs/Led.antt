-- The way to a page of a tree, step by step, and in a tree that grows
use Rattle.guest_memory.proofs.Words.{ℕ, zero, suc, List, length, Some, None, ◌≡◌, ◌≢◌, ◌<◌, ◌≤◌, arith, slice_index, cases_eq, nat_tests, next, led, IsTree, Extends, first_of, behind_of}

pub led_here : (ns : List ℕ) (ts : List (List ℕ)) (n steps i rest : ℕ) → slice_index ns i ≡ n → led ns ts n (suc steps) i rest ≡ Some i
unfolding led
led_here ns ts n steps i rest here = grind (arith, nat_tests)

pub led_down : (ns : List ℕ) (ts : List (List ℕ)) (n steps i rest : ℕ) → slice_index ns i ≢ n → 0 < next ts i (first_of rest)
    → led ns ts n (suc steps) i rest ≡ led ns ts n steps (next ts i (first_of rest)) (behind_of rest)
unfolding led
led_down ns ts n steps i rest other more = grind (arith, nat_tests)

pub led_end : (ns : List ℕ) (ts : List (List ℕ)) (n steps i rest : ℕ) → slice_index ns i ≢ n → next ts i (first_of rest) ≡ 0
    → led ns ts n steps i rest ≡ None
unfolding led
led_end ns ts n steps i rest other none = grind (arith, nat_tests)

-- what is found in some steps is found in more
pub led_more : (ns : List ℕ) (ts : List (List ℕ)) (n steps more i rest j : ℕ) → steps ≤ more
    → led ns ts n steps i rest ≡ Some j → led ns ts n more i rest ≡ Some j
unfolding led
led_more ns ts n zero more i rest j few found = cc
led_more ns ts n (suc steps) zero i rest j few found = absurd (omega arith)
led_more ns ts n (suc steps) (suc more) i rest j few found = grind (arith, slice_index, led_here, next, led_end, behind_of, cases_eq, led_more ns ts n steps more (next ts i (first_of rest)) (behind_of rest) j (omega arith))

-- what is found in a tree is found in one that has all of it
pub led_kept : (ns : List ℕ) (ts : List (List ℕ)) (ms : List ℕ) (us : List (List ℕ)) → IsTree ns ts → Extends ns ts ms us
    → (n steps i rest j : ℕ) → i < length ns → led ns ts n steps i rest ≡ Some j → led ms us n steps i rest ≡ Some j
unfolding led
led_kept ns ts ms us tree extends n zero i rest j inside found = found
led_kept ns ts ms us tree extends n (suc steps) i rest j inside found =
    let number = extends.number i inside in
    grind (arith, slice_index, led_here, next, led_end, behind_of, cases_eq, led_kept ns ts ms us tree extends n steps (next ts i (first_of rest)) (behind_of rest) j (tree.inside i (first_of rest) inside))
