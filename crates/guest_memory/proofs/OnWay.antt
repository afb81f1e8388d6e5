-- What a search for a page knows on its way through the tree
use Rattle.guest_memory.proofs.Words.{rules, ℕ, suc, List, length, Some, ◌≡◌, ◌≢◌, ◌<◌, ◌≤◌, ◌+◌, ◌-◌, refl, arith, slice_index, next, led, IsTree, IsFree, Extends, first_of, behind_of, digits_of}
use Rattle.guest_memory.proofs.Led.{led_here, led_down, led_end, led_more}

-- the way from the first page by the digits of n comes to page i, with the digits in rest left, here and wherever the tree grows to
pub record IsOnWay (ns : List ℕ) (ts : List (List ℕ)) (n i rest : ℕ) : Type 0 where
  pub there : length ns ≤ i → length ns ≡ 0
  pub back : (j : ℕ) → led ns ts n (length ns) 0 (digits_of n) ≡ Some j → led ns ts n (length ns) i rest ≡ Some j
  pub joins : (ms : List ℕ) (us : List (List ℕ)) (steps j : ℕ) → Extends ns ts ms us → led ms us n steps i rest ≡ Some j
      → led ms us n (steps + i) 0 (digits_of n) ≡ Some j

pub on_way_down : (ns : List ℕ) (ts : List (List ℕ)) (n i rest : ℕ) → IsTree ns ts → IsOnWay ns ts n i rest → i < length ns
    → slice_index ns i ≢ n → next ts i (first_of rest) ≢ 0 → IsOnWay ns ts n (next ts i (first_of rest)) (behind_of rest)
on_way_down ns ts n i rest tree on inside other some =
    let above : 0 < next ts i (first_of rest) = omega arith in
    let later : i < next ts i (first_of rest) = tree.later i (first_of rest) inside above in
    let within : next ts i (first_of rest) < length ns = tree.inside i (first_of rest) inside in
    record {
      there = λ low. absurd (omega arith);
      back = λ j found.
          let steps : length ns ≡ suc (length ns - 1) = omega arith in
          search (rules, led, length, Some, led_more, next, first_of, behind_of, led_down);
      joins = λ ms us steps j extends found.
          let number = extends.number i inside in
          let way = extends.way i (first_of rest) inside above in
          let same : led ms us n steps (next us i (first_of rest)) (behind_of rest) ≡ Some j = rw way found in
          let up : led ms us n (suc steps) i rest ≡ Some j = search (rules, led_down) in
          led_more ms us n (suc steps + i) (steps + next ts i (first_of rest)) 0 (digits_of n) j (omega arith) (on.joins ms us (suc steps) j extends up);
    }

-- where the way ends the number is of no page
pub none_at_end : (ns : List ℕ) (ts : List (List ℕ)) (n i rest : ℕ) → IsTree ns ts → IsOnWay ns ts n i rest
    → slice_index ns i ≢ n → next ts i (first_of rest) ≡ 0 → (j : ℕ) → j < length ns → slice_index ns j ≡ n → ⊥
none_at_end ns ts n i rest tree on other none j below same = search (rules, led, length, digits_of, Some, led_end)

pub free_at_end : (ns : List ℕ) (ts : List (List ℕ)) (n i rest : ℕ) → IsTree ns ts → IsOnWay ns ts n i rest → i < length ns
    → slice_index ns i ≢ n → next ts i (first_of rest) ≡ 0 → IsFree ns ts n i (first_of rest)
free_at_end ns ts n i rest tree on inside other none = record {
  new = none_at_end ns ts n i rest tree on other none;
  low = omega arith;
  there = omega arith;
  first = λ e. absurd (omega arith);
  unused = none;
  joins = λ ms us extends last joined.
      let above : 0 < length ns = omega arith in
      let number = extends.number i inside in
      let here : led ms us n 1 (length ns) (behind_of rest) ≡ Some (length ns) = led_here ms us n 0 (length ns) (behind_of rest) last in
      let up : led ms us n 2 i rest ≡ Some (length ns) = search (rules, led_down) in
      led_more ms us n (2 + i) (length ns + 1) 0 (digits_of n) (length ns) (omega arith) (on.joins ms us 2 (length ns) extends up);
}

pub free_first : (ns : List ℕ) (ts : List (List ℕ)) (n : ℕ) → length ns ≡ 0 → next ts 0 0 ≡ 0 → IsFree ns ts n 0 0
free_first ns ts n none unused = record {
  new = λ j below same. omega arith;
  low = omega arith;
  there = omega arith;
  first = λ e. refl;
  unused = unused;
  joins = λ ms us extends last joined.
      let last_is : slice_index ms 0 ≡ n = rw none at last in
      rw none (led_here ms us n 0 0 (digits_of n) last_is);
}
