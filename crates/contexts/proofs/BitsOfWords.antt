-- The bits of a word, and what doesn't change where none of them is 1
use Rattle.std.proofs.Common.{◌≡◌, ◌+◌, ◌-◌, ◌*◌, ◌/◌, ◌%◌, ◌^◌, ◌==◌, ◌<◌, ◌≤◌, ℕ, true, false, zero, suc, ap, sym, ◌∙◌, arith, refl, inl, inr}
use Rattle.std.specs.Prelude.{◌&&◌, nat_le}
use Rattle.std.specs.Int.{bit_at, w64}
use Rattle.std.specs.Int.Count.{count_trailing_zeros, trailing_of_zero}
use Rattle.std.proofs.Math.Nat.{div-div-eq-div-mul, div-le_self}
use Rattle.std.proofs.lemmas.Bool.{cases_eq, cases_lt}
use Rattle.std.proofs.lemmas.Bool.Decides.{nat_tests}
use Rattle.std.proofs.lemmas.Nat.{pow-add}
use Rattle.std.proofs.lemmas.Nat.Bits.{bit_at-trailing_zeros, bit_at-zero}
use Rattle.contexts.specs.declared.size.ContextSize.{ContextSize}
use Rattle.contexts.specs.declared.size.ContextSize.TheVariants.{Bytes32, Bytes64}
use Rattle.contexts.specs.Contexts.{has_flag, input_context_bytes}

-- an input context has flags
pub has_room : (size : ContextSize) → 8 ≤ input_context_bytes size
has_room Bytes32 = omega arith
has_room Bytes64 = omega arith

-- the bits of what is left of a word behind the first ones
pub bit_behind : (word from j : ℕ) → bit_at (word / 2 ^ from) j ≡ bit_at word (from + j)
bit_behind word from j = ap (λ n. n % 2) (div-div-eq-div-mul word (2 ^ from) (2 ^ j) ∙ ap (λ n. word / n) (sym (pow-add 2 from j)))

positive : (n : ℕ) → (n ≡ 0 → ⊥) → 0 < n
positive zero some = absurd (some refl)
positive (suc n) some = omega arith

pub flag_is : (word i b : ℕ) → bit_at word i ≡ b → has_flag word i ≡ (b == 1)
flag_is word i b is = ap (λ n. n == 1) is

-- the first bit from an index on that is 1, and those before it
module _ (word from x : ℕ) (same : x ≡ word) (fits : x < 2 ^ 64) where
  abbrev pub first : ℕ
  first = count_trailing_zeros 64 (x / 2 ^ from)

  here : (j : ℕ) → bit_at (x / 2 ^ from) j ≡ bit_at word (from + j)
  here j = bit_behind x from j ∙ ap (λ n. bit_at n (from + j)) same

  lowest : (x / 2 ^ from ≡ 0 → ⊥) → (first < 64) × (bit_at (x / 2 ^ from) first ≡ 1) × ((i : ℕ) → i < first → bit_at (x / 2 ^ from) i ≡ 0)
  lowest some = bit_at-trailing_zeros w64 (x / 2 ^ from) (positive (x / 2 ^ from) some) (let small = div-le_self x (2 ^ from) in omega (arith, small, fits))

  pub flag_found : from + first < 32 → has_flag word (from + first) ≡ true
  flag_found low = elim (cases_eq (x / 2 ^ from) 0) [
    | inl none ↦ let far : first ≡ 64 = ap (count_trailing_zeros 64) none ∙ trailing_of_zero 64 in absurd (omega (arith, low, far))
    | inr some ↦ flag_is word (from + first) 1 (sym (here first) ∙ (lowest some).1)
  ]

  clear_at : (j : ℕ) → j < first → bit_at (x / 2 ^ from) j ≡ 0
  clear_at j low = elim (cases_eq (x / 2 ^ from) 0) [
    | inl none ↦ ap (λ n. bit_at n j) none ∙ bit_at-zero j
    | inr some ↦ (lowest some).2 j low
  ]

  pub flag_clear : (i : ℕ) → from ≤ i → i < from + first → has_flag word i ≡ false
  flag_clear i low high =
      let there : from + (i - from) ≡ i = omega (arith, low) in
      flag_is word i 0 (ap (bit_at word) (sym there) ∙ sym (here (i - from)) ∙ clear_at (i - from) (omega (arith, high, there)))

-- a word without its two lowest bits has the other ones
low_flag : (word i : ℕ) → i < 2 → has_flag (word / 4 * 4) i ≡ false
low_flag word zero low = flag_is (word / 4 * 4) 0 0 (let e : word / 4 * 4 / 2 ^ 0 % 2 ≡ 0 = omega arith in e)
low_flag word (suc zero) low = flag_is (word / 4 * 4) 1 0 (let e : word / 4 * 4 / 2 ^ 1 % 2 ≡ 0 = omega arith in e)
low_flag word (suc (suc i)) low = absurd (omega (arith, low))

high_flag : (word i : ℕ) → 2 ≤ i → has_flag (word / 4 * 4) i ≡ has_flag word i
high_flag word i high =
    let there : 2 + (i - 2) ≡ i = omega (arith, high) in
    let same : word / 4 * 4 / 2 ^ 2 ≡ word / 2 ^ 2 = omega arith in
    ap (λ n. n == 1)
    (ap (bit_at (word / 4 * 4)) (sym there) ∙ sym (bit_behind (word / 4 * 4) 2 (i - 2)) ∙ ap (λ n. bit_at n (i - 2)) same ∙ bit_behind word 2 (i - 2) ∙ ap (bit_at word) there)

pub above_control : (word i : ℕ) → has_flag (word / 4 * 4) i ≡ (nat_le 2 i && has_flag word i)
above_control word i = elim (cases_lt i 2) [
  | inl low ↦
      let not_two : nat_le 2 i ≡ false = grind (arith, nat_tests, low) in
      low_flag word i low ∙ sym (ap (λ b. b && has_flag word i) not_two)
  | inr high ↦
      let two : nat_le 2 i ≡ true = grind (arith, nat_tests, high) in
      high_flag word i high ∙ sym (ap (λ b. b && has_flag word i) two)
]

module _ {X : Type 0} (F : ℕ → X) where
  same_by : (n i : ℕ) → ((s : ℕ) → i ≤ s → s < i + n → F s ≡ F (s + 1)) → F i ≡ F (i + n)
  same_by zero i same = ap F (let e : i ≡ i + 0 = omega arith in e)
  same_by (suc n) i same =
      same i (omega arith) (omega arith) ∙ same_by n (i + 1) (λ s low high. same s (omega (arith, low)) (omega (arith, high)))
      ∙ ap F (let e : i + 1 + n ≡ i + suc n = omega arith in e)

  -- what is the same at each number as behind it
  pub unchanged : (i j : ℕ) → i ≤ j → ((s : ℕ) → i ≤ s → s < j → F s ≡ F (s + 1)) → F i ≡ F j
  unchanged i j low same =
      let there : i + (j - i) ≡ j = omega (arith, low) in
      same_by (j - i) i (λ s a b. same s a (omega (arith, b, there))) ∙ ap F there
