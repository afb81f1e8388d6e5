-- Words whose bits are 1
use Rattle.trace_record.proofs.LowerLaws.{rules, ◌≡◌, ◌≢◌, ◌==◌, ◌+◌, ◌*◌, ◌/◌, ◌%◌, ◌^◌, ◌<◌, ◌≤◌, ◌∙◌, ◌&&◌, ◌||◌, ℕ, Bool, true, false, refl, arith, ap, inl, inr, not, cond-true, cond-false, eq-eqb, ne_eqb, nat_le, nat_lt, cases_eq, nat_tests, bit_and, bit_not, bit_or, bit_at, w64, put, is_in, is_marked, either_bit, cleared_here, cleared_other}

pub put_here : (f : ℕ → ℕ) (n x m : ℕ) → m ≡ n → put f n x m ≡ x
put_here f n x m same = cond-true (m == n) x (f m) (eq-eqb m n same)

pub put_other : (f : ℕ → ℕ) (n x m : ℕ) → m ≢ n → put f n x m ≡ f m
put_other f n x m apart = cond-false (m == n) x (f m) (ne_eqb m n apart)

-- the bit of a word by its group and place
pub marked_at : (f : ℕ → ℕ) (g i a : ℕ) → a / 256 ≡ g → a / 4 % 64 ≡ i → is_marked f a ≡ nat_lt 0 (bit_at (f g) i)
marked_at f g i a group index = ap (λ h. nat_lt 0 (bit_at (f h) (a / 4 % 64))) group ∙ ap (λ j. nat_lt 0 (bit_at (f g) j)) index

pub in_group : (a g : ℕ) → a / 256 ≡ g → 64 * g + a / 4 % 64 ≡ a / 4
in_group a g group = omega (arith, group)

pub between : (x y z : ℕ) → x ≤ y → y < z → (nat_le x y && nat_lt y z) ≡ true
between x y z low high = grind (arith, nat_tests, low, high)

pub low_of : (x y z : ℕ) → (nat_le x y && nat_lt y z) ≡ true → x ≤ y
low_of x y z both = grind (arith, nat_tests, both)

pub high_of : (x y z : ℕ) → (nat_le x y && nat_lt y z) ≡ true → y < z
high_of x y z both = grind (arith, nat_tests, both)

-- where a word lies by its number, and by its address
by_number : (x y words a from : ℕ) → a ≡ 4 * x → from ≡ 4 * y → (nat_le y x && nat_lt x (y + words)) ≡ is_in a from (4 * words)
by_number x y words a from of_a of_from = grind (arith, nat_tests, of_a, of_from)

-- the words of one group are soiled
module _ (old new : ℕ → ℕ) (from words g mask a : ℕ) where
  pub soiled_part :
      from % 4 ≡ 0 → a % 4 ≡ 0 →
      ((i : ℕ) → i < 64 → nat_lt 0 (bit_at mask i) ≡ (nat_le (from / 4) (64 * g + i) && nat_lt (64 * g + i) (from / 4 + words))) →
      ((h : ℕ) → new h ≡ put old g (bit_or (old g) mask) h) →
      is_marked new a ≡ ((is_in a from (4 * words) && a / 256 == g) || is_marked old a)
  soiled_part aligned place masked set = elim (cases_eq (a / 256) g) [
    | inl here ↦
        let is_inside : nat_lt 0 (bit_at mask (a / 4 % 64)) ≡ is_in a from (4 * words) =
        masked (a / 4 % 64) (omega arith) ∙ ap (λ x. nat_le (from / 4) x && nat_lt x (from / 4 + words)) (in_group a g here)
        ∙ by_number (a / 4) (from / 4) words a from (omega (arith, place)) (omega (arith, aligned)) in
        marked_at new g (a / 4 % 64) a here refl ∙ ap (λ b. nat_lt 0 (bit_at b (a / 4 % 64))) (set g ∙ put_here old g (bit_or (old g) mask) g refl) ∙ either_bit (old g) mask (a / 4 % 64)
        ∙ one_here (nat_lt 0 (bit_at (old g) (a / 4 % 64))) (nat_lt 0 (bit_at mask (a / 4 % 64))) (is_in a from (4 * words)) (a / 256 == g) (is_marked old a) is_inside (eq-eqb (a / 256) g here)
        (marked_at old g (a / 4 % 64) a here refl)
    | inr other ↦
        ap (λ b. nat_lt 0 (bit_at b (a / 4 % 64))) (set (a / 256) ∙ put_other old g (bit_or (old g) mask) (a / 256) other)
        ∙ none_here (is_in a from (4 * words)) (a / 256 == g) (is_marked old a) (ne_eqb (a / 256) g other)
  ]
    where
      one_here : (x m inside here was : Bool) → m ≡ inside → here ≡ true → was ≡ x → (x || m) ≡ ((inside && here) || was)
      one_here x m inside here was i h w = grind arith

      none_here : (inside here was : Bool) → here ≡ false → was ≡ ((inside && here) || was)
      none_here inside here was h = grind arith

-- one word is written
module _ (old new : ℕ → ℕ) (at bits : ℕ) (aligned : at % 4 ≡ 0) (held : bits ≡ old (at / 256))
    (set : (h : ℕ) → new h ≡ put old (at / 256) (bit_and bits (bit_not w64 (2 ^ (at / 4 % 64)))) h) where
  pub cleared : (a : ℕ) → a % 4 ≡ 0 → (is_marked old a && not (a == at)) ≡ is_marked new a
  cleared a place = search (rules, is_marked, marked_at, nat_lt, bit_at, cleared_here, cleared_other, put_other)
