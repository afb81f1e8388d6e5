-- A descriptor that is withdrawn: what is declared by position then
use Rattle.controller_model.proofs.Words.{rules, replicate, All-head, All-tail, length_from, no_op, no_ops, split_at, length-no_ops, split_all, lone_no_op, withdrawn, withdrawn_from, ◌≡◌, ◌≢◌, ◌+◌, ◌-◌, ◌<◌, ◌≤◌, ◌==◌, ◌||◌, ◌++◌, ◌∷◌, ◌∙◌, ◌⊎◌, ℕ, zero, suc, [], All, Bool, List, Option, Some, length, true, false, refl, sym, ap, subst, arith, inl, inr, set, slice_get, slice_get_within, same_Some, option_map, eq-eqb, eqb-true, ne_eqb, or_left, or_right, false≢true, cases_Bool, cases_eq, cases_lt, cond-true, cond-false, Block, DeclaredBlock, declared_at, is_border, Declared, Declarations, Declares, as_declared, blocks_of}

-- ---- the blocks

-- one block more of the descriptor
pub goes_on : (xs : List Declared) (p : ℕ) (d : Declared) → slice_get xs p ≡ Some d → d.ends ≡ false → withdrawn_from (set xs p lone_no_op) (p + 1) ≡ withdrawn_from xs p
goes_on xs p d at e = ap (λ n. withdrawn_from (set xs p lone_no_op) n) (let same : p + 1 ≡ suc p = omega arith in same) ∙ by xs p at
  where
    from_start : (rest : List Declared) → withdrawn_from rest zero ≡ withdrawn rest
    from_start [] = refl
    from_start (y ∷ rest) = refl

    by : (ys : List Declared) (n : ℕ) → slice_get ys n ≡ Some d → withdrawn_from (set ys n lone_no_op) (suc n) ≡ withdrawn_from ys n
    by [] n found = absurd (cc)
    by (y ∷ rest) zero found =
        let same : y ≡ d = cc in
        ap (λ zs. lone_no_op ∷ zs) (from_start rest ∙ sym (cond-false y.ends rest (withdrawn rest) (ap (λ (z : Declared). z.ends) same ∙ e)))
    by (y ∷ rest) (suc n) found = ap (λ zs. y ∷ zs) (by rest n found)

pub ends_here : (xs : List Declared) (p : ℕ) (d : Declared) → slice_get xs p ≡ Some d → d.ends ≡ true → set xs p lone_no_op ≡ withdrawn_from xs p
ends_here [] p d at e = absurd (cc)
ends_here (y ∷ rest) zero d at e = grind (arith, cond-true)
ends_here (y ∷ rest) (suc p) d at e = ap (λ zs. y ∷ zs) (ends_here rest p d at e)

pub none_behind : (xs : List Declared) (p : ℕ) → length xs ≤ p → withdrawn_from xs p ≡ xs
none_behind [] p past = refl
none_behind (y ∷ rest) zero past = absurd (omega arith)
none_behind (y ∷ rest) (suc p) past = ap (λ zs. y ∷ zs) (none_behind rest p (omega arith))

length-withdrawn : (xs : List Declared) → length (withdrawn xs) ≡ length xs
length-withdrawn [] = refl
length-withdrawn (d ∷ rest) = grind (arith, cases_Bool, length-withdrawn rest)

length-withdrawn_from : (xs : List Declared) (p : ℕ) → length (withdrawn_from xs p) ≡ length xs
length-withdrawn_from [] p = refl
length-withdrawn_from (d ∷ rest) zero = length-withdrawn (d ∷ rest)
length-withdrawn_from (d ∷ rest) (suc p) = ap suc (length-withdrawn_from rest p)

-- the block at position e is the first from p on that ends a descriptor
record IsEnd (xs : List Declared) (p e : ℕ) : Type 0 where
  from : p ≤ e
  inside : e < length xs
  before : (q : ℕ) (d : Declared) → p ≤ q → q < e → slice_get xs q ≡ Some d → d.ends ≡ false
  here : (q : ℕ) (d : Declared) → q ≡ e → slice_get xs q ≡ Some d → d.ends ≡ true

behind : (d : Declared) (rest : List Declared) (from p e : ℕ) → from ≤ suc p → p ≤ e → IsEnd (d ∷ rest) from (suc e) → IsEnd rest p e
behind d rest from p e near within is = record {
  from = within;
  inside = omega (arith, is.inside);
  before = λ q x low high at. is.before (suc q) x (omega arith) (omega arith) at;
  here = λ q x same at. is.here (suc q) x (omega arith) at;
}

run_here : (xs : List Declared) (e q : ℕ) → IsEnd xs zero e → q ≤ e → slice_get (withdrawn xs) q ≡ Some lone_no_op
run_here [] e q is within = absurd (omega (arith, is.inside))
run_here (d ∷ rest) e zero is within = refl
run_here (d ∷ rest) zero (suc q) is within = absurd (omega arith)
run_here (d ∷ rest) (suc e) (suc q) is within =
    rw (is.before 0 d (omega arith) (omega arith) refl) (run_here rest e q (behind d rest zero zero e (omega arith) (omega arith) is) (omega arith))

run_past : (xs : List Declared) (e q : ℕ) → IsEnd xs zero e → e < q → slice_get (withdrawn xs) q ≡ slice_get xs q
run_past [] e q is past = absurd (omega (arith, is.inside))
run_past (d ∷ rest) e zero is past = absurd (omega arith)
run_past (d ∷ rest) zero (suc q) is past = rw (is.here 0 d refl refl) refl
run_past (d ∷ rest) (suc e) (suc q) is past = grind (arith, run_past rest e q (behind d rest zero zero e (omega arith) (omega arith) is) (omega arith))

from_here : (xs : List Declared) (p e q : ℕ) → IsEnd xs p e → p ≤ q → q ≤ e → slice_get (withdrawn_from xs p) q ≡ Some lone_no_op
from_here [] p e q is low high = absurd (omega (arith, is.inside))
from_here (d ∷ rest) zero e q is low high = run_here (d ∷ rest) e q is high
from_here (d ∷ rest) (suc p) zero q is low high = absurd (omega (arith, is.from))
from_here (d ∷ rest) (suc p) (suc e) zero is low high = absurd (omega arith)
from_here (d ∷ rest) (suc p) (suc e) (suc q) is low high = from_here rest p e q (behind d rest (suc p) p e (omega arith) (omega (arith, is.from)) is) (omega arith) (omega arith)

from_elsewhere : (xs : List Declared) (p e q : ℕ) → IsEnd xs p e → (q < p) ⊎ (e < q) → slice_get (withdrawn_from xs p) q ≡ slice_get xs q
from_elsewhere [] p e q is out = refl
from_elsewhere (d ∷ rest) zero e q is out = elim out [ inl low ↦ absurd (omega arith) | inr high ↦ run_past (d ∷ rest) e q is high ]
from_elsewhere (d ∷ rest) (suc p) e zero is out = refl
from_elsewhere (d ∷ rest) (suc p) zero (suc q) is out = absurd (omega (arith, is.from))
from_elsewhere (d ∷ rest) (suc p) (suc e) (suc q) is out = grind (arith, from_elsewhere rest p e q (behind d rest (suc p) p e (omega arith) (omega (arith, is.from)) is) (elim out [ inl low ↦ inl (omega arith) | inr high ↦ inr (omega arith) ]))

no_ops_here : (xs : List Block) (p n q : ℕ) → p + n ≤ length xs → p ≤ q → q < p + n → slice_get (no_ops xs p n) q ≡ Some no_op
unfolding no_ops
no_ops_here [] p n q fits low high = absurd (omega arith)
no_ops_here (b ∷ rest) zero zero q fits low high = absurd (omega arith)
no_ops_here (b ∷ rest) zero (suc n) zero fits low high = refl
no_ops_here (b ∷ rest) zero (suc n) (suc q) fits low high = no_ops_here rest zero n q (omega arith) (omega arith) (omega arith)
no_ops_here (b ∷ rest) (suc p) n zero fits low high = absurd (omega arith)
no_ops_here (b ∷ rest) (suc p) n (suc q) fits low high = no_ops_here rest p n q (omega arith) (omega arith) (omega arith)

no_ops_elsewhere : (xs : List Block) (p n q : ℕ) → (q < p) ⊎ (p + n ≤ q) → slice_get (no_ops xs p n) q ≡ slice_get xs q
unfolding no_ops
no_ops_elsewhere [] p n q out = refl
no_ops_elsewhere (b ∷ rest) zero zero q out = refl
no_ops_elsewhere (b ∷ rest) zero (suc n) zero out = elim out [ inl low ↦ absurd (omega arith) | inr high ↦ absurd (omega arith) ]
no_ops_elsewhere (b ∷ rest) zero (suc n) (suc q) out = grind (arith, no_ops_elsewhere rest zero n q (elim out [ inl low ↦ absurd (omega arith) | inr high ↦ inr (omega arith) ]))
no_ops_elsewhere (b ∷ rest) (suc p) n zero out = refl
no_ops_elsewhere (b ∷ rest) (suc p) n (suc q) out = grind (arith, no_ops_elsewhere rest p n q (elim out [ inl low ↦ inl (omega arith) | inr high ↦ inr (omega arith) ]))

-- ---- where descriptors begin

border_start : (lengths : List ℕ) (s : ℕ) → is_border lengths s s ≡ true
unfolding is_border
border_start [] s = eq-eqb s s refl
border_start (n ∷ rest) s = ap (λ b. b || is_border rest (s + n) s) (eq-eqb s s refl)

border_below : (lengths : List ℕ) (s q : ℕ) → q < s → is_border lengths s q ≡ false
unfolding is_border
border_below [] s q low = ne_eqb s q (λ e. omega arith)
border_below (n ∷ rest) s q low = (λ i. ne_eqb s q (λ e. omega arith) i || border_below rest (s + n) q (omega arith) i)

-- no descriptor begins there
pub begins_none : (lengths : List ℕ) (s p : ℕ) → is_border lengths s p ≡ false → (length_from lengths s p ≡ 0) × (split_at lengths s p ≡ lengths)
unfolding is_border length_from split_at
begins_none [] s p none = (refl, refl)
begins_none (n ∷ rest) s p none = elim (cases_Bool (s == p)) [
  | inl here ↦ absurd (false≢true (sym none ∙ rw here refl))
  | inr e ↦ let later = begins_none rest (s + n) p (rw e at none) in rw (e, later.0, later.1) (refl, refl)
]

pub begins_past : (lengths : List ℕ) (s p : ℕ) → All (λ n. 0 < n) lengths → s + blocks_of lengths ≤ p → (length_from lengths s p ≡ 0) × (split_at lengths s p ≡ lengths)
unfolding length_from split_at
begins_past [] s p some past = (refl, refl)
begins_past (n ∷ rest) s p some past = grind (arith, All-head, ne_eqb, All-tail, begins_past rest (s + n) p (All-tail (λ m. 0 < m) n rest some) (omega arith))

-- the descriptor that begins at p
record IsDescriptor (lengths : List ℕ) (s p : ℕ) : Type 0 where
  some : 0 < length_from lengths s p
  within : p + length_from lengths s p ≤ s + blocks_of lengths
  ends : is_border lengths s (p + length_from lengths s p) ≡ true
  whole : (q : ℕ) → p < q → q < p + length_from lengths s p → is_border lengths s q ≡ false

begins_first : (n : ℕ) (rest : List ℕ) (s p : ℕ) → 0 < n → s ≡ p → IsDescriptor (n ∷ rest) s p
unfolding is_border length_from
begins_first n rest s p positive here = search (rules, cond-true, eq-eqb, or_right, border_start, ne_eqb, border_below)

begins_later : (n : ℕ) (rest : List ℕ) (s p : ℕ) → s ≢ p → s + n ≤ p → IsDescriptor rest (s + n) p → IsDescriptor (n ∷ rest) s p
unfolding is_border length_from
begins_later n rest s p apart from found = search (rules, cond-false, ne_eqb, or_right)

begins_one : (lengths : List ℕ) (s p : ℕ) → All (λ n. 0 < n) lengths → is_border lengths s p ≡ true → p < s + blocks_of lengths → IsDescriptor lengths s p
unfolding is_border
begins_one [] s p some begins within = absurd (omega (arith, eqb-true s p begins))
begins_one (n ∷ rest) s p some begins within =
    elim (cases_eq s p) [
      | inl here ↦ begins_first n rest s p (All-head (λ m. 0 < m) n rest some) here
      | inr apart ↦
          let begins_behind : is_border rest (s + n) p ≡ true = ap (λ b. b || is_border rest (s + n) p) (sym (ne_eqb s p apart)) ∙ begins in
          elim (cases_lt p (s + n)) [
            | inl low ↦ absurd (false≢true (sym (border_below rest (s + n) p low) ∙ begins_behind))
            | inr from ↦ begins_later n rest s p apart from (begins_one rest (s + n) p (All-tail (λ m. 0 < m) n rest some) begins_behind (omega (arith, within)))
          ]
    ]

-- behind descriptors of one block: each position up to the last begins or ends one
ones_within : (n : ℕ) (rest : List ℕ) (s q : ℕ) → s ≤ q → q ≤ s + n → is_border (replicate n 1 ++ rest) s q ≡ true
unfolding is_border
ones_within zero rest s q low high = ap (λ m. is_border rest s m) (let same : q ≡ s = omega arith in same) ∙ border_start rest s
ones_within (suc n) rest s q low high =
    elim (cases_eq s q) [
      | inl here ↦ or_left (s == q) (is_border (replicate n 1 ++ rest) (s + 1) q) (eq-eqb s q here)
      | inr past ↦ or_right (s == q) (is_border (replicate n 1 ++ rest) (s + 1) q) (ones_within n rest (s + 1) q (omega (arith, past)) (omega arith))
    ]

ones_past : (n : ℕ) (rest : List ℕ) (s q : ℕ) → s + n < q → is_border (replicate n 1 ++ rest) s q ≡ is_border rest (s + n) q
unfolding is_border
ones_past zero rest s q past = ap (λ m. is_border rest m q) (let same : s ≡ s + 0 = omega arith in same)
ones_past (suc n) rest s q past = grind (arith, ne_eqb, ones_past n rest (s + 1) q (omega arith))

-- a position of the descriptor, or its end
split_within : (lengths : List ℕ) (s p q : ℕ) → 0 < length_from lengths s p → p ≤ q → q ≤ p + length_from lengths s p → is_border (split_at lengths s p) s q ≡ true
unfolding is_border length_from split_at
split_within [] s p q some low high = absurd (omega arith)
split_within (n ∷ rest) s p q some low high = elim (cases_eq s p) [
  | inl here ↦ grind (arith, eq-eqb, ones_within)
  | inr apart ↦
      let is : length_from (n ∷ rest) s p ≡ length_from rest (s + n) p = rw (ne_eqb s p apart) refl in
      rw (ne_eqb s p apart) (or_right (s == q) (is_border (split_at rest (s + n) p) (s + n) q) (split_within rest (s + n) p q (omega (arith, is)) low (omega (arith, is))))
]

-- and elsewhere descriptors begin where they did
split_elsewhere : (lengths : List ℕ) (s p q : ℕ) → (q < p) ⊎ (p + length_from lengths s p < q) → is_border (split_at lengths s p) s q ≡ is_border lengths s q
unfolding is_border length_from split_at
split_elsewhere [] s p q out = refl
split_elsewhere (n ∷ rest) s p q out = elim (cases_eq s p) [
  | inl here ↦
      let is : length_from (n ∷ rest) s p ≡ n = rw (eq-eqb s p here) refl in
      rw (eq-eqb s p here) (elim out [
        | inl low ↦ below q here low
        | inr high ↦ ones_past n rest s q (omega (arith, here, is)) ∙ ap (λ b. b || is_border rest (s + n) q) (sym (ne_eqb s q (λ e. omega (arith, here, is))))
      ])
  | inr apart ↦
      let is : length_from (n ∷ rest) s p ≡ length_from rest (s + n) p = rw (ne_eqb s p apart) refl in
      rw (ne_eqb s p apart) (ap (λ b. s == q || b) (split_elsewhere rest (s + n) p q (elim out [ inl low ↦ inl low | inr high ↦ inr (omega (arith, is)) ])))
]
  where
    below : (q : ℕ) → s ≡ p → q < p → is_border (replicate n 1 ++ rest) s q ≡ is_border (n ∷ rest) s q
    below q here low = border_below (replicate n 1 ++ rest) s q (omega (arith, here)) ∙ sym (border_below (n ∷ rest) s q (omega (arith, here)))

blocks_split : (lengths : List ℕ) (s p : ℕ) → blocks_of (split_at lengths s p) ≡ blocks_of lengths
unfolding split_at
blocks_split [] s p = refl
blocks_split (n ∷ rest) s p = elim (cases_Bool (s == p)) [
  | inl here ↦ rw here (ones n rest)
  | inr later ↦ rw later (ap (λ m. n + m) (blocks_split rest (s + n) p))
]
  where
    ones : (n : ℕ) (rest : List ℕ) → blocks_of (replicate n 1 ++ rest) ≡ n + blocks_of rest
    ones zero rest = omega arith
    ones (suc n) rest = omega (arith, ones n rest)

-- ---- what is declared

-- what is declared tells where a descriptor begins and ends
told_by : (x : Declared) (begins ends : Bool) (o : Option Block) →
    Some (as_declared x) ≡ option_map (λ b. let d : DeclaredBlock = record { block = b; begins = begins; ends = ends } in d) o → (x.begins ≡ begins) × (x.ends ≡ ends)
told_by x begins ends o e = grind (arith, same_Some)

module _ (d : Declarations) (queue : List Block) (lengths : List ℕ) (p : ℕ) (old : Declares d queue lengths) where
  abbrev pub count : ℕ
  count = length_from lengths 0 p

  told : (q : ℕ) (y : Declared) → slice_get d.blocks.items q ≡ Some y → (y.begins ≡ is_border lengths 0 q) × (y.ends ≡ is_border lengths 0 (q + 1))
  unfolding declared_at
  told q y here = told_by y (is_border lengths 0 q) (is_border lengths 0 (q + 1)) (slice_get queue q) (sym (ap (λ o. option_map as_declared o) here) ∙ old.at q)

  -- no descriptor begins there
  withdraws_none : (count ≡ 0) × (split_at lengths 0 p ≡ lengths) → Declares d (no_ops queue p count) (split_at lengths 0 p)
  unfolding no_ops
  withdraws_none none =
      let P : List Block → Type 0 = λ xs. Declares d xs (split_at lengths 0 p) in
      let Q : List ℕ → Type 0 = λ l. Declares d queue l in
      subst P (sym (ap (λ n. no_ops queue p n) none.0 ∙ nothing queue p)) (subst Q (sym none.1) old)
    where
      nothing : (xs : List Block) (n : ℕ) → no_ops xs n 0 ≡ xs
      nothing [] n = refl
      nothing (b ∷ rest) zero = refl
      nothing (b ∷ rest) (suc n) = ap (λ ys. b ∷ ys) (nothing rest n)

  pub withdraws_inside : (x : Declared) → slice_get d.blocks.items p ≡ Some x → x.begins ≡ false → Declares d (no_ops queue p count) (split_at lengths 0 p)
  withdraws_inside x at inside = withdraws_none (begins_none lengths 0 p (sym (told p x at).0 ∙ inside))

  pub withdraws_past : length d.blocks.items ≤ p → Declares d (no_ops queue p count) (split_at lengths 0 p)
  withdraws_past past = withdraws_none (begins_past lengths 0 p old.some (omega (arith, past, old.many, old.whole)))

  -- the descriptor that begins there
  module _ (e : Declarations) (x : Declared) (at : slice_get d.blocks.items p ≡ Some x) (begins : x.begins ≡ true) (made : e.blocks.items ≡ withdrawn_from d.blocks.items p) where
    border : is_border lengths 0 p ≡ true
    border = sym (told p x at).0 ∙ begins

    within : p < length d.blocks.items
    within = slice_get_within d.blocks.items p x at

    found : IsDescriptor lengths 0 p
    found = begins_one lengths 0 p old.some border (omega (arith, within, old.many, old.whole))

    fits : p + count ≤ length queue
    fits = omega (arith, found.within, old.whole)

    end : IsEnd d.blocks.items p (p + count - 1)
    end = search (rules, found, fits, told)

    borders : (q : ℕ) → (q ≤ p) ⊎ (p + count ≤ q) → is_border (split_at lengths 0 p) 0 q ≡ is_border lengths 0 q
    borders q out = search (rules, cases_lt, split_elsewhere, split_within, found, border)

    same_at : (q : ℕ) → (q < p) ⊎ (p + count ≤ q) → option_map as_declared (slice_get e.blocks.items q) ≡ declared_at (no_ops queue p count) (split_at lengths 0 p) q
    unfolding declared_at
    same_at q out =
        let there : slice_get e.blocks.items q ≡ slice_get d.blocks.items q =
        ap (λ xs. slice_get xs q) made
        ∙ from_elsewhere d.blocks.items p (p + count - 1) q end (elim out [ inl low ↦ inl low | inr high ↦ inr (omega (arith, found.some)) ]) in
        let begins_so = borders q (elim out [ inl low ↦ inl (omega arith) | inr high ↦ inr high ]) in
        let ends_so = borders (q + 1) (elim out [ inl low ↦ inl (omega arith) | inr high ↦ inr (omega arith) ]) in
        ap (λ o. option_map as_declared o) there ∙ old.at q
        ∙ (λ i. option_map (λ b. let y : DeclaredBlock = record { block = b; begins = sym begins_so i; ends = sym ends_so i } in y) (sym (no_ops_elsewhere queue p count q out) i))

    here_at : (q : ℕ) → p ≤ q → q < p + count → option_map as_declared (slice_get e.blocks.items q) ≡ declared_at (no_ops queue p count) (split_at lengths 0 p) q
    unfolding declared_at
    here_at q low high =
        let there : slice_get e.blocks.items q ≡ Some lone_no_op = ap (λ xs. slice_get xs q) made ∙ from_here d.blocks.items p (p + count - 1) q end low (omega arith) in
        grind (arith, split_within, found, option_map, no_ops_here)

    pub withdraws_one : Declares e (no_ops queue p count) (split_at lengths 0 p)
    withdraws_one = search (rules, cases_lt, same_at, here_at, length, length-withdrawn_from, length-no_ops, blocks_split, split_all)
