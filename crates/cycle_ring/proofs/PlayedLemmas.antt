-- What memory holds at an address after writes
use Rattle.cycle_ring.proofs.Words.{rules, ◌≡◌, ◌≢◌, ◌+◌, ◌∷◌, ◌∙◌, ◌==◌, ◌⊎◌, ℕ, suc, List, [], arith, refl, ap, sym, inl, inr, Contains, eqb-true, cases_Bool, nat_tests, put, Block, block_at, played}

-- an element is contained in front of others, and behind another
pub Contains-here : {A : Type 0} (x : A) (xs : List A) → Contains (x ∷ xs) x
Contains-here x xs = (0, omega arith, refl)

pub Contains-there : {A : Type 0} (y : A) (xs : List A) (x : A) → Contains xs x → Contains (y ∷ xs) x
Contains-there y xs x (k, within, same) = (suc k, omega arith, same)

pub Contains-cons : {A : Type 0} (y : A) (xs : List A) (x : A) → Contains (y ∷ xs) x → (y ≡ x) ⊎ Contains xs x
Contains-cons y xs x x3 = search rules

-- equal writes have one address and one word
pub same_address : (p q : ℕ × ℕ) → p ≡ q → q.0 ≡ p.0
same_address p q same = sym (ap (λ r. r.0) same)

pub same_word : (p q : ℕ × ℕ) → p ≡ q → q.1 ≡ p.1
same_word p q same = sym (ap (λ r. r.1) same)

-- a word that a write puts at its own address, and elsewhere
put-same : (memory : ℕ → ℕ) (a v x : ℕ) → x ≡ a → put memory a v x ≡ v
put-same memory a v x same = grind (arith, nat_tests)

put-other : (memory : ℕ → ℕ) (a v x : ℕ) → x ≢ a → put memory a v x ≡ memory x
put-other memory a v x other = grind (arith, nat_tests)

-- where each write of this address writes v, which is there before them, it stands there after them
pub played-agree :
    (memory : ℕ → ℕ) (writes : List (ℕ × ℕ)) (x v : ℕ)
    → ((u : ℕ) → Contains writes (x, u) → u ≡ v) → memory x ≡ v → played memory writes x ≡ v
played-agree memory [] x v agree before = before
played-agree memory ((a, u) ∷ rest) x v agree before =
    let later : (w : ℕ) → Contains rest (x, w) → w ≡ v = λ w h. agree w (Contains-there (a, u) rest (x, w) h) in
    elim (cases_Bool (x == a)) [
      | inl here ↦
          let same : x ≡ a = eqb-true x a here in
          let is_v : u ≡ v = agree u (rw same (Contains-here (a, u) rest)) in
          played-agree (put memory a u) rest x v later (put-same memory a u x same ∙ is_v)
      | inr elsewhere ↦
          let other : x ≢ a = grind (arith, nat_tests, elsewhere) in
          played-agree (put memory a u) rest x v later (put-other memory a u x other ∙ before)
    ]

-- where v is written at an address, and nothing else, it stands there after the writes
pub played-written :
    (memory : ℕ → ℕ) (writes : List (ℕ × ℕ)) (x v : ℕ)
    → Contains writes (x, v) → ((u : ℕ) → Contains writes (x, u) → u ≡ v) → played memory writes x ≡ v
played-written memory [] x v (k, within, same) agree = absurd (omega arith)
played-written memory ((a, u) ∷ rest) x v contained agree =
    let later : (w : ℕ) → Contains rest (x, w) → w ≡ v = λ w h. agree w (Contains-there (a, u) rest (x, w) h) in
    elim (Contains-cons (a, u) rest (x, v) contained) [
      | inl here ↦
          let same : x ≡ a = same_address (a, u) (x, v) here in
          let is_v : u ≡ v = sym (same_word (a, u) (x, v) here) in
          played-agree (put memory a u) rest x v later (put-same memory a u x same ∙ is_v)
      | inr behind ↦ played-written (put memory a u) rest x v behind later
    ]

-- a word that is not written stays
pub played-elsewhere :
    (memory : ℕ → ℕ) (writes : List (ℕ × ℕ)) (x : ℕ)
    → ((u : ℕ) → Contains writes (x, u) → ⊥) → played memory writes x ≡ memory x
played-elsewhere memory writes x never = played-agree memory writes x (memory x) (λ u h. absurd (never u h)) refl

-- a block is known by its four words
pub block_at-words :
    (memory : ℕ → ℕ) (a w0 w1 w2 w3 : ℕ) → memory a ≡ w0 → memory (a + 4) ≡ w1 → memory (a + 8) ≡ w2 → memory (a + 12) ≡ w3
    → block_at memory a ≡ (let b : Block = record { w = w0 ∷ w1 ∷ w2 ∷ w3 ∷ [] } in b)
block_at-words memory a w0 w1 w2 w3 e0 e1 e2 e3 = rw (e0, e1, e2, e3) refl
