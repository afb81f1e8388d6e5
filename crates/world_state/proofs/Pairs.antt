-- Functions of two numbers that are set at one pair
use Rattle.world_state.proofs.Words.{put_pair, cond-true, cond-false, ◌≡◌, ◌≢◌, ◌==◌, ◌&&◌, ℕ, ap, refl, Bool, arith, eq-eqb, ne_eqb}

pub put_pair_same : {A : Type 0} (f : ℕ → ℕ → A) (s i : ℕ) (x : A) → put_pair f s i x s i ≡ x
put_pair_same f s i x = cond-true (s == s && i == i) x (f s i) (λ k. eq-eqb s s refl k && eq-eqb i i refl k)

pub put_pair_slot : {A : Type 0} (f : ℕ → ℕ → A) (s i t j : ℕ) (x : A) → t ≢ s → put_pair f s i x t j ≡ f t j
put_pair_slot f s i t j x apart = cond-false (t == s && j == i) x (f t j) (ap (λ b. b && j == i) (ne_eqb t s apart))

pub put_pair_index : {A : Type 0} (f : ℕ → ℕ → A) (s i t j : ℕ) (x : A) → j ≢ i → put_pair f s i x t j ≡ f t j
put_pair_index f s i t j x apart = grind (arith, cond-false, ne_eqb, Bool)
