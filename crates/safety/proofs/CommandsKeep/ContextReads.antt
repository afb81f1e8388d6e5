-- What is read of an input context is the same where its words are
use Rattle.safety.proofs.Words.{[], ◌≡◌, ◌+◌, ◌<◌, ◌≤◌, ◌||◌, ◌∷◌, ◌∙◌, ℕ, suc, zero, Bool, List, map, filter, arith, refl, ap, rules, list_any, range_with_len, cond_both, ContextSize, input_context_bytes, input_endpoint, input_add_flag, input_drop_flag, has_flag, added_endpoints, endpoint_type, endpoint_streams, context_pointer, context_cycle}

-- each is the index of an endpoint
abbrev pub AreIndices : List ℕ → Type 0
AreIndices [] = Unit {0}
AreIndices (i ∷ rest) = AreIndices rest × (i < 32)

indices_filter : (test : ℕ → Bool) (a n : ℕ) → a + n ≤ 32 → AreIndices (filter test (range_with_len a n))
indices_filter test a zero high = tt
indices_filter test a (suc n) high = grind (arith, cond_both, indices_filter test (a + 1) n (omega arith))

pub added_indices : (memory : ℕ → ℕ) (n : ℕ) → AreIndices (added_endpoints memory n)
unfolding added_endpoints
added_indices memory n = indices_filter (input_add_flag memory n) 2 30 (omega arith)

-- equal tests and functions of indices
pub any_same : (p q : ℕ → Bool) (xs : List ℕ) → AreIndices xs → ((i : ℕ) → i < 32 → p i ≡ q i) → list_any p xs ≡ list_any q xs
any_same p q [] below same = refl
any_same p q (i ∷ rest) below same = ap (λ b. b || list_any p rest) (same i below.1) ∙ ap (λ b. q i || b) (any_same p q rest below.0 same)

pub map_same : {A : Type 0} (f g : ℕ → A) (xs : List ℕ) → AreIndices xs → ((i : ℕ) → i < 32 → f i ≡ g i) → map f xs ≡ map g xs
map_same f g [] below same = refl
map_same f g (i ∷ rest) below same = ap (λ x. x ∷ map f rest) (same i below.1) ∙ ap (λ xs. g i ∷ xs) (map_same f g rest below.0 same)

-- the words of an endpoint's context lie in the input context
inside : (size : ContextSize) (n i j : ℕ) → i < 32 → j < 32 → (n ≤ input_endpoint size n i + j) × (input_endpoint size n i + j < n + input_context_bytes size)
inside o n i j low short = grind arith

begins : (size : ContextSize) (n j : ℕ) → j < 32 → n + j < n + input_context_bytes size
begins o n j short = grind arith

-- two memories with the same words in an input context
abbrev pub AgreeIn : ContextSize → (ℕ → ℕ) → (ℕ → ℕ) → ℕ → Type 0
AgreeIn size m l n = (x : ℕ) → n ≤ x → x < n + input_context_bytes size → l x ≡ m x

module _ (size : ContextSize) (m l : ℕ → ℕ) (n : ℕ) (same : AgreeIn size m l n) where
  word_of : (i j : ℕ) → i < 32 → j < 32 → l (input_endpoint size n i + j) ≡ m (input_endpoint size n i + j)
  word_of i j low short = let at = inside size n i j low short in same (input_endpoint size n i + j) at.0 at.1

  pub added_same : added_endpoints l n ≡ added_endpoints m n
  unfolding added_endpoints
  added_same = ap (λ w. filter (λ i. has_flag w i) (range_with_len 2 30)) (same (n + 4) (omega arith) (begins size n 4 (omega arith)))

  pub add_flag_same : (i : ℕ) → input_add_flag l n i ≡ input_add_flag m n i
  add_flag_same i = ap (λ w. has_flag w i) (same (n + 4) (omega arith) (begins size n 4 (omega arith)))

  pub drop_flag_same : (i : ℕ) → input_drop_flag l n i ≡ input_drop_flag m n i
  drop_flag_same i = ap (λ w. has_flag w i) (same n (omega arith) (omega (arith, begins size n 0 (omega arith))))

  pub type_same : (i : ℕ) → i < 32 → endpoint_type l (input_endpoint size n i) ≡ endpoint_type m (input_endpoint size n i)
  type_same i low = let w = word_of i 4 low (omega arith) in cc

  pub streams_same : (i : ℕ) → i < 32 → endpoint_streams l (input_endpoint size n i) ≡ endpoint_streams m (input_endpoint size n i)
  streams_same i low = search (rules, inside)

  pub pointer_same : (i : ℕ) → i < 32 → context_pointer size l n i ≡ context_pointer size m n i
  pointer_same i low = search (rules, inside)

  pub cycle_same : (i : ℕ) → i < 32 → context_cycle size l n i ≡ context_cycle size m n i
  cycle_same i low = ap (λ w. has_flag w 0) (word_of i 8 low (omega arith))
