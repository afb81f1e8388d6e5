-- The endpoints that an input context adds, one after another
use Rattle.world_state.proofs.Words.{placed_by_context, input_add_flag, ContextSize, range_with_len, cond-true, cond-false, ◌≡◌, ◌+◌, ◌-◌, ◌<◌, ◌∷◌, ℕ, suc, true, false, [], ap, arith, places_from}

module _ (size : ContextSize) (memory : ℕ → ℕ) (s a i : ℕ) where
  range_is : i < 32 → range_with_len i (32 - i) ≡ i ∷ range_with_len (i + 1) (32 - (i + 1))
  range_is below = ap (λ n. range_with_len i n) (let e : 32 - i ≡ suc (32 - (i + 1)) = omega arith in e)

  pub adds_next : i < 32 → input_add_flag memory a i ≡ true → places_from size memory s a i ≡ placed_by_context size memory s a i ∷ places_from size memory s a (i + 1)
  adds_next below e = grind (arith, range_is, cond-true)

  pub adds_later : i < 32 → input_add_flag memory a i ≡ false → places_from size memory s a i ≡ places_from size memory s a (i + 1)
  adds_later below e = grind (arith, range_is, cond-false)

pub adds_end : (size : ContextSize) (memory : ℕ → ℕ) (s a i : ℕ) → i ≡ 32 → places_from size memory s a i ≡ []
adds_end size memory s a i e = grind arith
