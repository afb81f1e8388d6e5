-- Changes that are made one after another
use Rattle.controller_model.proofs.Words.{◌≡◌, ◌∷◌, ℕ, List, [], Option, Some, refl, arith, option_and_then, ContextSize, context_cycle, context_pointer, Command, Running, Change, placed_by_context, Header, ring_having, World, changed_by, changed_by_all, placed_on}

module _ (h : Header) (c : Command) where
  -- where the rest succeeds, the next one did
  pub record Next (o : Option World) (rest : List Change) (final : World) : Type 0 where
    pub world : World
    pub made : o ≡ Some world
    pub goes_on : changed_by_all h c world rest ≡ Some final

  pub next_of : (o : Option World) (rest : List Change) (final : World) → option_and_then (λ v. changed_by_all h c v rest) o ≡ Some final → Next o rest final
  next_of o rest final e = grind arith

  pub first_of : (w final : World) (s i a : ℕ) (size : ContextSize) (memory : ℕ → ℕ) (rest : List Change) →
      changed_by_all h c w (placed_by_context size memory s a i ∷ rest) ≡ Some final →
      Next (placed_on w s i (context_pointer size memory a i) (context_cycle size memory a i) Running (ring_having h (context_pointer size memory a i))) rest final
  unfolding changed_by_all changed_by
  first_of w final s i a size memory rest e = next_of _ rest final e

  pub all_made : (w final : World) → changed_by_all h c w [] ≡ Some final → w ≡ final
  unfolding changed_by_all
  all_made w final e = cc

  pub none_left : (w : World) → changed_by_all h c w [] ≡ Some w
  unfolding changed_by_all
  none_left w = refl
