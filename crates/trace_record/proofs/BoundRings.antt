-- Which rings unfinished commands bind, where these commands and what they read stay the same
use Rattle.trace_record.proofs.BaseWords.{rules, ◌≡◌, ◌∷◌, ◌||◌, ℕ, Bool, List, [], inl, inr, refl, map, list_any, Command, Header, Known, unfinished, is_off, IsIn, binding_in, binds, binds_ring, is_being_bound}

-- two tests of the elements of a list alone
pub any_in : {X : Type 0} (p q : X → Bool) (xs : List X) → ((x : X) → IsIn x xs → p x ≡ q x) → list_any p xs ≡ list_any q xs
any_in p q [] same = refl
any_in p q (x ∷ xs) same = λ i. same x (inl refl) i || any_in p q xs (λ y at. same y (inr at)) i

module _ (h : Header) (k l : Known) where
  -- the words of memory, and whether each default control endpoint is off, are all that is read
  pub binds_same : l.memory ≡ k.memory → ((s : ℕ) → is_off (l.endpoint_state s 1) ≡ is_off (k.endpoint_state s 1)) → (c : Command) → binds h l c ≡ binds h k c
  unfolding binds binding_in
  binds_same h1 h2 c = search (rules, map)

  pub bound_same : unfinished h l ≡ unfinished h k → ((c : Command) → binds h l c ≡ binds h k c) → (r : ℕ) → is_being_bound h l r ≡ is_being_bound h k r
  unfolding is_being_bound binds_ring
  bound_same same each r = search (rules, list_any, unfinished)
