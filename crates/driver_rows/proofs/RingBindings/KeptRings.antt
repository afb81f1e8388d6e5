-- Which ring an endpoint has that a command doesn't drop
use Rattle.driver_rows.proofs.LowerLaws.{rules, ◌≡◌, ℕ, ◌+◌, ◌<◌, ◌≤◌, ◌==◌, ◌&&◌, Bool, true, false, Some, refl, ap, sym, ◌∙◌, arith, zero, suc, not, list_any, range_with_len, and_parts, cases_eq, eqb-true, false≢true, nat_tests, is_dropped, Command, ConfigureEndpoint, Header, is_ring, Known, HasEndpoint, drops, is_kept, DriverKeeps, leaves, named, is_same, false_unless, any_nowhere, eq-eqb, or_true}

-- one of the numbers passes
any_at : (f : ℕ → Bool) (n from i : ℕ) → from ≤ i → i < from + n → f i ≡ true → list_any f (range_with_len from n) ≡ true
any_at f zero from i low high is = absurd (omega (arith, low, high))
any_at f (suc n) from i low high is = grind (arith, or_true, cases_eq from i, any_at f n (from + 1) i)

-- the slot and the index of an endpoint that has a ring
pub numbered : (h : Header) (k : Known) → DriverKeeps h k → (s i r : ℕ) → k.ring_of s i ≡ Some r → (0 < s) × (s < 256) × (0 < i) × (i < 32)
numbered h k keeps s i r has = grind (arith, keeps.states.no_endpoint s i, keeps.numbered s i r has)

module _ (h : Header) (k : Known) (keeps : DriverKeeps h k) (c : Command) (r : ℕ) where
  -- the endpoint of slot s with index i has the ring, and the command doesn't drop it
  abbrev stays : ℕ → ℕ → Bool
  stays s i = is_ring r (k.ring_of s i) && not (drops k c s i)

  -- no endpoint has it
  pub none_keeps : ((s i : ℕ) → k.ring_of s i ≡ Some r → ⊥) → is_kept h k c r ≡ false
  unfolding is_kept
  none_keeps none =
      any_nowhere (λ s. list_any (stays s) (range_with_len 1 31)) (λ s. any_nowhere (stays s) (λ i. ap (λ b. b && not (drops k c s i)) (false_unless (is_ring r (k.ring_of s i)) (λ e. none s i (named r (k.ring_of s i) e)))) (range_with_len 1 31)) (range_with_len 1 255)

  -- one has it, which is the only one
  module _ (at : HasEndpoint k r) where
    bounds : (0 < at.slot) × (at.slot < 256) × (0 < at.index) × (at.index < 32)
    bounds = numbered h k keeps at.slot at.index r at.has

    kept_by : (b : Bool) → drops k c at.slot at.index ≡ b → is_kept h k c r ≡ not b
    unfolding is_kept
    kept_by false is = any_at (λ s. list_any (stays s) (range_with_len 1 31)) 255 1 at.slot (omega (arith, bounds.0)) (omega (arith, bounds.1))
        (any_at (stays at.slot) 31 1 at.index (omega (arith, bounds.2)) (omega (arith, bounds.3)) (λ j. is_same r (k.ring_of at.slot at.index) at.has j && not (is j)))
    kept_by true is =
        any_nowhere (λ s. list_any (stays s) (range_with_len 1 31)) (λ s. any_nowhere (stays s) (λ i. false_unless (stays s i) (λ e.
        let parts = and_parts (is_ring r (k.ring_of s i)) (not (drops k c s i)) e in
        let one = keeps.states.one_endpoint s i at.slot at.index r (named r (k.ring_of s i) parts.0) at.has in
        false≢true (sym (ap not ((λ j. drops k c (one.0 j) (one.1 j)) ∙ is)) ∙ parts.1))) (range_with_len 1 31)) (range_with_len 1 255)

    -- kept it is where its endpoint isn't dropped
    pub kept_is : is_kept h k c r ≡ not (drops k c at.slot at.index)
    kept_is = kept_by (drops k c at.slot at.index) refl

    left_at : (d : Command) → drops k d at.slot at.index ≡ true → list_any (λ i. leaves k d i r) (range_with_len 2 30) ≡ true
    unfolding drops
    left_at (ConfigureEndpoint s false n) is =
        let parts = and_parts (at.slot == s) (is_dropped k.memory n at.index) is in
        let of : at.slot ≡ s = eqb-true at.slot s parts.0 in
        let low : 2 ≤ at.index = (search (rules, nat_tests)) in
        any_at (λ i. leaves k (ConfigureEndpoint s false n) i r) 30 2 at.index low (omega (arith, bounds.3)) (search (rules, parts, is_same r (k.ring_of s at.index), of, at.has))
    left_at _ is = absurd (false≢true is)

    left_of : (d : Command) (i : ℕ) → leaves k d i r ≡ true → drops k d at.slot at.index ≡ true
    unfolding drops
    left_of (ConfigureEndpoint s false n) i is =
        let parts = and_parts (is_dropped k.memory n i) (is_ring r (k.ring_of s i)) is in
        let one = keeps.states.one_endpoint s i at.slot at.index r (named r (k.ring_of s i) parts.1) at.has in
        (λ j. eq-eqb at.slot s (sym one.0) j && (ap (is_dropped k.memory n) (sym one.1) ∙ parts.0) j)
    left_of _ i is = absurd (false≢true is)

    left_by : (b : Bool) → drops k c at.slot at.index ≡ b → list_any (λ i. leaves k c i r) (range_with_len 2 30) ≡ b
    left_by true is = left_at c is
    left_by false is = search (rules, any_nowhere, false_unless, left_of)

    -- and among the rings that the command drops where its endpoint is
    pub left_is : list_any (λ i. leaves k c i r) (range_with_len 2 30) ≡ drops k c at.slot at.index
    left_is = left_by (drops k c at.slot at.index) refl
