-- Endpoints are disabled one after another
use Rattle.controller_model.proofs.LowerLaws.{rules, ◌≡◌, ◌+◌, ◌<◌, ◌≤◌, ◌==◌, ◌&&◌, ◌||◌, ◌∙◌, if◌then◌else◌, ◌∷◌, ℕ, suc, zero, not, Bool, true, false, List, [], Option, None, refl, ap, inl, inr, arith, nat_lt, eq-eqb, ne_eqb, lt-ltb, le-ltb, list_any, range_with_len, cases_eq, cases_lt, is_ring, World, disabled, has_one_of, freed, turned_off, put_pair_twice, or_false, none_in_range, and_true}

-- of a range with i, the test holds at most there
any_at : (m : Bool) (i from n : ℕ) → from ≤ i → i < from + n → list_any (λ j. j == i && m) (range_with_len from n) ≡ m
any_at m i from zero low high = absurd (omega arith)
any_at m i from (suc n) low high =
    elim (cases_eq from i) [
      | inl same ↦ grind (arith, eq-eqb, none_in_range, ne_eqb, or_false)
      | inr apart ↦
          (λ k. (ne_eqb from i apart k && m) || list_any (λ j. j == i && m) (range_with_len (from + 1) n))
          ∙ any_at m i (from + 1) n (omega arith) (omega arith)
    ]

module _ (w : World) (s i r : ℕ) where
  one_of : 0 < i → i < 32 → has_one_of w s (λ j. j == i) r ≡ is_ring r (w.ring_of s i)
  unfolding has_one_of
  one_of low high = (search (rules, ne_eqb)) ∙ any_at (is_ring r (w.ring_of s i)) i 1 31 (omega arith) (omega arith)

  none_of : i ≡ 0 → has_one_of w s (λ j. j == i) r ≡ false
  unfolding has_one_of
  none_of none = none_in_range (λ j. j == i && is_ring r (w.ring_of s j)) 1 31 (λ j low high. ap (λ b. b && is_ring r (w.ring_of s j)) (ne_eqb j i (λ e. omega arith)))

module _ (w : World) (s i : ℕ) where
  pub disabled_first : i ≡ 0 → disabled w s (λ j. j == i) ≡ turned_off w s i
  unfolding disabled
  disabled_first none = (λ k. record (turned_off w s i) { is_active = λ r. ((λ k. w.is_active r && not (none_of w s i r none k)) ∙ and_true (w.is_active r)) k })

  pub disabled_later : (o : Option ℕ) → w.ring_of s i ≡ o → 0 < i → i < 32 → disabled w s (λ j. j == i) ≡ turned_off (freed w s i o) s i
  unfolding disabled
  disabled_later o has low high = grind (arith, one_of, and_true, eq-eqb, ne_eqb, put_pair_twice)

-- the endpoints that one of two tests names
module _ (w : World) (s : ℕ) (p q : ℕ → Bool) where
  off : {A : Type 0} (b x y : Bool) (a z : A) → (if b && y then a else if b && x then a else z) ≡ (if b && (x || y) then a else z)
  off b x y a z = grind arith

  step : (r : ℕ) (x y : Bool) (o : Option ℕ) (P Q R : Bool) → (not P && not Q) ≡ not R →
      (not (x && is_ring r o || P) && not (y && is_ring r (if x then None else o) || Q)) ≡ not ((x || y) && is_ring r o || R)
  step r false false o P Q R e = search rules
  step r false true o P Q R e = search rules
  step r true y o P Q R e = search rules

  rest : (r : ℕ) (xs : List ℕ) →
      (not (list_any (λ i. p i && is_ring r (w.ring_of s i)) xs) && not (list_any (λ i. q i && is_ring r (if p i then None else w.ring_of s i)) xs))
      ≡ not (list_any (λ i. (p i || q i) && is_ring r (w.ring_of s i)) xs)
  rest r [] = refl
  rest r (x ∷ xs) = step r (p x) (q x) (w.ring_of s x) _ _ _ (rest r xs)

  three : (x y z : Bool) → (x && y && z) ≡ (x && (y && z))
  three x y z = grind arith

  after : (r : ℕ) → ((disabled w s p).is_active r && not (has_one_of (disabled w s p) s q r)) ≡ (w.is_active r && not (has_one_of w s (λ i. p i || q i) r))
  unfolding disabled has_one_of
  after r =
      ap (λ (t : ℕ → Bool). w.is_active r && not (list_any (λ i. p i && is_ring r (w.ring_of s i)) (range_with_len 1 31)) && not (list_any t (range_with_len 1 31)))
      (λ k i. q i && is_ring r (if eq-eqb s s refl k && p i then None else w.ring_of s i))
      ∙ three (w.is_active r) (not (list_any (λ i. p i && is_ring r (w.ring_of s i)) (range_with_len 1 31))) _
      ∙ ap (λ b. w.is_active r && b) (rest r (range_with_len 1 31))

  pub disabled_twice : disabled (disabled w s p) s q ≡ disabled w s (λ i. p i || q i)
  unfolding disabled
  disabled_twice = search (rules, off, after)

pub disabled_same : (w : World) (s : ℕ) (p q : ℕ → Bool) → ((i : ℕ) → p i ≡ q i) → disabled w s p ≡ disabled w s q
disabled_same w s p q same = ap (λ (t : ℕ → Bool). disabled w s t) (λ k i. same i k)

pub disabled_none : (w : World) (s : ℕ) → disabled w s (λ i. false) ≡ w
unfolding disabled has_one_of
disabled_none w s = search (rules, off, none_in_range, and_true)

-- the one with this index, where a test names it
pub only_unnamed : (p : ℕ → Bool) (k : ℕ) → p k ≡ false → (i : ℕ) → (p i && i == k) ≡ false
only_unnamed p k e i = search (rules, ne_eqb)

pub only_named : (p : ℕ → Bool) (k : ℕ) → p k ≡ true → (i : ℕ) → (p i && i == k) ≡ (i == k)
only_named p k e i = search (rules, ne_eqb)

-- those below a number, and the one with it
pub one_more : (p : ℕ → Bool) (k i : ℕ) → (p i && nat_lt i k || p i && i == k) ≡ (p i && nat_lt i (k + 1))
one_more p k i = search (rules, nat_lt, cases_lt, lt-ltb, le-ltb, eq-eqb, ne_eqb)

pub none_below : (p : ℕ → Bool) (i : ℕ) → (p i && nat_lt i 0) ≡ false
none_below p i = search (rules, nat_lt, le-ltb)

pub all_below : (p : ℕ → Bool) (n i : ℕ) → i < n → (p i && nat_lt i n) ≡ p i
all_below p n i below = ap (λ b. p i && b) (lt-ltb i n below) ∙ and_true (p i)
