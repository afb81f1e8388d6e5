-- The rings of the endpoints that flags drop, from an index on
use Rattle.driver_rows.proofs.MiddleLaws.{rules, ◌≡◌, ℕ, ◌+◌, ◌-◌, ◌<◌, ◌≤◌, ◌&&◌, ◌||◌, ◌∙◌, Bool, true, false, ap, sym, arith, inl, inr, nat_le, list_any, range_with_len, cases_lt, nat_tests, has_flag, Command, ConfigureEndpoint, is_ring, Known, unchanged, is_left, leaves, range_is}

none_left : (b c : Bool) → ((b && false) && c) ≡ false
none_left b c = search rules

module _ (k : Known) (flags s r : ℕ) where
  abbrev pub left_from : ℕ → Bool
  left_from i = list_any (λ j. is_left k flags s j r) (range_with_len i (32 - i))

  one_less : (i : ℕ) → i < 32 → left_from i ≡ (is_left k flags s i r || left_from (i + 1))
  one_less i below = ap (list_any (λ j. is_left k flags s j r)) (range_is i below)

  pub left_end : (i : ℕ) → 32 ≤ i → left_from i ≡ false
  left_end i past = ap (λ n. list_any (λ j. is_left k flags s j r) (range_with_len i n)) (let none : 32 - i ≡ 0 = omega (arith, past) in none)

  pub left_next : (i : ℕ) → 2 ≤ i → i < 32 → has_flag flags i ≡ true → left_from i ≡ (is_ring r (k.ring_of s i) || left_from (i + 1))
  left_next i low below set = search (rules, one_less, nat_tests)

  pub left_skipped : (i j : ℕ) → i ≤ j → ((t : ℕ) → i ≤ t → t < j → t < 32 → has_flag flags t ≡ false) → left_from i ≡ left_from j
  left_skipped i j low clear = unchanged left_from i j low (λ t first last. elim (cases_lt t 32) [
    | inl below ↦
        one_less t below
        ∙ ap (λ b. b || left_from (t + 1)) (ap (λ b. (nat_le 2 t && b) && is_ring r (k.ring_of s t)) (clear t first last below) ∙ none_left (nat_le 2 t) (is_ring r (k.ring_of s t)))
    | inr past ↦ left_end t past ∙ sym (left_end (t + 1) (omega (arith, past)))
  ])

-- other commands drop none
pub nothing_left : (k : Known) (r : ℕ) (c : Command) → ((s : ℕ) (dc : Bool) (a : ℕ) → c ≡ ConfigureEndpoint s dc a → ⊥) → list_any (λ i. leaves k c i r) (range_with_len 2 30) ≡ false
nothing_left k r c e = search rules
