-- Words that are watched: what a write of another word leaves
use Rattle.controller_model.proofs.Words.{rules, ◌≡◌, ◌≢◌, ◌+◌, ◌<◌, ◌≤◌, ◌==◌, if◌then◌else◌, ℕ, zero, suc, Bool, false, nat_le, nat_lt, refl, sym, arith, le-ltb, eq-eqb, ne_eqb, le-leb, lt-ltb, list_any, range_with_len, cond-true, cond-false, false≢true, and_from, or_left, or_right, put, is_changed_behind, may_touch, none_in_range}

-- tests that agree on a range find the same there
pub any_alike : (p q : ℕ → Bool) (from n : ℕ) → ((i : ℕ) → from ≤ i → i < from + n → p i ≡ q i) → list_any p (range_with_len from n) ≡ list_any q (range_with_len from n)
any_alike p q from zero alike = refl
any_alike p q from (suc n) alike = grind (arith, any_alike p q (from + 1) n (λ i l h. alike i (omega arith) (omega arith)))

put_elsewhere : (f : ℕ → ℕ) (at step a : ℕ) → at ≢ a → put f at step a ≡ f a
put_elsewhere f at step a apart = cond-false (a == at) step (f a) (ne_eqb a at (λ same. apart (sym same)))

module _ (block first words at : ℕ) (is_changed : Bool) (untouched : may_touch block first words at is_changed ≡ false) where
  -- a write that doesn't touch them leaves the answer
  pub still_watched : (changed written changed' written' : ℕ → ℕ) (step : ℕ) →
      ((a : ℕ) → changed' a ≡ (if is_changed then put changed at step a else changed a)) → ((a : ℕ) → written' a ≡ put written at step a) →
      is_changed_behind changed written block first words ≡ is_changed_behind changed' written' block first words
  still_watched changed written changed' written' step changes writes = search (rules, any_alike, nat_lt, put_elsewhere, false≢true, or_left, nat_le, and_from, le-leb, eq-eqb, cond-true, or_right, lt-ltb, cond-false)

-- where no word was changed later than in a step, none was changed behind a block that was written in that step or later
pub none_later : (changed written : ℕ → ℕ) (last block first words : ℕ) → ((a : ℕ) → changed a ≤ last) → last ≤ written (block + 12) →
    is_changed_behind changed written block first words ≡ false
none_later changed written last block first words latest late = search (rules, none_in_range, nat_lt, le-ltb)
