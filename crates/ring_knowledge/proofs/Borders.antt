-- Borders between descriptors, by how long the descriptor is that begins at a position
use Rattle.ring_knowledge.proofs.MiddleLaws.{rules, ◌≡◌, ◌≤◌, ◌-◌, ◌+◌, ◌<◌, ◌∷◌, ◌∙◌, ◌==◌, ℕ, List, [], true, ap, sym, arith, length, slice_index, sum, eq-eqb, ne_eqb, cases_eq, cond-true, cond-false, or_left, Shape, RingView, is_border, length_from, RingRecord, ArePositive, FollowsMarks, sum-cons}

-- where a descriptor begins, there is a border
begins : (lengths : List ℕ) (start p : ℕ) → 0 < length_from lengths start p → is_border lengths start p ≡ true
unfolding is_border length_from
begins [] start p some = absurd (omega arith)
begins (n ∷ rest) start p some = search (rules, cases_eq, or_left, is_border, eq-eqb, cond-false, length_from, ne_eqb, begins rest (start + n) p)

-- where none begins, the only one is the end
ends : (lengths : List ℕ) (start p : ℕ) → ArePositive lengths → length_from lengths start p ≡ 0 → (p == start + sum lengths) ≡ is_border lengths start p
unfolding is_border length_from
ends [] start p positive none = search (rules, cases_eq, eq-eqb, ne_eqb)
ends (n ∷ rest) start p positive none = search (rules, cases_eq, cond-true, length_from, eq-eqb, cond-false, ne_eqb, sum, sum-cons, is_border, ends rest (start + n) p positive.1)

module _ (shape : Shape) (v : RingView) (r : RingRecord) (follows : FollowsMarks shape v r) where
  pub border_begins : (p : ℕ) → r.forgotten ≤ p → 0 < slice_index r.lengths.items (p - r.forgotten) → true ≡ is_border v.lengths 0 p
  border_begins p kept some = sym (begins v.lengths 0 p (omega (arith, follows.begins p kept, some)))

  pub border_ends : (p : ℕ) → r.forgotten ≤ p → slice_index r.lengths.items (p - r.forgotten) ≡ 0 → (p == length v.queue) ≡ is_border v.lengths 0 p
  border_ends p kept none =
      let end : length v.queue ≡ 0 + sum v.lengths = omega (arith, follows.whole) in
      ap (λ m. p == m) end ∙ ends v.lengths 0 p follows.positive (follows.begins p kept ∙ none)
