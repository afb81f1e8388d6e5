-- The Link that a producer writes leads on, and a block stands once its four words are written
use Rattle.cycle_ring.proofs.Words.{rules, ◌≡◌, ◌+◌, ◌-◌, ◌*◌, ◌/◌, ◌%◌, ◌^◌, ◌<◌, ◌∷◌, ◌∙◌, ℕ, suc, zero, Bool, true, false, not, [], Some, unwrap_or, arith, refl, sym, ap, eq-eqb, put, Block, is_set, aligned, block_at, word, with_cycle, kind, pointer, is_link, cycle-with_cycle, Shape, IsShape, cycle_of, link_crossed, link_address, link_target, toggles, same, is_wrong_link, link_of, leads_wrong, interrupts, address_aligned, cycle_of_bit, link_target-crossed, put_here, put_elsewhere, link_control, link_block}
use Rattle.cycle_ring.proofs.PlayedLemmas.{block_at-words}

-- the fields of a Link's control word

link_fields :
    (c : ℕ) (toggle chain : Bool) → c < 2
    → (is_link (kind (record { w = 0 ∷ 0 ∷ 0 ∷ link_control c toggle chain ∷ [] })) ≡ true)
    × (same (is_set (link_control c toggle chain) 1) toggle ≡ true) × (link_control c toggle chain % 2 ≡ c)
    × (is_set (link_control c toggle chain) 5 ≡ false)
link_fields zero true true h = (refl, refl, refl, refl)
link_fields zero true false h = (refl, refl, refl, refl)
link_fields zero false true h = (refl, refl, refl, refl)
link_fields zero false false h = (refl, refl, refl, refl)
link_fields (suc zero) true true h = (refl, refl, refl, refl)
link_fields (suc zero) true false h = (refl, refl, refl, refl)
link_fields (suc zero) false true h = (refl, refl, refl, refl)
link_fields (suc zero) false false h = (refl, refl, refl, refl)
link_fields (suc (suc c)) toggle chain h = absurd (omega arith)

whole_pointer : (t : ℕ) → t % 16 ≡ 0 → aligned (t % 2 ^ 32 + 2 ^ 32 * (t / 2 ^ 32)) ≡ t
whole_pointer t on = search rules

module _ (shape : Shape) (is : IsShape shape) (q i : ℕ) (chain : Bool) (crossed : link_crossed shape q ≡ Some i) where
  target_aligned : link_target shape i % 16 ≡ 0
  target_aligned = ap (λ a. a % 16) (sym (link_target-crossed shape is q i crossed)) ∙ address_aligned shape is q

  link_is_right : is_wrong_link shape i (link_block shape i (cycle_of shape (q - 1)) chain) ≡ false
  unfolding is_wrong_link
  link_is_right =
      search (rules, link_fields, cycle_of, toggles, cycle_of_bit, aligned, pointer, link_block, link_target, eq-eqb, whole_pointer, target_aligned, not)

  pub link_cycle : link_control (cycle_of shape (q - 1)) (toggles shape i) chain % 2 ≡ cycle_of shape (q - 1)
  link_cycle = (link_fields (cycle_of shape (q - 1)) (toggles shape i) chain (cycle_of_bit shape (q - 1))).2

  pub leads_right :
      (m : ℕ → ℕ) (a w : ℕ) → block_at (put m a w) (link_address shape q) ≡ link_block shape i (cycle_of shape (q - 1)) chain
      → (leads_wrong shape m a w q ≡ false) × (interrupts shape m a w q ≡ false)
  unfolding leads_wrong interrupts link_of
  leads_right m a w stands =
      search (rules, is_wrong_link, unwrap_or, block_at, put, link_address, link_is_right, is_set, word, link_fields, cycle_of, toggles, cycle_of_bit)

pub cycle_written : (shape : Shape) (p : ℕ) (b : Block) → word (with_cycle b (cycle_of shape p)) 3 % 2 ≡ cycle_of shape p
cycle_written shape p b = search (rules, cycle-with_cycle, cycle_of, cycle_of_bit, same)

-- memory after the four words of a block
pub four_puts :
    (m : ℕ → ℕ) (a w0 w1 w2 w3 : ℕ)
    → block_at (put (put (put (put m a w0) (a + 4) w1) (a + 8) w2) (a + 12) w3) a ≡ (let b : Block = record { w = w0 ∷ w1 ∷ w2 ∷ w3 ∷ [] } in b)
four_puts m a w0 w1 w2 w3 = search (rules, put, block_at-words, put_elsewhere, put_here)
