-- What is asked of a write which gives one position, or one crossing
use Rattle.driver_rows.proofs.Words.{rules, ◌≡◌, ℕ, List, [], ◌∷◌, true, false, Some, None, refl, ap, sym, length, ◌==◌, not, nat_le, slice_get, slice_index, if◌then◌else◌, nat_tests, slice_get_within, put, Block, is_set, block_at, same_words, with_cycle, word, Shape, address_of, cycle_of, links, link_address, RingView, is_other_than_declared, is_declared_as, is_not_declared, leads_wrong, interrupts, is_wrong_link, link_of, cycle_of_bit, NotDeclared, first_broken, position_tests, arith, slice_get_cases}

nothing_there : (xs : List Block) (p : ℕ) → slice_get xs p ≡ None → nat_le (length xs) p ≡ true
nothing_there xs p none = grind (arith, slice_get_cases xs p, nat_tests)

-- the Cycle bit as a number
pub cycle_bit : (shape : Shape) (p : ℕ) → (if cycle_of shape p == 1 then 1 else 0) ≡ cycle_of shape p
cycle_bit shape p = search (rules, cycle_of_bit, nat_tests)

module _ (shape : Shape) (v : RingView) (memory : ℕ → ℕ) (a w p : ℕ) where
  -- nothing is declared there
  pub not_declared : slice_get v.queue p ≡ None → first_broken (position_tests shape v memory a w (p ∷ [])) ≡ Some NotDeclared
  unfolding is_other_than_declared is_declared_as is_not_declared
  not_declared none = rw (none, nothing_there v.queue p none) refl

  module _ (d given : Block) (at : slice_get v.queue p ≡ Some d) (is : given ≡ block_at (put memory a w) (address_of shape p)) where
    pub other_is : is_other_than_declared shape v memory a w p ≡ not (same_words given (with_cycle d (cycle_of shape p)))
    unfolding is_other_than_declared is_declared_as
    other_is = rw (at, is) refl

    pub declared_there : is_not_declared v p ≡ false
    unfolding is_not_declared
    declared_there = search (rules, slice_get_within, nat_tests)

-- the Link that is crossed
pub link_there : (shape : Shape) (q segment : ℕ) → segment ≡ link_of shape q → slice_index (links shape) segment ≡ link_address shape q
unfolding link_of
link_there shape q segment e = ap (λ i. slice_index (links shape) i) e

module _ (shape : Shape) (memory : ℕ → ℕ) (a w q segment : ℕ) (link : Block) (of : segment ≡ link_of shape q) (is : link ≡ block_at (put memory a w) (link_address shape q)) where
  pub wrong_is : leads_wrong shape memory a w q ≡ is_wrong_link shape segment link
  unfolding leads_wrong
  wrong_is = rw (of, is) refl

  pub interrupts_is : interrupts shape memory a w q ≡ is_set (word link 3) 5
  unfolding interrupts
  interrupts_is = ap (λ b. is_set (word b 3) 5) (sym is)
