-- A block as it is declared
use Rattle.ring_knowledge.proofs.Words.{rules, cycle_of_bit, same_words, with_cycle, ◌≡◌, ◌==◌, ℕ, if◌then◌else◌, nat_tests, Shape, cycle_of, true, Some, None, ap, sym, Block, is_declared_as, Option}

pub nothing_declared : (b : Block) (cycle : ℕ) (o : Option Block) → o ≡ None → true ≡ is_declared_as b cycle o
unfolding is_declared_as
nothing_declared b cycle o none = sym (ap (λ d. is_declared_as b cycle d) none)

pub declared_here : (b d : Block) (cycle : ℕ) (o : Option Block) → o ≡ Some d → same_words b (with_cycle d cycle) ≡ is_declared_as b cycle o
unfolding is_declared_as
declared_here b d cycle o here = sym (ap (λ e. is_declared_as b cycle e) here)

-- the Cycle bit as a number
pub cycle_bit : (shape : Shape) (p : ℕ) → (if cycle_of shape p == 1 then 1 else 0) ≡ cycle_of shape p
cycle_bit shape p = search (rules, cycle_of, cycle_of_bit, nat_tests)
