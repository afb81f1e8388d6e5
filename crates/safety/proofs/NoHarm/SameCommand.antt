-- A block is the same command with either Cycle bit
use Rattle.safety.proofs.Words.{◌≡◌, ◌<◌, ℕ, rules, Block, with_cycle, kind-with_cycle, slot-with_cycle, endpoint-with_cycle, is_set-with_cycle, command_of}

module _ (b : Block) (c : ℕ) (is_bit : c < 2) where
  pub command_of-with_cycle : command_of (with_cycle b c) ≡ command_of b
  command_of-with_cycle = search (rules, kind-with_cycle, is_set-with_cycle, slot-with_cycle, endpoint-with_cycle)
