use Rattle.controller_model.proofs.Words.{◌≡◌, length, withdrawn_from}
use Rattle.controller_model.proofs.declared.Declarations.withdraw_from.Given as goal

-- the blocks from here on are still to be withdrawn
abbrev pub invariant-loop-place : goal.invariant-loop-place
invariant-loop-place l = record {
  onward : withdrawn_from l.self.blocks.items l.place ≡ withdrawn_from l.initial.self.blocks.items l.first;
  many : length l.self.blocks.items ≡ length l.initial.self.blocks.items;
}
