use Rattle.controller_model.proofs.Words.{◌≡◌, ◌++◌, take, entries}
use Rattle.controller_model.proofs.declared.Declarations.declare.Given as goal

-- so many blocks were added
abbrev pub invariant-loop-i : goal.invariant-loop-i
invariant-loop-i l = l.self.blocks.items ≡ l.initial.self.blocks.items ++ entries 0 l.last (take l.i l.blocks)
