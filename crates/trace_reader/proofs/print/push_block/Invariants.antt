use Rattle.trace_reader.proofs.Words.{◌≡◌, ◌++◌, map, take, w32, digits_of, spaced, Digits}
use Rattle.trace_reader.proofs.print.push_block.Given as goal

abbrev pub invariant-loop-word : goal.invariant-loop-word
invariant-loop-word l = l.out.items ≡ l.initial.out.items ++ spaced (map (λ w. Digits (digits_of w32 w)) (take l.word-index l.block.w))
