use Rattle.trace_reader.proofs.Words.{◌≡◌, ◌++◌, take, flat_map, spaced, block_fields}
use Rattle.trace_reader.proofs.print.push_blocks.Given as goal

abbrev pub invariant-loop-block : goal.invariant-loop-block
invariant-loop-block l = l.out.items ≡ l.initial.out.items ++ spaced (flat_map block_fields (take l.block-index l.blocks))
