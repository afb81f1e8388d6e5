use Rattle.std.specs.List.{AllWithin}
use Rattle.trb.specs.Block.{IsBlock}
use Rattle.traces.proofs.row.read_blocks.Given as goal

-- so it is of the blocks so far
abbrev pub invariant-loop-block : goal.invariant-loop-block
invariant-loop-block l = AllWithin IsBlock l.blocks 0 l.block-index
