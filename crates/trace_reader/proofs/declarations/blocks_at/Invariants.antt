use Rattle.trace_reader.proofs.Words.{◌++◌, AreBlocks, Block, List, length}
use Rattle.trace_reader.proofs.declarations.blocks_at.Given as goal

-- the bytes that are left
abbrev pub decreases-loop-rest : goal.decreases-loop-rest
decreases-loop-rest l = length l.rest

-- with the blocks that are read so far, those of the rest are all
abbrev pub invariant-loop-rest : goal.invariant-loop-rest
invariant-loop-rest l = (later : List Block) → AreBlocks later l.rest → AreBlocks (l.blocks.items ++ later) l.fn.words
