use Rattle.trace_reader.proofs.Laws.{◌≡◌, length, blocks_of, behind}
use Rattle.trace_reader.proofs.entry.blocks_of.Given as goal

-- the fields that are left
abbrev pub decreases-loop-word : goal.decreases-loop-word
decreases-loop-word l = length l.fields

abbrev pub invariant-loop-word : goal.invariant-loop-word
invariant-loop-word l = blocks_of l.fn.fields ≡ behind l.blocks.items (blocks_of l.fields)
