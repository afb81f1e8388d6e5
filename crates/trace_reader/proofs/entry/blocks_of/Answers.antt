use Rattle.trace_reader.proofs.Laws.{◌∙◌, ap, blocks_of, behind, nothing_behind}
use Rattle.trace_reader.proofs.entry.blocks_of.Goals as goal

pub returns-clause-ok : goal.returns-clause-ok
unfolding blocks_of
returns-clause-ok c = c.loop-word.invariant ∙ ap (λ fields. behind c.loop-word.blocks.items (blocks_of fields)) (c.in_default.ensures.none).0 ∙ nothing_behind c.loop-word.blocks.items
