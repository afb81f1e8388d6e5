use Rattle.ring_knowledge.proofs.Laws.{refl, ◌∙◌, behind_block, behind_blocks}
use Rattle.ring_knowledge.proofs.ring_record.resets.behind_blocks.Goals as goal

pub returns-then-count-eq0-clause-behind : goal.returns-then-count-eq0-clause-behind
unfolding behind_blocks
returns-then-count-eq0-clause-behind c = rw c.if-count-eq0.true refl

pub returns-clause-behind : goal.returns-clause-behind
returns-clause-behind c = c.after.ensures.behind ∙ behind_block c.args.shape.now c.args.count c.if-count-eq0.false
