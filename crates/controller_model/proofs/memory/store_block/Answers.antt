use Rattle.controller_model.proofs.Laws.{held, held_four}
use Rattle.controller_model.proofs.memory.store_block.Goals as goal

pub returns : goal.returns
returns g c = record {
  stored =
      held_four (held (g.M.WordMemory.words c.args.memory.now) c.args.stamps.now) _ _ _ _ c.args.address _ _ _ _ c.args.step c.args.block
      c.word_at.ensures c.word_at-2.ensures c.word_at-3.ensures c.word_at-4.ensures
      c.in_ok-store.ensures.stored c.in_ok-store-2.ensures.stored c.in_ok-store-3.ensures.stored c.in_ok-store-4.ensures.stored;
}
