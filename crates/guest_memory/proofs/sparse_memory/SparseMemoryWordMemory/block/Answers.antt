use Rattle.guest_memory.proofs.Written.{block_read, block_absent}
use Rattle.guest_memory.proofs.sparse_memory.SparseMemoryWordMemory.block.Goals as goal

pub returns-in-Some : goal.returns-in-Some
returns-in-Some c = record {
  block =
      block_read c.args.self.now.pages.items c.place-number.result.0 c.place-number.result.1 c.in-Some.page c.args.base c.index.result.now
      c.args.self.now.is_tree c.in-Some.ensures.some c.index.ensures c.place-number.ensures.page c.place-number.ensures.index
      c.requires.aligned;
}

pub returns-in-None : goal.returns-in-None
returns-in-None c = record {
  block =
      block_absent c.args.self.now.pages.items c.place-number.result.0 c.args.base c.in-None.ensures.none c.place-number.ensures.page
      c.requires.aligned;
}
