use Rattle.guest_memory.proofs.Written.{word_read, word_absent}
use Rattle.guest_memory.proofs.sparse_memory.SparseMemoryWordMemory.word.Goals as goal

pub returns-in-Some : goal.returns-in-Some
returns-in-Some c = record {
  same =
      word_read c.args.self.now.pages.items c.place-number.result.0 c.place-number.result.1 c.in-Some.page c.args.at c.index.result.now
      c.args.self.now.is_tree c.in-Some.ensures.some c.index.ensures c.place-number.ensures.page c.place-number.ensures.index
      c.place-number.ensures.aligned;
}

pub returns-in-None : goal.returns-in-None
returns-in-None c = record {
  same =
      word_absent c.args.self.now.pages.items c.place-number.result.0 c.args.at c.in-None.ensures.none c.place-number.ensures.page;
}
