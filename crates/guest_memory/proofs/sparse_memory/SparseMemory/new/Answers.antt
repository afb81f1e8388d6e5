use Rattle.guest_memory.proofs.PageWords.{word_none}
use Rattle.guest_memory.proofs.sparse_memory.SparseMemory.new.Goals as goal

pub returns : goal.returns
returns c = λ a. word_none _ a c.new.ensures.items
