use Rattle.guest_memory.proofs.Words.{◌∙◌, refl, word_of}
use Rattle.guest_memory.proofs.Written.{tree_written, word_written, put_same}
use Rattle.guest_memory.proofs.sparse_memory.SparseMemoryWordMemory.set.Goals as goal

pub invariant_of-self : goal.invariant_of-self
invariant_of-self c = record {
  is_tree =
      tree_written c.open.new.self.pages.items c.in_ok-page.page c.index_mut.result.now _ c.open.new.self.is_tree c.index_mut.ensures.value
      refl refl;
}

pub returns-clause-ok : goal.returns-clause-ok
returns-clause-ok c = λ a.
    word_written c.open.new.self.pages.items c.place-number.result.0 c.place-number.result.1 c.in_ok-page.page c.args.at c.args.value
    c.index_mut.result.now _ c.open.new.self.is_tree c.in_ok-page.ensures.ok c.index_mut.ensures.value refl refl
    c.index_mut.result.now.whole c.place-number.ensures.page c.place-number.ensures.index c.place-number.ensures.aligned a
    ∙ put_same (word_of c.open.new.self.pages.items) (word_of c.args.self.now.pages.items) c.args.at c.args.value a (c.in_ok-page.ensures.same a)
