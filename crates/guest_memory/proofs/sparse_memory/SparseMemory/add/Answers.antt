use Rattle.guest_memory.proofs.LowerLaws.{ℕ, List, ◌/◌, ◌%◌, refl, ap, arith, slice_index, ◌==◌, if◌then◌else◌, count, tree_linked, at_linked, words_linked}
use Rattle.guest_memory.proofs.sparse_memory.SparseMemory.add.Goals as goal

pub invariant_of-self-2 : goal.invariant_of-self-2
invariant_of-self-2 c = record {
  is_tree =
      tree_linked c.args.self.now.pages.items c.push.new.self.items _ c.index_mut.result.now _ c.args.number c.args.behind c.args.digit
      c.in-Ok.link c.args.self.now.is_tree c.requires c.in_ok-push.ensures.items refl refl c.index_mut.ensures.value
      c.index_mut.result.now.eight (omega arith) refl refl;
}

pub returns-clause-same : goal.returns-clause-same
returns-clause-same c = λ a.
    ap (λ (words : List ℕ). if a % 4 == 0 then slice_index words (a / 4 % 16) else 0)
    (words_linked c.args.self.now.pages.items c.push.new.self.items _ c.index_mut.result.now _ (a / 64) c.args.behind
    (omega (arith, count c.args.self.now.pages.items, c.requires.there)) c.in_ok-push.ensures.items refl c.index_mut.ensures.value
    refl refl)

pub returns-clause-ok : goal.returns-clause-ok
returns-clause-ok c =
    at_linked c.args.self.now.pages.items c.push.new.self.items _ c.index_mut.result.now _ c.args.number c.args.behind c.len-at.result
    c.in_ok-push.ensures.items refl c.index_mut.ensures.value (omega arith) refl
